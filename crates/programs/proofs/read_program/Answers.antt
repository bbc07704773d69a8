-- `programs::read_program` meets its contract: the buffer has room, so the text is there.
-- Assumes nothing.
use Prim.Native.Nat.{◌≤◌}
use native.Mathlib.Omega.{arith}
use lib.ListN.{length}
use Rattle.printing.specs.Texts.{read_room}
use Rattle.programs.specs.Inputs.{read_cells, program_text}
use Rattle.programs.proofs.Inputs.{text_put, text_room}
use Rattle.programs.proofs.read_program.Goals as goal

pub returns-in-Ok : goal.returns-in-Ok
returns-in-Ok c = let a = c.args in let e = c.answer_input.ensures in let short : length (program_text a.input.now) ≤ read_room read_cells = e.room in let told = (text_put (program_text a.input.now) a.out.now (omega (arith, short)) e.length e.bytes (c.in-Ok.is)) in record { length = told.0; bytes = told.1 }

pub returns-in-Err : goal.returns-in-Err
returns-in-Err c = let a = c.args in let e = c.answer_input.ensures in let short : length (program_text a.input.now) ≤ read_room read_cells = e.room in absurd (text_room (program_text a.input.now) a.out.now (omega (arith, short)) e.length e.bytes (c.in-Err.is))
