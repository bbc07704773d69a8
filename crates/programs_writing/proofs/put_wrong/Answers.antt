-- `programs_writing::put_wrong` meets its contract: the buffer has room, so the text is there.
-- Assumes nothing.
use native.Mathlib.Omega.{arith}
use Rattle.parsing.specs.Complaints.{complaint}
use Rattle.programs.proofs.Inputs.{text_put, text_room}
use Rattle.programs_writing.proofs.put_wrong.Goals as goal

pub returns-in-Ok : goal.returns-in-Ok
returns-in-Ok c = let a = c.args in let e = c.print_wrong.ensures in let t = complaint a.parsed in let told = (text_put t a.out.now (omega (arith, e.room, c.requires)) e.length e.bytes (c.in-Ok.is)) in record { length = told.0; bytes = told.1 }

pub returns-in-Err : goal.returns-in-Err
returns-in-Err c = let a = c.args in let e = c.print_wrong.ensures in absurd (text_room (complaint a.parsed) a.out.now (omega (arith, e.room, c.requires)) e.length e.bytes (c.in-Err.is))
