-- `programs_writing::put_written` meets its contract: the buffer has room, so the text is there.
-- Assumes nothing.
use mathlib.Core.List.{List}
use mathlib.Core.Path.{◌≡◌, ap, ◌∙◌}
use Prim.Native.Nat.{ℕ}
use native.Mathlib.Omega.{arith}
use lib.ListN.{length}
use Rattle.basics.specs.Lists.{filled}
use Rattle.answers.specs.declared.Answer.{Answer}
use Rattle.printing.specs.Texts.{written_text}
use Rattle.programs.proofs.Inputs.{text_put, text_room}
use Rattle.programs_writing.proofs.put_written.Goals as goal

pub returns-in-Ok : goal.returns-in-Ok
returns-in-Ok c = let a = c.args in let e = c.print_written.ensures in let t = written_text c.from.result a.bytes.now in let told = (text_put t a.out.now (omega (arith, e.room, c.requires)) e.length e.bytes (c.in-Ok.is)) in
    record { length = told.0 ∙ ap (λ (x : Answer). length (written_text x a.bytes.now)) (c.from.ensures); bytes = told.1 ∙ ap (λ (x : Answer). filled (written_text x a.bytes.now) a.out.now) (c.from.ensures) }

pub returns-in-Err : goal.returns-in-Err
returns-in-Err c = let a = c.args in let e = c.print_written.ensures in absurd (text_room (written_text c.from.result a.bytes.now) a.out.now (omega (arith, e.room, c.requires)) e.length e.bytes (c.in-Err.is))
