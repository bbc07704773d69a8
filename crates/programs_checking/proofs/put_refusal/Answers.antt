-- `programs_checking::put_refusal` meets its contract: a refusal has no cells, so the buffer has room.
-- Assumes nothing.
use Prim.Native.Nat.{ℕ}
use mathlib.Core.List.{List, []}
use mathlib.Core.Path.{ap, ◌∙◌}
use native.Mathlib.Omega.{arith}
use lib.ListN.{length}
use Rattle.basics.specs.Lists.{filled}
use Rattle.answers.specs.declared.Answer.{Answer}
use Rattle.types.specs.Named.{first_edition}
use Rattle.printing.specs.Texts.{read_text}
use Rattle.programs.proofs.Inputs.{text_put, text_room}
use Rattle.programs_checking.proofs.put_refusal.Goals as goal

pub returns-in-Ok : goal.returns-in-Ok
returns-in-Ok c = let a = c.args in let e = c.print_read.ensures in let t = read_text first_edition c.from.result [] in let told = (text_put t a.out.now (omega (arith, e.room, c.requires)) e.length e.bytes c.in-Ok.is) in
    record { length = told.0 ∙ ap (λ (x : Answer). length (read_text first_edition x [])) (c.from.ensures); bytes = told.1 ∙ ap (λ (x : Answer). filled (read_text first_edition x []) a.out.now) (c.from.ensures) }

pub returns-in-Err : goal.returns-in-Err
returns-in-Err c = let a = c.args in let e = c.print_read.ensures in absurd (text_room (read_text first_edition c.from.result []) a.out.now (omega (arith, e.room, c.requires)) e.length e.bytes c.in-Err.is)
