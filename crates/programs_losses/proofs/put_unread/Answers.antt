-- `programs_losses::put_unread` meets its contract: three numbers behind one another, in a buffer that has room for them.
-- Assumes nothing.
use Prim.Native.Nat.{ℕ, ◌<◌, ◌^◌}
use mathlib.Core.Path.{ap, ◌∙◌}
use native.Mathlib.Omega.{arith}
use lib.ListN.{length}
use Rattle.basics.specs.Lists.{filled}
use Rattle.answers.specs.declared.Answer.{Answer}
use Rattle.printing.specs.Texts.{ascii}
use Rattle.printing.proofs.Appending.{then}
use Rattle.programs_losses.specs.Lines.{unread_line}
use Rattle.programs_losses.proofs.Lines.{unread_front}
use Rattle.programs_losses.proofs.put_unread.Goals as goal

pub returns : goal.returns
unfolding ascii
returns c = let h : length c.args.out.now < 2 ^ 64 = omega arith in let told = unread_front c.requires h c.args.at c.from-answer.result (omega arith) (omega arith) (omega arith) (then h (then h (then h c.put_labelled-number.ensures c.put_labelled-place.ensures) c.put_labelled-end.ensures) c.append.ensures) in
    record { length = told.0 ∙ ap (λ (x : Answer). length (unread_line c.args.at x)) (c.from-answer.ensures); bytes = told.1 ∙ ap (λ (x : Answer). filled (unread_line c.args.at x) c.args.out.now) (c.from-answer.ensures) }
