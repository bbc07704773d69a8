-- `writing::hand_over` meets its contract: the message is copied where it is right and has room.
use native.Mathlib.Omega.{arith}
use mathlib.Core.Path.{◌≡◌, refl, sym, ap, ◌∙◌}
use Rattle.std.proofs.lemmas.List.{length-take, length-take-le}
use borrow.Author.Rules.{rules}
use Rattle.std.specs.Prelude.{Err}
use Rattle.answers.specs.Answers.{answered}
use Rattle.answers.proofs.Lent.{failed}
use Rattle.writing.proofs.Entry.{hand_kept, hand_done, copied_count}
use Rattle.writing.proofs.hand_over.Goals as goal

pub returns-in_err-done : goal.returns-in_err-done
returns-in_err-done c = λ got M. hand_kept M c.args.bytes.now (ap answered (sym c.in_err-done.was) ∙ c.judged.ensures) (failed c.in_err-done.field-0.0) (ap answered (let e : c.from_residual.result ≡ Err c.in_err-done.field-0.0 = search rules in e), refl)

pub slice_bounds-copy_front-end : goal.slice_bounds-copy_front-end
slice_bounds-copy_front-end c = sym (length-take-le _ _ (copied_count _ _ _ c.args.made.now (ap answered (sym c.in_ok-done.was) ∙ c.judged.ensures) refl c.requires).0)

pub returns : goal.returns
returns c = λ got M. hand_done M c.args.bytes.now (ap answered (sym c.in_ok-done.was) ∙ c.judged.ensures) refl c.requires (λ i. (c.slice_known-2-1.given i).fits) (c.copy_front.ensures.whole (simp length-take (omega (arith, copied_count _ _ _ c.args.made.now (ap answered (sym c.in_ok-done.was) ∙ c.judged.ensures) refl c.requires))))
