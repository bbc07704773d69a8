-- The lent memory behind an answer: filled with 0, and as it was with any other number.
-- Assumes nothing.
use mathlib.Core.Path.{◌≡◌, refl, sym, ap, ◌∙◌}
use mathlib.Core.List.{List}
use borrow.Author.Tests.{eq-eqb, ne_eqb}
use Rattle.basics.specs.Lists.{filled}
use Rattle.answers.specs.declared.Answer.{Answer}
use Rattle.answers.specs.Answers.{answered, lent_after}
use native.Mathlib.Omega.{arith}
use Rattle.std.specs.Prelude.{Err}
use Rattle.answers.specs.declared.Failure.{Failure}
use Rattle.answers.specs.declared.Failure.TheVariants as failure
use Rattle.answers.proofs.Numbered.{reason_positive}

module _ {A : Type 0} (a : Answer) (made lent : List A) where
  pub lent_kept : ¬ (a.number ≡ 0) → lent_after a made lent ≡ lent
  unfolding lent_after
  lent_kept n = rw (ne_eqb a.number 0 n) refl

  pub lent_filled : a.number ≡ 0 → lent_after a made lent ≡ filled made lent
  unfolding lent_after
  lent_filled z = rw (eq-eqb a.number 0 z) refl

-- an answer that is the promised one, beside the memory as the code leaves it
module _ {A : Type 0} {promised : Answer} (made lent : List A) {a : Answer} (is : a ≡ promised) where
  pub kept_by : ¬ (a.number ≡ 0) → lent ≡ lent_after promised made lent
  kept_by n = sym (lent_kept promised made lent (λ z. n (ap (λ (x : Answer). x.number) is ∙ z)))

  pub made_by : {after : List A} → a.number ≡ 0 → after ≡ filled made lent → after ≡ lent_after promised made lent
  made_by z e = e ∙ sym (lent_filled promised made lent (sym (ap (λ (x : Answer). x.number) is) ∙ z))

-- a failure is told by another number than 0
pub failed : (f : Failure) → ¬ ((answered (Err f)).number ≡ 0)
failed (failure.Refused why) z = omega (arith, reason_positive why.reason)
failed (failure.NoRoom needed) z = omega arith

-- the number of an answer that is known
pub numbered : {a b : Answer} → a ≡ b → a.number ≡ b.number
numbered e = ap (λ (x : Answer). x.number) e
