-- What an answer tells: a reason has a number but 0, and the first entry that breaks a rule is the one that is named.
-- Assumes nothing.
use Rattle.std.proofs.Common.{◌≡◌, ℕ, suc, List, Option, Some, None, Result, Ok, Err, refl, sym, ap, ◌∙◌, arith}
use borrow.Author.Tests.{ne_eqb}
use lib.IntN.{ℤ}
use Rattle.answers.specs.Reasons.{reason_number}
use Rattle.answers.specs.declared.reasons.Reason.{Reason}
use Rattle.answers.proofs.Numbered.{reason_positive}
use Rattle.meaning.specs.Values.{Parts, Values}
use Rattle.sheet.specs.Values.{parts_of}
use Rattle.messages.specs.Seeking.{Sought}
use Rattle.messages.specs.Seeking.Sought.{at_end, told_here, told_later}
use Rattle.sheet.specs.declared.Listing.{Listing}
use Rattle.rules.specs.Breaches.{breach, broken, told, Judges}
use Rattle.rules.specs.Rsi.{ruling, passes, first_broken}
use Rattle.rules.specs.declared.Breach.{Breach}
use Rattle.rules.specs.Ruling.{Ruling}

pub numbered : (why : Reason) → reason_number why ≡ 0 → ⊥
numbered why z = omega (arith, z, reason_positive why)

-- ---- the first entry that breaks a rule

unfoldable pub named : Option (ℕ × Reason) → Ruling
named None = passes
named (Some (i, why)) = ruling (reason_number why) i

module _ (answers : ℕ → Option Reason → Type 0) (cells : List ℤ) (list : Listing) (row : ℕ) (rule : Parts → ℕ) (judges : Judges answers cells list row rule) where
  pub sought : (i : ℕ) (vs : Values) (first : Option (ℕ × Reason)) → Sought answers cells list row i vs first → named first ≡ first_broken rule i vs passes
  unfolding first_broken broken named
  sought i vs first at_end = refl
  sought i vs first (told_here {place = place} {v = v} {said = said} er S e) =
      let is : reason_number said ≡ rule (parts_of v) = judges place v (Some said) er S e in
      rw (← is, ne_eqb (reason_number said) 0 (numbered said)) refl
  sought i vs first (told_later {place = place} {v = v} {more = more} er S e later) =
      let is : 0 ≡ rule (parts_of v) = judges place v None er S e in
      rw (← is) (sought (suc i) more first later)

-- ---- an answer

pub told_breach : {b : Breach} {reason : Reason} {place : ℕ} → b ≡ breach reason place → told (Err b) ≡ ruling (reason_number reason) place
unfolding told
told_breach e = ap (λ (b : Breach). told (Err b)) e

pub told_fails : {checked : Result (Unit {0}) Breach} {breach : Breach} → checked ≡ Err breach → (told checked).number ≡ 0 → ⊥
unfolding told
told_fails {checked} {breach} e z = numbered breach.reason (sym (ap (λ (r : Result (Unit {0}) Breach). (told r).number) e) ∙ z)

pub told_passes : {checked : Result (Unit {0}) Breach} {done : Unit {0}} → checked ≡ Ok done → (told checked).number ≡ 0
unfolding told
told_passes e = ap (λ (r : Result (Unit {0}) Breach). (told r).number) e
