-- What an answer tells passes where nothing is wrong; and two reasons that differ have two numbers.
-- Assumes nothing.
use Rattle.std.proofs.Common.{◌≡◌, Result, Ok, Err, Some, refl, sym, ap, ◌∙◌}
use Rattle.std.specs.Result.{is_ok}
use borrow.Author.Tests.{ne_eqb}
use lib.Dec.{eqb}
use Rattle.answers.specs.Reasons.{reason_number, reason_with}
use Rattle.answers.specs.declared.reasons.Reason.{Reason}
use Rattle.answers.proofs.Numbered.{reason_found}
use Rattle.rules.specs.Breaches as breaches
use Rattle.rules.specs.declared.Breach.{Breach}
use Rattle.rules.proofs.Breaches.{numbered}
use Rattle.signals.specs.Mismatches as mismatches
use Rattle.signals.specs.declared.Mismatch.{Mismatch}

pub ruling_passes : (checked : Result (Unit {0}) Breach) → is_ok checked ≡ eqb (breaches.told checked).number 0
unfolding breaches.told
ruling_passes (Ok done) = refl
ruling_passes (Err why) = sym (ne_eqb (reason_number why.reason) 0 (numbered why.reason))

pub verdict_passes : (checked : Result (Unit {0}) Mismatch) → is_ok checked ≡ eqb (mismatches.told checked).number 0
unfolding mismatches.told
verdict_passes (Ok done) = refl
verdict_passes (Err why) = sym (ne_eqb (reason_number why.reason) 0 (numbered why.reason))

pub unlike : (a b : Reason) → ¬ (a ≡ b) → ¬ (reason_number a ≡ reason_number b)
unlike a b isnt e =
    let both : Some a ≡ Some b = sym (reason_found a) ∙ ap reason_with e ∙ reason_found b in
    let same : a ≡ b = cc in
    isnt same
