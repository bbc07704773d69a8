-- One answer of the code only tells what it tells, with one state of the rows behind it. Assumes nothing.
use Rattle.std.proofs.Common.{◌≡◌, ℕ, Result, Ok, Err, sym, ap}
use Rattle.answers.specs.declared.reasons.Reason.{Reason}
use Rattle.answers.proofs.Numbered.{told_done, numbers_differ}
use Rattle.parties.specs.declared.Parties.{Parties}
use Rattle.parties.specs.Parties.{Answered, answered_with}

pub answered_apart : (p q : Parties) (r s : Result ℕ Reason) → answered_with p r ≡ answered_with q s → (p ≡ q) × (r ≡ s)
answered_apart p q (Ok m) (Ok n) e = (ap (λ (a : Answered). a.parties) e, ap Ok (ap (λ (a : Answered). a.row) e))
answered_apart p q (Ok m) (Err why) e = absurd (told_done why (sym (ap (λ (a : Answered). a.number) e)))
answered_apart p q (Err why) (Ok n) e = absurd (told_done why (ap (λ (a : Answered). a.number) e))
answered_apart p q (Err why) (Err other) e = (ap (λ (a : Answered). a.parties) e, ap Err (numbers_differ why other (ap (λ (a : Answered). a.number) e)))
