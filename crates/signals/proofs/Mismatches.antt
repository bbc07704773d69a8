-- What an answer tells.
-- Assumes nothing.
use Rattle.std.proofs.Common.{◌≡◌, ℕ, Err, ap}
use Rattle.answers.specs.Reasons.{reason_number}
use Rattle.answers.specs.declared.reasons.Reason.{Reason}
use Rattle.signals.specs.Mismatches.{mismatch, told}
use Rattle.signals.specs.Signal.{verdict}
use Rattle.signals.specs.declared.Mismatch.{Mismatch}

pub told_mismatch : {why : Mismatch} {reason : Reason} {node phase : ℕ} → why ≡ mismatch reason node phase → told (Err why) ≡ verdict (reason_number reason) node phase
unfolding told
told_mismatch e = ap (λ (m : Mismatch). told (Err m)) e
