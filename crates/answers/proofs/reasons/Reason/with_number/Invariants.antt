-- No reason that was looked at is told by the number.
use Rattle.std.proofs.Common.{◌≡◌, ℕ, drop}
use Rattle.answers.specs.Reasons.{every_reason, first_with, reason_with}
use Rattle.answers.proofs.reasons.Reason.with_number.Given as goal

abbrev pub invariant-loop-reason : goal.invariant-loop-reason
invariant-loop-reason l = first_with l.fn.number (drop l.reason-index l.reason-items) ≡ reason_with l.fn.number
