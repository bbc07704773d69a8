-- What the code answers in place of a number, a node and a phase: why the two messages fail, if they do, and where.
use Rattle.std.specs.Prelude.{ℕ, Result, Ok, Err}
use Rattle.answers.specs.Reasons.{reason_number}
use Rattle.answers.specs.declared.reasons.Reason.{Reason}
use Rattle.signals.specs.Signal.{verdict, agrees}
use Rattle.signals.specs.declared.Mismatch.{Mismatch}
use Rattle.signals.specs.Verdict.{Verdict}

abbrev pub mismatch : Reason → ℕ → ℕ → Mismatch
mismatch reason node phase = record { reason = reason; node = node; phase = phase }

-- the verdict that an answer tells
unfoldable pub told : Result (Unit {0}) Mismatch → Verdict
told (Ok done) = agrees
told (Err why) = verdict (reason_number why.reason) why.node why.phase
