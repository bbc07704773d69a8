-- `findings::put_mismatch` meets its contract: the line of each reason, and of any other.
-- Assumes nothing.
use native.Mathlib.Omega.{arith}
use Rattle.answers.specs.Reasons.{reason_number}
use Rattle.answers.proofs.Numbered.{reason_small}
use Rattle.answers.specs.declared.reasons.Reason.TheVariants as reason
use Rattle.printing.specs.Texts.{ascii}
use Rattle.rules.proofs.Breaches.{numbered}
use Rattle.findings.specs.Lines.{verdict_line}
use Rattle.findings.proofs.Lines.{other_verdict, verdict_short}
use Rattle.findings.proofs.Told.{unlike}
use Rattle.findings.proofs.put_mismatch.Goals as goal

pub returns-in-RepeatedSignal : goal.returns-in-RepeatedSignal
unfolding ascii verdict_line
returns-in-RepeatedSignal c = record { text = rw c.in-RepeatedSignal.is c.append_sentence.ensures; short = verdict_short (reason_number c.args.reason) c.args.node (omega (arith, reason_small c.args.reason)) (omega arith) c.args.phase (omega arith) }

pub returns-in-PhaseNotListed : goal.returns-in-PhaseNotListed
unfolding ascii verdict_line
returns-in-PhaseNotListed c = record { text = rw c.in-PhaseNotListed.is c.put_two.ensures; short = verdict_short (reason_number c.args.reason) c.args.node (omega (arith, reason_small c.args.reason)) (omega arith) c.args.phase (omega arith) }

pub returns-in_default : goal.returns-in_default
unfolding ascii
returns-in_default c = record { text = rw (other_verdict (reason_number c.args.reason) c.args.node c.args.phase (numbered c.args.reason) (unlike c.args.reason reason.RepeatedSignal c.in_default.not-RepeatedSignal) (unlike c.args.reason reason.PhaseNotListed c.in_default.not-PhaseNotListed), ← c.number.ensures.is) c.put_two-in_default.ensures; short = verdict_short (reason_number c.args.reason) c.args.node (omega (arith, reason_small c.args.reason)) (omega arith) c.args.phase (omega arith) }
