-- `findings::put_breach` meets its contract: the line of each reason, and of any other.
-- Assumes nothing.
use native.Mathlib.Omega.{arith}
use Rattle.answers.specs.Reasons.{reason_number}
use Rattle.answers.proofs.Numbered.{reason_small}
use Rattle.answers.specs.declared.reasons.Reason.TheVariants as reason
use Rattle.printing.specs.Texts.{ascii}
use Rattle.rules.proofs.Breaches.{numbered}
use Rattle.findings.specs.Lines.{ruling_line}
use Rattle.findings.proofs.Lines.{other_ruling, ruling_short}
use Rattle.findings.proofs.Told.{unlike}
use Rattle.findings.proofs.put_breach.Goals as goal

pub returns-in-EventPosition : goal.returns-in-EventPosition
unfolding ascii ruling_line
returns-in-EventPosition c = record { text = rw c.in-EventPosition.is c.append_sentence.ensures; short = ruling_short (reason_number c.args.reason) c.args.entry (omega (arith, reason_small c.args.reason)) (omega arith) }

pub returns-in-EventReach : goal.returns-in-EventReach
unfolding ascii ruling_line
returns-in-EventReach c = record { text = rw c.in-EventReach.is c.append_sentence-in-EventReach.ensures; short = ruling_short (reason_number c.args.reason) c.args.entry (omega (arith, reason_small c.args.reason)) (omega arith) }

pub returns-in-SignPosition : goal.returns-in-SignPosition
unfolding ascii ruling_line
returns-in-SignPosition c = record { text = rw c.in-SignPosition.is c.append_sentence-in-SignPosition.ensures; short = ruling_short (reason_number c.args.reason) c.args.entry (omega (arith, reason_small c.args.reason)) (omega arith) }

pub returns-in-SignDescription : goal.returns-in-SignDescription
unfolding ascii ruling_line
returns-in-SignDescription c = record { text = rw c.in-SignDescription.is c.append_sentence-in-SignDescription.ensures; short = ruling_short (reason_number c.args.reason) c.args.entry (omega (arith, reason_small c.args.reason)) (omega arith) }

pub returns-in-SignReach : goal.returns-in-SignReach
unfolding ascii ruling_line
returns-in-SignReach c = record { text = rw c.in-SignReach.is c.append_sentence-in-SignReach.ensures; short = ruling_short (reason_number c.args.reason) c.args.entry (omega (arith, reason_small c.args.reason)) (omega arith) }

pub returns-in_default : goal.returns-in_default
unfolding ascii
returns-in_default c = record { text = rw (other_ruling (reason_number c.args.reason) c.args.entry (numbered c.args.reason) (unlike c.args.reason reason.EventPosition c.in_default.not-EventPosition) (unlike c.args.reason reason.EventReach c.in_default.not-EventReach) (unlike c.args.reason reason.SignPosition c.in_default.not-SignPosition) (unlike c.args.reason reason.SignDescription c.in_default.not-SignDescription) (unlike c.args.reason reason.SignReach c.in_default.not-SignReach), ← c.number.ensures.is) c.put_two.ensures; short = ruling_short (reason_number c.args.reason) c.args.entry (omega (arith, reason_small c.args.reason)) (omega arith) }
