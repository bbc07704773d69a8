-- `findings::put_lack` meets its contract: the line of each reason, and of any other.
-- Assumes nothing.
use native.Mathlib.Omega.{arith}
use Rattle.answers.specs.Reasons.{reason_number}
use Rattle.answers.proofs.Numbered.{reason_small}
use Rattle.answers.specs.declared.reasons.Reason.TheVariants as reason
use Rattle.printing.specs.Texts.{ascii}
use Rattle.rules.proofs.Breaches.{numbered}
use Rattle.findings.specs.Lines.{profile_line}
use Rattle.findings.proofs.Lines.{other_profile, profile_short}
use Rattle.findings.proofs.Told.{unlike}
use Rattle.findings.proofs.put_lack.Goals as goal

pub returns-in-RepeatedId : goal.returns-in-RepeatedId
unfolding ascii profile_line
returns-in-RepeatedId c = record { text = rw c.in-RepeatedId.is c.append_sentence.ensures; short = profile_short (reason_number c.args.reason) c.args.entry (omega (arith, reason_small c.args.reason)) (omega arith) }

pub returns-in-UnitMissing : goal.returns-in-UnitMissing
unfolding ascii profile_line
returns-in-UnitMissing c = record { text = rw c.in-UnitMissing.is c.append.ensures; short = profile_short (reason_number c.args.reason) c.args.entry (omega (arith, reason_small c.args.reason)) (omega arith) }

pub returns-in-FieldMissing : goal.returns-in-FieldMissing
unfolding ascii profile_line
returns-in-FieldMissing c = record { text = rw c.in-FieldMissing.is c.append_sentence-in-FieldMissing.ensures; short = profile_short (reason_number c.args.reason) c.args.entry (omega (arith, reason_small c.args.reason)) (omega arith) }

pub returns-in_default : goal.returns-in_default
unfolding ascii
returns-in_default c = record { text = rw (other_profile (reason_number c.args.reason) c.args.entry (numbered c.args.reason) (unlike c.args.reason reason.RepeatedId c.in_default.not-RepeatedId) (unlike c.args.reason reason.UnitMissing c.in_default.not-UnitMissing) (unlike c.args.reason reason.FieldMissing c.in_default.not-FieldMissing), ← c.number.ensures.is) c.put_two.ensures; short = profile_short (reason_number c.args.reason) c.args.entry (omega (arith, reason_small c.args.reason)) (omega arith) }
