-- `participants::judge` meets its contract: a participant that repeats an earlier one, no unit, or what the fields come to.
-- Assumes nothing.
use Rattle.std.proofs.Common.{◌∙◌, rules, arith}
use Rattle.participants.specs.Rsm.{unit_id, field_rule}
use Rattle.participants.proofs.Types.{participant_known}
use Rattle.participants.proofs.Frame.{some_repeats, no_unit, the_fields}
use Rattle.rules.proofs.Breaches.{told_breach}
use Rattle.participants.proofs.judge.Goals as goal

pub returns-in-Some : goal.returns-in-Some
returns-in-Some c = λ vs W. told_breach c.new.ensures ∙ some_repeats vs (c.in-Some.ensures vs W)

pub returns-then-count-position : goal.returns-then-count-position
returns-then-count-position c = λ vs W. let N = c.in_default.ensures vs W in told_breach c.new-then-count-position.ensures ∙ no_unit vs N.0 (N.1.none unit_id (omega (arith, c.position.ensures)))

pub returns : goal.returns
returns c = λ vs W. let N = c.in_default.ensures vs W in the_fields vs N.0 (N.1.one unit_id (omega (arith, c.position.ensures))) (c.first_breach.ensures c.requires.0 field_rule _ vs participant_known W (λ place v said er S e. search rules))
