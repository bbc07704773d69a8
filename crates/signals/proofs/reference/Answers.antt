-- `signals::reference` meets its contract: an id alone, or a region and an id.
-- Assumes nothing.
use Rattle.std.proofs.Common.{Ok, ap, ◌∙◌}
use Rattle.signals.proofs.Referring.{reference_alone, reference_within, reference_absent, reference_given}
use Rattle.signals.proofs.reference.Goals as goal

pub returns-then-has : goal.returns-then-has
returns-then-has c = λ v refers S. reference_within _ (c.requires) _ _ _ refers S (c.component.ensures.answer) (c.in-Ok-Some.is ∙ ap Ok c.in-Ok-Some.field-0-is) (c.number_of-id.ensures) (c.has.ensures) (c.if-has.true) (c.number_of-region.ensures)

pub returns-else-has : goal.returns-else-has
returns-else-has c = λ v refers S. reference_alone _ (c.requires) _ _ _ refers S (c.component.ensures.answer) (c.in-Ok-Some.is ∙ ap Ok c.in-Ok-Some.field-0-is) (c.number_of-id.ensures) (c.has.ensures) (c.if-has.false)

pub returns-in-Ok-None : goal.returns-in-Ok-None
returns-in-Ok-None c = λ v refers S. reference_absent _ (c.requires) _ _ _ refers S (c.component.ensures.answer) (c.in-Ok-None.is ∙ ap Ok c.in-Ok-None.field-0-is)

pub returns-in-Err : goal.returns-in-Err
returns-in-Err c = λ v refers S. absurd (reference_given _ (c.requires) _ _ _ refers S (c.component.ensures.answer) (c.in-Err.is))
