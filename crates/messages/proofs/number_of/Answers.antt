-- `messages::number_of` meets its contract, by what stands for the component.
-- Assumes nothing.
use mathlib.Core.Path.{refl}
use Rattle.messages.specs.Taking.{number_from}
use Rattle.messages.proofs.number_of.Goals as goal

pub returns-in-Ok-Some : goal.returns-in-Ok-Some
unfolding number_from
returns-in-Ok-Some c = rw (← c.component.ensures.answer, c.in-Ok-Some.is, c.in-Ok-Some.field-0-is) (c.value.ensures)

pub returns-in-Ok-None : goal.returns-in-Ok-None
unfolding number_from
returns-in-Ok-None c = rw (← c.component.ensures.answer, c.in-Ok-None.is, c.in-Ok-None.field-0-is) refl

pub returns-in-Err : goal.returns-in-Err
unfolding number_from
returns-in-Err c = rw (← c.component.ensures.answer, c.in-Err.is) refl
