-- `messages::framed` meets its contract: a sheet that is no value is refused, else the frame has its message.
-- Assumes nothing.
use mathlib.Core.Path.{refl}
use Rattle.sheet.specs.Says.{choice_says}
use Rattle.messages.specs.Taking.{framed_by, framed_says}
use Rattle.passing.proofs.Laws.{handed}
use Rattle.messages.proofs.framed.Goals as goal

pub returns : goal.returns
unfolding framed_by framed_says
returns c = rw (← c.sole.ensures.answer, c.in_ok-sole.was) (c.chosen.ensures)

pub returns-in_err-sole : goal.returns-in_err-sole
unfolding framed_by framed_says choice_says
returns-in_err-sole c = rw (← c.sole.ensures.answer, c.in_err-sole.was, handed c.from_residual.ensures.1) (record { answer = refl; says = refl })
