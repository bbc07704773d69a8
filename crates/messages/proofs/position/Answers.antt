-- `messages::position` meets its contract: the place of the first, or how many there are.
-- Assumes nothing.
use mathlib.Core.Path.{◌∙◌}
use Rattle.messages.proofs.Keys.{position_place}
use Rattle.messages.proofs.position.Goals as goal

pub returns : goal.returns
returns c = c.unwrap_or.ensures ∙ position_place _ _ _ c.least-most.ensures c.first.ensures
