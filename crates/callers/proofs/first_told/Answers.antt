-- `callers::first_told` meets its contract: it is what the next of `messages::first_told` gives.
-- Assumes nothing.
use Rattle.callers.proofs.first_told.Goals as goal

pub returns : goal.returns
returns g c = c.first_told.ensures.finds c.next.result c.next.new.self c.next.ensures.steps
