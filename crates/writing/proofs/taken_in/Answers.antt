-- `writing::taken_in` meets its contract.
-- Assumes nothing.
use Rattle.writing.proofs.taken_in.Goals as goal

pub taken-requires : goal.taken-requires
taken-requires c = (c.requires.1, c.low_in.ensures.1, c.span_in.ensures.1)

pub returns : goal.returns
returns c = rw (← c.low_in.ensures.0, ← c.span_in.ensures.0) (c.taken.ensures)
