-- `writing::number` meets its contract.
-- Assumes nothing.
use native.Mathlib.Omega.{arith}
use Rattle.writing.proofs.Leaves.{gathered_stops, gathered_put}
use Rattle.writing.proofs.number.Goals as goal

pub taken_in-n-requires : goal.taken_in-n-requires
taken_in-n-requires c = (c.requires.0, c.requires.1.few)

pub returns-then-n-ge-REFUSED : goal.returns-then-n-ge-REFUSED
returns-then-n-ge-REFUSED c = gathered_stops (c.taken_in-n.result) (c.taken_in-n.ensures.gathered) (c.if-n-ge-REFUSED.true)

pub put-next-requires : goal.put-next-requires
put-next-requires c = (c.width_in.ensures.1, rw (c.width_in.ensures.0) (c.taken_in-n.ensures.gathered.held (c.if-n-ge-REFUSED.false)), c.requires.1.near, c.requires.1.clean)

pub on-requires : goal.on-requires
on-requires c = (omega (arith, c.requires.1.few, c.taken_in-n.ensures.gathered.within (c.if-n-ge-REFUSED.false)), omega (arith, c.put-next.ensures.counted))

pub returns : goal.returns
returns c = rw (c.on.ensures) (gathered_put (c.taken_in-n.result) (c.taken_in-n.ensures.gathered) (c.width_in.result) (c.if-n-ge-REFUSED.false) (c.width_in.ensures.0) (c.put-next.ensures.counted) (c.put-next.ensures.stored))
