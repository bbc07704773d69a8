-- `reading::sized` meets its contract: a size that is not coded has no cell.
-- Assumes nothing.
use borrow.Author.Tests.{ne_eqb}
use Rattle.reading.proofs.Steps.{filled_none, filled_one}
use Rattle.reading.proofs.sized.Goals as goal

pub returns-then-span-eq0 : goal.returns-then-span-eq0
returns-then-span-eq0 c = rw c.if-span-eq0.true (filled_none c.requires.2)

pub put_value-requires : goal.put_value-requires
put_value-requires c = c.requires

pub returns : goal.returns
returns c = rw (ne_eqb _ 0 c.if-span-eq0.false) (filled_one c.requires.2 c.put_value.ensures.0 c.put_value.ensures.1)
