-- `reading::pair` meets its contract: two bytes, the low one first.
-- Assumes nothing.
use Rattle.reading.proofs.Windows.{two_bytes}
use Rattle.reading.proofs.pair.Goals as goal

pub returns : goal.returns
returns c = two_bytes c.args.b.now c.args.i c.requires c.wide-2.ensures c.wide.ensures
