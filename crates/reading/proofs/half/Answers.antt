-- `reading::half` meets its contract: two pairs of bytes.
-- Assumes nothing.
use Rattle.reading.proofs.Windows.{four_bytes}
use Rattle.reading.proofs.half.Goals as goal

pub returns : goal.returns
returns c = four_bytes c.args.b.now c.args.i c.requires c.pair-2.ensures c.pair.ensures
