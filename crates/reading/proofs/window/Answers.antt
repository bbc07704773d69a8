-- `reading::window` meets its contract: two halves of four bytes.
-- Assumes nothing.
use Rattle.reading.proofs.Windows.{eight_bytes}
use Rattle.reading.proofs.window.Goals as goal

pub returns : goal.returns
returns c = eight_bytes c.args.b.now c.args.i c.requires c.half-2.ensures.0 c.half.ensures.0
