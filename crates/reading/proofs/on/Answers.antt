-- `reading::on` meets its contract: the place stands below the next cell.
-- Assumes nothing.
use Rattle.walking.proofs.Packed.{on_went}
use Rattle.reading.proofs.on.Goals as goal

pub returns : goal.returns
returns c = on_went _ _ (c.requires.0) (c.requires.1)
