-- `writing::on` meets its contract: the next cell stands below the next place.
-- Assumes nothing.
use Rattle.walking.proofs.Packed.{on_went}
use Rattle.writing.proofs.on.Goals as goal

pub returns : goal.returns
returns c = on_went _ _ (c.requires.0) (c.requires.1)
