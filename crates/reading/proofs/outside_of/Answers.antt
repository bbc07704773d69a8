-- `reading::outside_of` meets its contract: the kind in the row's word is that of the row.
-- Assumes nothing.
use Rattle.reading.proofs.Walks.{told_by}
use Rattle.reading.proofs.outside_of.Goals as goal

pub returns : goal.returns
returns c = let a = c.args in rw (told_by a.rows.now a.row c.requires.0 c.word_at.result c.word_at.ensures.0, ← c.value_outside.ensures) c.named.ensures
