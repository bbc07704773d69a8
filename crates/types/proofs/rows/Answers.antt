-- `types::rows` meets its contract: the constant of the code is the table of specs/, number by number. antt computes both.
-- Assumes nothing.
use Rattle.types.specs.Rows.{rows}
use Rattle.types.specs.Table.{flat, gathered, with, place}
use Rattle.types.proofs.Computed.{options_sum, words_by_sums, computed, computed_is}
use Rattle.types.proofs.rows.Goals as goal

pub returns : goal.returns
unfolding rows computed flat gathered with place options_sum words_by_sums
returns c = computed_is rows
