-- `packing::item_row` meets its contract: the rows are those of the table.
-- Assumes nothing.
use mathlib.Core.Path.{sym, ap}
use Rattle.types.specs.Rows.{rows}
use Rattle.rules.specs.Lists.{item_row}
use Rattle.packing.proofs.item_row.Goals as goal

pub returns-then-signs : goal.returns-then-signs
unfolding rows
returns-then-signs c = sym (ap item_row (c.if-signs.true))

pub returns : goal.returns
unfolding rows
returns c = sym (ap item_row (c.if-signs.false))
