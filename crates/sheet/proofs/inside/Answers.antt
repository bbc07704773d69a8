-- `sheet::inside` meets its contract: below, above and inside the range.
-- Assumes nothing.
use mir.Facts.{to_z-of_z}
use Rattle.types.specs.Table.{lowest_of}
use Rattle.passing.proofs.Signs.{range_below, range_beyond, range_within, lowest_fits, lowest_read, highest_fits, highest_read}
use Rattle.sheet.proofs.inside.Goals as goal

pub overflow_sub-lowest : goal.overflow_sub-lowest
overflow_sub-lowest c = lowest_fits (c.requires.0)

pub returns-then-cell-lowest : goal.returns-then-cell-lowest
returns-then-cell-lowest c = let S = c.before in range_below S.args.span S.args.cell (lowest_of S.args.low) (rw (to_z-of_z S.ranges.cell, lowest_read S.requires.0) at c.if-cell-lowest.true)

pub overflow_add-lowest : goal.overflow_add-lowest
overflow_add-lowest c = highest_fits (c.requires.0) (c.requires.1)

pub returns-then-lowest-span : goal.returns-then-lowest-span
returns-then-lowest-span c = let S = c.before.before in range_beyond S.args.span S.args.cell (lowest_of S.args.low) (rw (to_z-of_z S.ranges.cell, lowest_read S.requires.0) at c.if-cell-lowest.false) (rw (to_z-of_z S.ranges.cell, highest_read S.requires.0 S.requires.1) at c.if-lowest-span.true)

pub returns : goal.returns
returns c = let S = c.before.before in range_within S.args.span S.args.cell (lowest_of S.args.low) (rw (to_z-of_z S.ranges.cell, lowest_read S.requires.0) at c.if-cell-lowest.false) (rw (to_z-of_z S.ranges.cell, highest_read S.requires.0 S.requires.1) at c.if-lowest-span.false)
