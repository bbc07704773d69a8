-- `writing::height` meets its contract: below, above and inside the range.
-- Assumes nothing.
use Prim.Native.Nat.{ℕ, ◌≤◌}
use mathlib.Core.Path.{◌≡◌, ◌∙◌}
use native.Mathlib.Omega.{arith}
use lib.IntN.{pos, ◌-ℤ◌}
use mir.Facts.{to_z-of_z}
use mir.Syntax.{w64}
use mir.Val.{to_z, of_z}
use Rattle.types.specs.Table.{bias, lowest_of}
use Rattle.passing.proofs.Signs.{range_below, range_beyond, range_within, lowest_fits, lowest_read, highest_fits, highest_read}
use Rattle.writing.proofs.Signs.{height_outside, height_inside}
use Rattle.writing.proofs.height.Goals.{Else-lowest-span}
use Rattle.writing.proofs.height.Goals as goal

-- what is known where the difference is taken
inside : (c : Else-lowest-span) → (m : ℕ) × (c.args.cell -ℤ lowest_of c.args.low ≡ pos m) × (m ≤ c.args.span)
inside c =
    let S = c.before.before in
    height_inside S.args.span (S.args.cell -ℤ lowest_of S.args.low) (range_within S.args.span S.args.cell (lowest_of S.args.low) (rw (to_z-of_z S.ranges.cell, lowest_read S.requires.0) at c.if-cell-lowest.false) (rw (to_z-of_z S.ranges.cell, highest_read S.requires.0 S.requires.1) at c.if-lowest-span.false))

-- the difference is a number of 64 bits
result_fits : goal.overflow_sub-result
result_fits c =
    let S = c.before.before in
    rw (to_z-of_z S.ranges.cell, lowest_read S.requires.0, (inside c).1) (record { sfits = omega (arith, (inside c).2) })

difference_read : (c : Else-lowest-span) → to_z w64 (of_z w64 (to_z w64 (of_z w64 c.args.cell) -ℤ to_z w64 (of_z w64 (to_z w64 c.args.low -ℤ pos bias)))) ≡ pos (inside c).0
difference_read c =
    let S = c.before.before in
    to_z-of_z (result_fits c) ∙ rw (to_z-of_z S.ranges.cell, lowest_read S.requires.0) (inside c).1

pub overflow_sub-lowest : goal.overflow_sub-lowest
overflow_sub-lowest c = lowest_fits c.requires.0

pub returns-then-cell-lowest : goal.returns-then-cell-lowest
returns-then-cell-lowest c =
    let S = c.before in
    height_outside S.args.span (S.args.cell -ℤ lowest_of S.args.low) (range_below S.args.span S.args.cell (lowest_of S.args.low) (rw (to_z-of_z S.ranges.cell, lowest_read S.requires.0) at c.if-cell-lowest.true))

pub overflow_add-lowest : goal.overflow_add-lowest
overflow_add-lowest c = highest_fits c.requires.0 c.requires.1

pub returns-then-lowest-span : goal.returns-then-lowest-span
returns-then-lowest-span c =
    let S = c.before.before in
    height_outside S.args.span (S.args.cell -ℤ lowest_of S.args.low) (range_beyond S.args.span S.args.cell (lowest_of S.args.low) (rw (to_z-of_z S.ranges.cell, lowest_read S.requires.0) at c.if-cell-lowest.false) (rw (to_z-of_z S.ranges.cell, highest_read S.requires.0 S.requires.1) at c.if-lowest-span.true))

pub overflow_sub-result : goal.overflow_sub-result
overflow_sub-result c = result_fits c

pub overflow_cast-result : goal.overflow_cast-result
overflow_cast-result c = rw (difference_read c) (tt, record { fits = omega (arith, (inside c).2) })

pub returns : goal.returns
returns c = rw (difference_read c, (inside c).1) (omega (arith, (inside c).2))
