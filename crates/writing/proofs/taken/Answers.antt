-- `writing::taken` meets its contract: its three answers.
-- Assumes nothing.
use mathlib.Core.Path.{refl}
use native.Mathlib.Omega.{arith}
use lib.IntN.{pos}
use lib.ListN.{get_or}
use Rattle.writing.proofs.Leaves.{taken_lacks, taken_outside, taken_fine, height_held}
use Rattle.writing.proofs.taken.Goals as goal

pub no-requires : goal.no-requires
no-requires c = c.requires.0

pub returns-then-cells-k : goal.returns-then-cells-k
returns-then-cells-k c = let a = c.args in taken_lacks a.cells.now a.low a.span a.k (c.if-cells-k.true) (c.no.ensures)

pub no-requires-then-span-above : goal.no-requires-then-span-above
no-requires-then-span-above c = omega (arith, c.requires.0, c.if-cells-k.false)

pub returns-then-span-above : goal.returns-then-span-above
returns-then-span-above c = let a = c.args in taken_outside a.cells.now a.low a.span a.k (c.if-cells-k.false) (height_held a.span a.low (get_or a.cells.now a.k (pos 0)) (record { sfits = c.height-arg-1.given }) (c.height-above.ensures)) (c.if-span-above.true) (c.no-then-span-above.ensures)

pub returns : goal.returns
returns c = let a = c.args in taken_fine a.cells.now a.low a.span a.k (c.if-cells-k.false) (height_held a.span a.low (get_or a.cells.now a.k (pos 0)) (record { sfits = c.height-arg-1.given }) (c.height-above.ensures)) (c.if-span-above.false) (c.requires.2) refl
