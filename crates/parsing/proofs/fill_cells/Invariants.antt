-- The invariants and measures of the loops of `fill_cells`.
use Prim.Native.Nat.{◌+◌, ◌≤◌, ◌-◌}
use lib.ListN.{length}
use Rattle.parsing.proofs.Filling.{Done}
use Rattle.parsing.proofs.fill_cells.Given as goal

abbrev pub invariant-loop-at : goal.invariant-loop-at
invariant-loop-at l = (l.at ≤ length l.input + 1) × (l.count ≤ l.at) × Done l.input l.from l.initial.cells l.at l.count l.cells

abbrev pub decreases-loop-at : goal.decreases-loop-at
decreases-loop-at l = length l.input + 1 - l.at
