-- The invariants and measures of the loops of `planner::fill`.
use Prim.Native.Nat.{◌-◌, ◌≤◌}
use Rattle.plans.specs.Steps.{good_by, Alone}
use Rattle.plans.proofs.Storing.{Going}
use Rattle.plans.proofs.planner.fill.Given as goal

abbrev pub invariant-loop-from : goal.invariant-loop-from
invariant-loop-from l = (l.from ≤ l.count) × ((each : Alone (good_by l.signs l.count l.sizes l.base l.limit) l.count) → Going (good_by l.signs l.count l.sizes l.base l.limit) l.count each l.at l.from l.messages l.made)

abbrev pub decreases-loop-from : goal.decreases-loop-from
decreases-loop-from l = l.count - l.from
