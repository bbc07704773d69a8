-- The invariant of the loop of `planner::first_too_long`: the entries that are left come to what all of them come to.
use Rattle.std.proofs.Common.{◌≡◌, ◌-◌, Bool}
use Rattle.plans.specs.Planner.{first_too_long}
use Rattle.plans.specs.Steps.{good_by}
use Rattle.plans.proofs.planner.first_too_long.Given as goal

abbrev pub invariant-loop-i : goal.invariant-loop-i
invariant-loop-i l = (signs : Bool) → first_too_long (good_by signs l.count l.sizes l.base l.limit) l.i (l.count - l.i) ≡ first_too_long (good_by signs l.count l.sizes l.base l.limit) 0 l.count
