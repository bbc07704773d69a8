-- The invariant of the loop of `first_not_once`: the entries that are left come to what all of them come to.
use Rattle.std.proofs.Common.{◌≡◌, ◌-◌, List}
use lib.IntN.{ℤ}
use Rattle.plans.specs.Plans.{first_not_once}
use Rattle.plans.specs.Steps.{Tally}
use Rattle.plans.proofs.first_not_once.Given as goal

abbrev pub invariant-loop-i : goal.invariant-loop-i
invariant-loop-i l = (messages : List (List ℤ)) → Tally messages l.count l.times → first_not_once l.i (l.count - l.i) messages ≡ first_not_once 0 l.count messages
