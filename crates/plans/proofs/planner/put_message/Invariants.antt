-- The invariant of the loop of `planner::put_message`: so many numbers are put.
use Rattle.std.proofs.Common.{◌≡◌, ◌+◌}
use lib.Seq.{sets}
use Rattle.plans.specs.Planner.{numbers_from}
use Rattle.plans.proofs.planner.put_message.Given as goal

abbrev pub invariant-loop-k : goal.invariant-loop-k
invariant-loop-k l = l.made ≡ sets l.initial.made (l.at + 1) (numbers_from l.from l.k)
