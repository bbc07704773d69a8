-- The invariant of the loop of `planner::most_from`: so many entries make a good message.
use Rattle.plans.proofs.Packed.{Going}
use Rattle.plans.proofs.planner.most_from.Given as goal

abbrev pub invariant-loop-n : goal.invariant-loop-n
invariant-loop-n l = Going l.signs l.count l.sizes l.base l.limit l.from l.n l.sum
