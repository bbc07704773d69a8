-- The invariant of the loop of `count_message`: so many of the numbers are counted.
use Rattle.std.proofs.Common.{take, drop}
use Rattle.plans.proofs.Counted.{Going}
use Rattle.plans.proofs.count_message.Given as goal

abbrev pub invariant-loop-k : goal.invariant-loop-k
invariant-loop-k l = Going (take l.n (drop l.at l.plan)) l.count l.initial.times l.k l.times
