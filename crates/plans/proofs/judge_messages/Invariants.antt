-- The invariant of the loop of `judge_messages`: the messages that are left come to what all of them come to.
use Rattle.plans.specs.Steps.{good_by}
use Rattle.plans.proofs.Judging.{Going}
use Rattle.plans.proofs.judge_messages.Given as goal

abbrev pub invariant-loop-m : goal.invariant-loop-m
invariant-loop-m l = Going l.plan (good_by l.signs l.count l.sizes l.base l.limit) l.many l.at l.m
