-- `plans::planner::most_from` meets its contract: entries are added as long as one more makes a good message.
-- Assumes nothing.
use Rattle.std.proofs.Common.{◌≡◌, ◌+◌, ◌-◌, ◌∙◌}
use native.Mathlib.Omega.{arith}
use Rattle.plans.proofs.Filling.{few_in}
use Rattle.plans.proofs.Packed.{begins, full, over, goes_on, ends}
use Rattle.plans.proofs.planner.most_from.Goals as goal

pub loop-n-init : goal.loop-n-init
loop-n-init c = begins _ _ _ _ _ _

pub returns-then-most-n : goal.returns-then-most-n
returns-then-most-n c = full _ _ _ _ _ _ (c.loop-n.n) (c.loop-n.sum) (c.loop-n.invariant) (omega (arith, c.loop-n-test.true)) (omega (arith, c.most_in-most.ensures, c.if-most-n.true))

pub overflow_add-sum-in-loop-n : goal.overflow_add-sum-in-loop-n
overflow_add-sum-in-loop-n c = let s = c.requires.2 (c.args.from + c.loop-n.n) (omega (arith, c.loop-n-test.true)) in let f = few_in (c.args.signs) (c.most_in-most.ensures) (c.if-most-n.false) in omega (arith, s, f, c.loop-n.invariant.small, c.requires)

pub overflow_add-sum-in-loop-n-2 : goal.overflow_add-sum-in-loop-n-2
overflow_add-sum-in-loop-n-2 c = let s = c.requires.2 (c.args.from + c.loop-n.n) (omega (arith, c.loop-n-test.true)) in let f = few_in (c.args.signs) (c.most_in-most.ensures) (c.if-most-n.false) in omega (arith, s, f, c.loop-n.invariant.small, c.requires)

pub returns-then-limit-sum : goal.returns-then-limit-sum
returns-then-limit-sum c = over _ _ _ _ _ _ (c.loop-n.n) (c.loop-n.sum) (c.loop-n.invariant) (omega (arith, c.loop-n-test.true)) (omega (arith, c.most_in-most.ensures, c.if-most-n.false)) (c.if-limit-sum.true)

pub loop-n-preserved : goal.loop-n-preserved
loop-n-preserved c = goes_on _ _ _ _ _ _ (c.loop-n.n) (c.loop-n.sum) (c.loop-n.invariant) (omega (arith, c.loop-n-test.true)) (omega (arith, c.most_in-most.ensures, c.if-most-n.false)) (c.if-limit-sum.false) (c.requires.2)

pub returns : goal.returns
returns c = let all : c.args.count - c.args.from ≡ c.loop-n.n = omega arith in all ∙ ends _ _ _ _ _ _ (c.loop-n.n) (c.loop-n.sum) (c.loop-n.invariant) (omega (arith, c.loop-n-test.false))
