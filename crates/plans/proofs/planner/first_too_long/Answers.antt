-- `plans::planner::first_too_long` meets its contract: the entries that are left come to what all of them come to.
-- Assumes nothing.
use Prim.Native.Nat.{◌-◌}
use native.Mathlib.Omega.{arith}
use mathlib.Core.Path.{◌≡◌, sym, ap, ◌∙◌}
use Rattle.plans.specs.Planner.{first_too_long}
use Rattle.plans.specs.Steps.{good_by}
use Rattle.plans.proofs.Packed.{long_there, not_long, none_long}
use Rattle.plans.proofs.planner.first_too_long.Goals as goal

pub loop-i-init : goal.loop-i-init
loop-i-init c = λ signs. let z : c.args.count - 0 ≡ c.args.count = omega arith in ap (first_too_long (good_by signs (c.args.count) (c.args.sizes.now) (c.args.base) (c.args.limit)) 0) z

pub overflow_add-base : goal.overflow_add-base
overflow_add-base c = let s = c.requires.1 (c.loop-i.i) (omega (arith, c.loop-i-test)) in omega (arith, s, c.requires)

pub overflow_add-base-in-loop-i : goal.overflow_add-base-in-loop-i
overflow_add-base-in-loop-i c = let s = c.requires.1 (c.loop-i.i) (omega (arith, c.loop-i-test)) in omega (arith, s, c.requires)

pub returns-then-limit-base : goal.returns-then-limit-base
returns-then-limit-base c = λ signs. sym (c.loop-i.invariant signs) ∙ long_there signs (c.args.count) (c.args.sizes.now) (c.args.base) (c.args.limit) (c.loop-i.i) c.loop-i-test.true (c.if-limit-base.true)

pub loop-i-preserved : goal.loop-i-preserved
loop-i-preserved c = λ signs. not_long signs (c.args.count) (c.args.sizes.now) (c.args.base) (c.args.limit) (c.loop-i.i) (omega (arith, c.loop-i-test)) (c.if-limit-base.false) ∙ c.loop-i.invariant signs

pub returns : goal.returns
returns c = λ signs. sym (c.loop-i.invariant signs) ∙ none_long signs (c.args.count) (c.args.sizes.now) (c.args.base) (c.args.limit) (c.loop-i.i) c.loop-i-test.false
