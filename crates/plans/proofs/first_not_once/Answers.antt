-- `plans::first_not_once` meets its contract: the entries that are left come to what all of them come to.
-- Assumes nothing.
use Rattle.std.proofs.Common.{◌≡◌, ◌-◌, ℕ, sym, ap, ◌∙◌, arith}
use Rattle.plans.specs.Plans.{first_not_once}
use Rattle.plans.proofs.Tallying.{not_once, once, all_once}
use Rattle.plans.proofs.first_not_once.Goals as goal

pub loop-i-init : goal.loop-i-init
loop-i-init c = λ messages T. let z : c.args.count - 0 ≡ c.args.count = omega arith in ap (λ (n : ℕ). first_not_once 0 n messages) z

pub returns-then-times-i-ne1 : goal.returns-then-times-i-ne1
returns-then-times-i-ne1 c = λ messages T. sym (c.loop-i.invariant messages T) ∙ not_once messages _ c.args.times.now T c.loop-i.i c.loop-i-test.true c.if-times-i-ne1.true

pub loop-i-preserved : goal.loop-i-preserved
loop-i-preserved c = λ messages T. once messages _ c.args.times.now T c.loop-i.i c.loop-i-test.true c.if-times-i-ne1.false ∙ c.loop-i.invariant messages T

pub returns : goal.returns
returns c = λ messages T. sym (c.loop-i.invariant messages T) ∙ all_once messages _ c.loop-i.i c.loop-i-test.false
