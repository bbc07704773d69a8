-- `plans::count_message` meets its contract: so many of the numbers are counted, and at the end all.
-- Assumes nothing.
use native.Mathlib.Omega.{arith}
use mathlib.Core.Path.{ap, ◌∙◌}
use lib.IntN.{ℤ}
use Rattle.packing.specs.Entries.{below}
use Rattle.plans.proofs.Counted.{begins, goes_small, goes_on, ends, cut_long, cut_cell}
use Rattle.plans.proofs.count_message.Goals as goal

pub loop-k-init : goal.loop-k-init
loop-k-init c = begins _ _ _ (c.requires.3)

pub number_at-i-requires : goal.number_at-i-requires
number_at-i-requires c = omega (arith, c.requires, c.loop-k, c.loop-k-test)

pub count_entry-requires : goal.count_entry-requires
count_entry-requires c = (c.requires.1, omega arith, goes_small _ _ _ _ _ (c.loop-k.invariant))

pub loop-k-preserved : goal.loop-k-preserved
loop-k-preserved c = let a = c.args in let long = cut_long a.plan.now a.at a.n (c.requires.0) in goes_on _ _ _ _ _ (c.loop-k.invariant) (omega (arith, long, c.loop-k, c.loop-k-test)) (c.number_at-i.ensures ∙ ap (λ (z : ℤ). below a.count z) (cut_cell a.plan.now a.at a.n (c.requires.0) (c.loop-k.k) (omega (arith, c.loop-k, c.loop-k-test)))) (c.count_entry.ensures)

pub returns : goal.returns
returns c = let a = c.args in let long = cut_long a.plan.now a.at a.n (c.requires.0) in ends _ _ _ _ _ (c.loop-k.invariant) (omega (arith, long, c.loop-k, c.loop-k-test))
