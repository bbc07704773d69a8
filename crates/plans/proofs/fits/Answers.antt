-- `plans::fits` meets its contract: each number in turn names an entry that is there and behind the one before, and at the end the sum decides.
-- Assumes nothing.
use native.Mathlib.Omega.{arith}
use mathlib.Core.Path.{refl, sym, ap, ◌∙◌}
use lib.IntN.{ℤ}
use Rattle.packing.specs.Entries.{below}
use Rattle.plans.proofs.Counted.{cut_long, cut_cell}
use Rattle.plans.proofs.Filling.{none_fits, too_full, all_fit, begins, not_there, too_low, goes_on, ordered, few_in}
use borrow.Author.Rules.{rules}
use Rattle.plans.proofs.fits.Goals as goal

pub returns-then-n-eq0 : goal.returns-then-n-eq0
returns-then-n-eq0 c = let a = c.args in none_fits _ _ _ _ _ _ (cut_long a.plan.now a.at a.n (c.requires.0) ∙ c.if-n-eq0.true)

pub returns-then-most_in-n : goal.returns-then-most_in-n
returns-then-most_in-n c = let a = c.args in too_full _ _ _ _ _ _ (omega (arith, cut_long a.plan.now a.at a.n (c.requires.0), c.most_in.ensures, c.if-most_in-n.true))

pub loop-k-init : goal.loop-k-init
loop-k-init c = (few_in (c.args.signs) (c.most_in.ensures) (c.if-most_in-n.false), begins _ _ _ _ _ _)

pub number_at-i-requires : goal.number_at-i-requires
number_at-i-requires c = omega (arith, c.requires, c.loop-k, c.loop-k-test)

pub returns-then-count-i : goal.returns-then-count-i
returns-then-count-i c = let a = c.args in not_there _ _ _ _ _ _ (c.loop-k.k) (c.loop-k.least) (c.loop-k.sum) (c.loop-k.invariant.1) (omega (arith, cut_long a.plan.now a.at a.n (c.requires.0), c.loop-k-test)) (c.number_at-i.ensures ∙ ap (λ (z : ℤ). below a.count z) (cut_cell a.plan.now a.at a.n (c.requires.0) (c.loop-k.k) (omega (arith, c.loop-k-test)))) (c.if-count-i.true)

pub returns-then-i-least : goal.returns-then-i-least
returns-then-i-least c = let a = c.args in too_low _ _ _ _ _ _ (c.loop-k.k) (c.loop-k.least) (c.loop-k.sum) (c.loop-k.invariant.1) (omega (arith, cut_long a.plan.now a.at a.n (c.requires.0), c.loop-k-test)) (c.number_at-i.ensures ∙ ap (λ (z : ℤ). below a.count z) (cut_cell a.plan.now a.at a.n (c.requires.0) (c.loop-k.k) (omega (arith, c.loop-k-test)))) (omega (arith, c.if-count-i)) (c.if-i-least.true)

pub overflow_add-sum : goal.overflow_add-sum
overflow_add-sum c = let s = c.requires.2 (c.number_at-i.result) (omega (arith, c.if-count-i)) in omega (arith, s, c.loop-k.invariant.1.small, c.loop-k, c.requires)

pub loop-k-preserved : goal.loop-k-preserved
loop-k-preserved c = let a = c.args in (search rules, goes_on _ _ _ _ _ _ (c.loop-k.k) (c.loop-k.least) (c.loop-k.sum) (c.loop-k.invariant.1) (omega (arith, cut_long a.plan.now a.at a.n (c.requires.0), c.loop-k-test)) (c.number_at-i.ensures ∙ ap (λ (z : ℤ). below a.count z) (cut_cell a.plan.now a.at a.n (c.requires.0) (c.loop-k.k) (omega (arith, c.loop-k-test)))) (omega (arith, c.if-count-i)) (omega (arith, c.if-i-least)) (c.requires.2))

pub overflow_add-result : goal.overflow_add-result
overflow_add-result c = omega (arith, c.loop-k.invariant.1.small, c.loop-k, c.requires)

pub returns : goal.returns
returns c = let a = c.args in let long = cut_long a.plan.now a.at a.n (c.requires.0) in let O = ordered _ _ _ _ _ _ (c.loop-k.k) (c.loop-k.least) (c.loop-k.sum) (c.loop-k.invariant.1) (omega (arith, long, c.loop-k-test)) in all_fit _ _ _ _ _ _ (λ z. c.if-n-eq0.false (sym long ∙ z)) (omega (arith, long, c.most_in.ensures, c.if-most_in-n.false)) O.0 O.1 refl
