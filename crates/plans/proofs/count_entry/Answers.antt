-- `plans::count_entry` meets its contract: one behind the entries is none, and one that was counted twice is counted no more.
-- Assumes nothing.
use native.Mathlib.Omega.{arith}
use Rattle.plans.proofs.Counted.{counts_none, counts_full, counts_one}
use Rattle.plans.proofs.count_entry.Goals.{Start}
use Rattle.plans.proofs.count_entry.Goals as goal

pub returns-then-count-i : goal.returns-then-count-i
returns-then-count-i c = counts_none _ _ _ (c.requires.2) (c.if-count-i.true)

pub returns-then-held-ge2 : goal.returns-then-held-ge2
returns-then-held-ge2 c = counts_full _ _ _ (c.requires.2) (c.if-held-ge2.true)

pub returns : goal.returns
returns c = counts_one _ _ _ (c.requires.2) (omega (arith, (goal.at.returns c).Start, c.if-count-i)) (c.if-held-ge2.false)
