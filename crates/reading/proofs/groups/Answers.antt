-- `reading::groups` meets its contract: none where a test fails, and all where none does.
-- Assumes nothing.
use native.Mathlib.Omega.{arith}
use mathlib.Core.Path.{◌∙◌}
use Prim.Native.Nat.{◌/◌}
use Rattle.reading.proofs.Runs.{groups_small, no_groups}
use Rattle.reading.proofs.groups.Goals as goal

pub overflow_mul-k : goal.overflow_mul-k
overflow_mul-k c = let s = groups_small (c.args.n / 4) c.args.w c.if-w-le8.true in omega arith

pub overflow_add-at : goal.overflow_add-at
overflow_add-at c = let s = groups_small (c.args.n / 4) c.args.w c.if-w-le8.true in omega arith

pub returns-then-cell-k : goal.returns-then-cell-k
returns-then-cell-k c = record { few = omega arith; bits = c.if-at-k.true; narrow = λ some. c.if-w-le8.true; full = λ some. c.if-span-power.true ∙ c.power.ensures.fits (omega arith); cells = λ some. c.if-cell-k.true }

pub returns-else-cell-k : goal.returns-else-cell-k
returns-else-cell-k c = no_groups _ _ _ _ _ _ _ c.requires.2

pub returns-else-at-k : goal.returns-else-at-k
returns-else-at-k c = no_groups _ _ _ _ _ _ _ c.requires.2

pub returns-else-span-power : goal.returns-else-span-power
returns-else-span-power c = no_groups _ _ _ _ _ _ _ c.requires.2

pub returns-else-w-le8 : goal.returns-else-w-le8
returns-else-w-le8 c = no_groups _ _ _ _ _ _ _ c.requires.2
