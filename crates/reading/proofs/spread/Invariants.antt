-- The invariant of the loop of `spread`.
use Prim.Native.Nat.{ℕ, ◌-◌, ◌≤◌}
use mathlib.Core.List.{List}
use lib.IntN.{ℤ}
use Rattle.walking.specs.Packed.{farthest}
use Rattle.reading.specs.Given.{Filled}
use Rattle.reading.specs.Taken.{cells, top_bits}
use Rattle.reading.proofs.spread.Given as goal

abbrev pub invariant-loop : goal.invariant-loop
invariant-loop l = (l.cell ≤ farthest) × ((next : ℕ) (after : List ℤ) → Filled (cells (top_bits (l.n - l.counter) l.flags)) l.sheet l.cell next after → Filled (cells (top_bits l.n l.initial.flags)) l.initial.sheet l.initial.cell next after)
