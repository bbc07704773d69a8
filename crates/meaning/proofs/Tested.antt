-- A test that is computed over all rows of a table holds of each of them.
-- Assumes nothing.
use Prim.Native.Nat.{ℕ, zero, suc, ◌<◌}
use mathlib.Core.Bool.{Bool, true}
use mathlib.Core.List.{List, [], ◌∷◌}
use native.Mathlib.Nat.{le_of_suc-le-suc, not-suc-le-zero}
use lib.Dec.{T}
use lib.ListN.{length}
use Rattle.types.specs.Row.{Row}
use Rattle.types.specs.Table.{row_in}
use Rattle.types.specs.Rule.{◌&◌}
use Rattle.types.proofs.Rule.{left, rest}

module _ (test : Row → Bool) where
  unfoldable pub all_rows : List Row → Bool
  all_rows [] = true
  all_rows (r ∷ rs) = test r & all_rows rs

  pub row_passes : (rs : List Row) → T (all_rows rs) → (i : ℕ) → i < length rs → T (test (row_in rs i))
  unfolding all_rows
  row_passes [] t i h = absurd (not-suc-le-zero h)
  row_passes (r ∷ rs) t zero h = left (test r) (all_rows rs) t
  row_passes (r ∷ rs) t (suc i) h = row_passes rs (rest (test r) (all_rows rs) t) i (le_of_suc-le-suc h)
