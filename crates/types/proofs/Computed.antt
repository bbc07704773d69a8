-- The numbers of a table, to be computed: equal to `numbers` of specs/, which works both arms of `options_of` out, so that its time doubles
-- with each component of a sequence.
-- Assumes nothing.
use mathlib.Core.Path.{◌≡◌, refl, ap, ap₂, ◌∙◌}
use mathlib.Core.Bool.{Bool, true, false, cond}
use mathlib.Core.List.{List, [], ◌∷◌, ◌++◌}
use Prim.Native.Nat.{ℕ, zero, suc, ◌+◌, ◌-◌, ◌*◌}
use native.Mathlib.Omega.{arith}
use lib.Dec.{eqb}
use lib.ListN.{length, replicate}
use Rattle.types.specs.Row.{Row}
use Rattle.types.specs.Kinds as kinds
use Rattle.types.specs.Table.{Bounds, bounds_of, bounds_row, place, gathered, flat, is_direct, options_of, words, row_in, numbers, bounds_room, unused, mark_from, bounds_from, first_from, count_from, spared_from}

-- how many of n components from row f are OPTIONAL, as a sum
unfoldable pub options_sum : (ℕ → Row) → ℕ → ℕ → ℕ
options_sum table f zero = 0
options_sum table f (suc n) = cond (eqb (table f).mark 0) 0 1 + options_sum table (f + 1) n

pub options_sum_lem : (table : ℕ → Row) (f n : ℕ) → options_sum table f n ≡ options_of table f n
unfolding options_sum options_of
options_sum_lem table f zero = refl
options_sum_lem table f (suc n) = ap (λ (k : ℕ). cond (eqb (table f).mark 0) 0 1 + k) (options_sum_lem table (f + 1) n) ∙ go (eqb (table f).mark 0) (options_of table (f + 1) n)
  where
    go : (b : Bool) (k : ℕ) → cond b 0 1 + k ≡ cond b k (suc k)
    go true k = omega arith
    go false k = omega arith

module _ (table : ℕ → Row) where
  abbrev word_for : List Bounds → Row → ℕ → ℕ
  word_for bs r options = r.kind + mark_from * r.mark + bounds_from * place (bounds_of (bounds_row table r)) bs + first_from * r.first + count_from * r.count + spared_from * cond (eqb r.kind kinds.sequence) options (cond (is_direct table r) 1 0)

  unfoldable pub words_by_sums : List Bounds → List Row → List ℕ
  words_by_sums bs [] = []
  words_by_sums bs (r ∷ rs) = word_for bs r (options_sum table r.first r.count) ∷ words_by_sums bs rs

  words_by_sums_lem : (bs : List Bounds) (rs : List Row) → words_by_sums bs rs ≡ words table bs rs
  unfolding words_by_sums words
  words_by_sums_lem bs [] = refl
  words_by_sums_lem bs (r ∷ rs) = ap₂ (λ (k : ℕ) (ws : List ℕ). word_for bs r k ∷ ws) (options_sum_lem table r.first r.count) (words_by_sums_lem bs rs)

unfoldable pub computed : List Row → List ℕ
computed rs = flat (gathered [] rs ++ replicate (bounds_room - length (gathered [] rs)) unused) ++ words_by_sums (row_in rs) (gathered [] rs) rs

pub computed_is : (rs : List Row) → computed rs ≡ numbers rs
unfolding computed numbers
computed_is rs = ap (λ (ws : List ℕ). flat (gathered [] rs ++ replicate (bounds_room - length (gathered [] rs)) unused) ++ ws) (words_by_sums_lem (row_in rs) (gathered [] rs) rs)
