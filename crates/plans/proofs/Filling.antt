-- A message of a plan, number by number: whether its entries are in order, and the sum of their sizes.
-- Assumes nothing.
use Prim.Native.Nat.{ℕ, suc, ◌+◌, ◌*◌, ◌<◌, ◌≤◌}
use native.Mathlib.Omega.{arith}
use mathlib.Core.Path.{◌≡◌, refl, sym, ap, ◌∙◌}
use mathlib.Core.Bool.{Bool, true, false, cond, not, ◌&&◌}
use mathlib.Core.List.{List, [], ◌∷◌, ◌++◌}
use borrow.Author.Tests.{ltb-true, lt-ltb, le-leb, lt-leb}
use lib.Dec.{leb, ltb}
use lib.IntN.{ℤ, pos, negsuc}
use lib.ListN.{length, get_or, take, drop, drop_of_length-le}
use lib.Seq.{drop-cons, take-suc, take_all}
use Rattle.basics.specs.Lists.{natural}
use Rattle.bits.specs.Bytes.{octets_for}
use Rattle.packing.specs.Entries.{most_in}
use Rattle.plans.specs.Plans.{is_in_order, is_empty}
use Rattle.packing.specs.Entries.{below}
use Rattle.packing.specs.Sizes.{stop}
use Rattle.plans.specs.Steps.{Stopped, summed, good_by}
use Rattle.packing.proofs.Cells.{below_is}
use Rattle.packing.proofs.Tests.{and_false}

module _ (signs : Bool) (count : ℕ) (sizes : List ℕ) (base limit : ℕ) (cells : List ℤ) where
  pub none_fits : length cells ≡ 0 → false ≡ good_by signs count sizes base limit cells
  unfolding good_by is_empty
  none_fits e = go cells e
    where
      go : (l : List ℤ) → length l ≡ 0 → false ≡ (not (is_empty l) && is_in_order count 0 l && leb (length l) (most_in signs) && leb (octets_for (base + summed sizes l)) limit)
      go [] z = refl
      go (x ∷ xs) z = absurd (omega arith)

  pub too_full : most_in signs < length cells → false ≡ good_by signs count sizes base limit cells
  unfolding good_by
  too_full h = rw (lt-leb (length cells) (most_in signs) h) (sym (ap (λ (b : Bool). b && leb (octets_for (base + summed sizes cells)) limit) (and_false (not (is_empty cells) && is_in_order count 0 cells))))

  pub out_of_order : is_in_order count 0 cells ≡ false → false ≡ good_by signs count sizes base limit cells
  unfolding good_by
  out_of_order e = rw e (sym (ap (λ (b : Bool). b && leb (length cells) (most_in signs) && leb (octets_for (base + summed sizes cells)) limit) (and_false (not (is_empty cells)))))

  pub all_fit : ¬ (length cells ≡ 0) → length cells ≤ most_in signs → is_in_order count 0 cells ≡ true → {sum : ℕ} → sum ≡ base + summed sizes cells → {r : Bool} → r ≡ leb (octets_for sum) limit → r ≡ good_by signs count sizes base limit cells
  unfolding good_by is_empty
  all_fit some few order es er = er ∙ ap (λ (s : ℕ). leb (octets_for s) limit) es ∙ rw (order, le-leb (length cells) (most_in signs) few, not_empty cells some) refl
    where
      not_empty : (l : List ℤ) → ¬ (length l ≡ 0) → not (is_empty l) ≡ true
      not_empty [] isnt = absurd (isnt refl)
      not_empty (x ∷ xs) isnt = refl

  -- ---- number by number

  pub record Going (k least sum : ℕ) : Type 0 where
    pub order : is_in_order count least (drop k cells) ≡ is_in_order count 0 cells
    pub sums : sum ≡ base + summed sizes (take k cells)
    pub small : sum ≤ base + k * stop

  pub begins : Going 0 0 base
  unfolding summed
  begins = record { order = refl; sums = omega arith; small = omega arith }

  pub summed_more : (l : List ℤ) (cell : ℤ) → summed sizes (l ++ cell ∷ []) ≡ summed sizes l + get_or sizes (natural cell) 0
  unfolding summed
  summed_more [] cell = omega arith
  summed_more (x ∷ l) cell = omega (arith, summed_more l cell)

  module _ (k least sum : ℕ) (G : Going k least sum) (inside : k < length cells) {i : ℕ} (ei : i ≡ below count (get_or cells k (pos 0))) where
    next : is_in_order count least (get_or cells k (pos 0) ∷ drop (suc k) cells) ≡ is_in_order count 0 cells
    next = ap (is_in_order count least) (sym (drop-cons cells k (pos 0) inside)) ∙ G.order

    pub not_there : count ≤ i → false ≡ good_by signs count sizes base limit cells
    unfolding is_in_order below
    not_there h = out_of_order (sym next ∙ go (get_or cells k (pos 0)) ei)
      where
        go : (z : ℤ) → i ≡ below count z → is_in_order count least (z ∷ drop (suc k) cells) ≡ false
        go (negsuc m) e = refl
        go (pos m) e = by (ltb m count) refl e
          where
            by : (b : Bool) → ltb m count ≡ b → i ≡ cond b m count → (b && leb least m && is_in_order count (suc m) (drop (suc k) cells)) ≡ false
            by true u v = absurd (let l = ltb-true m count u in omega (arith, l, v))
            by false u v = refl

    module _ (there : i < count) where
      is : get_or cells k (pos 0) ≡ pos i
      is = below_is count (get_or cells k (pos 0)) ei there

      unfolded : (ltb i count && leb least i && is_in_order count (suc i) (drop (suc k) cells)) ≡ is_in_order count 0 cells
      unfolding is_in_order
      unfolded = sym (ap (λ (z : ℤ). is_in_order count least (z ∷ drop (suc k) cells)) is) ∙ next

      pub too_low : i < least → false ≡ good_by signs count sizes base limit cells
      too_low h = out_of_order (sym unfolded ∙ rw (lt-leb least i h) (ap (λ (b : Bool). b && is_in_order count (suc i) (drop (suc k) cells)) (and_false (ltb i count))))

      pub goes_on : least ≤ i → Stopped count sizes → Going (k + 1) (i + 1) (sum + get_or sizes i 0)
      goes_on h stopped =
          let z : k + 1 ≡ suc k = omega arith in
          let y : i + 1 ≡ suc i = omega arith in
          let more : summed sizes (take (k + 1) cells) ≡ summed sizes (take k cells) + get_or sizes i 0 =
          ap (λ (m : ℕ). summed sizes (take m cells)) z ∙ ap (summed sizes) (take-suc cells k (pos 0) inside) ∙ summed_more (take k cells) (get_or cells k (pos 0)) ∙ ap (λ (c : ℤ). summed sizes (take k cells) + get_or sizes (natural c) 0) is in
          let s = stopped i there in
          record {
            order = ap (λ (m : ℕ). is_in_order count m (drop (k + 1) cells)) y ∙ ap (λ (m : ℕ). is_in_order count (suc i) (drop m cells)) z ∙ (rw (lt-ltb i count there, le-leb least i h) at unfolded);
            sums = omega (arith, G.sums, more);
            small = omega (arith, G.small, s);
          }

  pub ordered : (k least sum : ℕ) → Going k least sum → length cells ≤ k → (is_in_order count 0 cells ≡ true) × (sum ≡ base + summed sizes cells)
  unfolding is_in_order
  ordered k least sum G h = (sym G.order ∙ ap (is_in_order count least) (drop_of_length-le cells h), G.sums ∙ ap (λ (l : List ℤ). base + summed sizes l) (take_all k cells h))

-- no list has more than 16 entries
pub few_in : (signs : Bool) {m n : ℕ} → m ≡ most_in signs → n ≤ m → n ≤ 16
few_in false e h = omega (arith, e)
few_in true e h = omega (arith, e)
