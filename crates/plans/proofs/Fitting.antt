-- A message of a plan is good where it fits, and the other way round.
-- Assumes nothing.
use Prim.Native.Nat.{ℕ, zero, suc, ◌<◌, ◌≤◌}
use native.Mathlib.Omega.{arith}
use mathlib.Core.Path.{◌≡◌, refl, ap}
use mathlib.Core.Bool.{Bool, true, not, ◌&&◌}
use mathlib.Core.List.{List, [], ◌∷◌}
use borrow.Author.Tests.{ltb-true, lt-ltb, leb-true, le-leb}
use lib.Dec.{leb, ltb}
use lib.IntN.{ℤ, pos, negsuc}
use lib.ListN.{length}
use Rattle.messages.specs.Places.{At}
use Rattle.packing.specs.Message.{message_octets}
use Rattle.packing.specs.Entries.{most_in}
use Rattle.plans.specs.Plans.{is_in_order, is_empty, named, good_message}
use Rattle.plans.specs.Sentences.{Fits}
use Rattle.packing.proofs.Tests.{apart, both, and_both}

-- ---- entries that are there, in order

module _ (n : ℕ) where
  pub ordered_there : (least : ℕ) (cells : List ℤ) → is_in_order n least cells ≡ true → (p : ℕ) (cell : ℤ) → At p cell cells → (i : ℕ) × (cell ≡ pos i) × (i < n) × (least ≤ i)
  unfolding is_in_order
  ordered_there least [] e p cell s = absurd s
  ordered_there least (negsuc i ∷ cells) e p cell s = apart e
  ordered_there least (pos i ∷ cells) e zero cell s =
      let t = both (ltb i n && leb least i) (is_in_order n (suc i) cells) e in
      let u = both (ltb i n) (leb least i) t.0 in
      (i, s, ltb-true i n u.0, leb-true least i u.1)
  ordered_there least (pos i ∷ cells) e (suc p) cell s =
      let t = both (ltb i n && leb least i) (is_in_order n (suc i) cells) e in
      let u = both (ltb i n) (leb least i) t.0 in
      let r = ordered_there (suc i) cells t.1 p cell s in
      let l = leb-true least i u.1 in
      (r.0, r.1, r.2, omega (arith, r.3, l))

  pub ordered_so : (least : ℕ) (cells : List ℤ) → is_in_order n least cells ≡ true → (p q i j : ℕ) → p < q → At p (pos i) cells → At q (pos j) cells → i < j
  unfolding is_in_order
  ordered_so least [] e p q i j l s t = absurd s
  ordered_so least (negsuc k ∷ cells) e p q i j l s t = apart e
  ordered_so least (pos k ∷ cells) e p zero i j l s t = absurd (omega arith)
  ordered_so least (pos k ∷ cells) e zero (suc q) i j l s t =
      let a = both (ltb k n && leb least k) (is_in_order n (suc k) cells) e in
      let r = ordered_there (suc k) cells a.1 q (pos j) t in
      let same : i ≡ k = cc s in
      let its : j ≡ r.0 = cc r.1 in
      omega (arith, r.3, same, its)
  ordered_so least (pos k ∷ cells) e (suc p) (suc q) i j l s t =
      ordered_so (suc k) cells (both (ltb k n && leb least k) (is_in_order n (suc k) cells) e).1 p q i j (omega arith) s t

  pub so_ordered : (least : ℕ) (cells : List ℤ) → ((p : ℕ) (cell : ℤ) → At p cell cells → (i : ℕ) × (cell ≡ pos i) × (i < n)) → ((p q i j : ℕ) → p < q → At p (pos i) cells → At q (pos j) cells → i < j) → ((p i : ℕ) → At p (pos i) cells → least ≤ i) → is_in_order n least cells ≡ true
  unfolding is_in_order
  so_ordered least [] there order above = refl
  so_ordered least (negsuc i ∷ cells) there order above = absurd (let r = there 0 (negsuc i) refl in let z : ◌≡◌ {A = ℕ} 0 1 = cc r.1 in omega arith)
  so_ordered least (pos i ∷ cells) there order above =
      let r = there 0 (pos i) refl in
      let its : i ≡ r.0 = cc r.1 in
      and_both (and_both (lt-ltb i n (omega (arith, r.2, its))) (le-leb least i (above 0 i refl)))
      (so_ordered (suc i) cells (λ p cell s. there (suc p) cell s) (λ p q a b l s t. order (suc p) (suc q) a b (omega arith) s t) (λ p j s. order 0 (suc p) i j (omega arith) refl s))

-- ---- a message

module _ (signs : Bool) (header : List ℤ) (entries : List (List ℤ)) (limit : ℕ) (cells : List ℤ) where
  abbrev Order : Bool
  Order = is_in_order (length entries) 0 cells

  abbrev Few : Bool
  Few = leb (length cells) (most_in signs)

  abbrev Short : Bool
  Short = leb (message_octets signs header (named entries cells)) limit

  not_empty : (l : List ℤ) → not (is_empty l) ≡ true → ¬ (l ≡ [])
  unfolding is_empty
  not_empty [] e z = apart e
  not_empty (cell ∷ more) e z = let y : ◌≡◌ {A = ℕ} (suc (length more)) 0 = ap length z in omega arith

  some_cells : (l : List ℤ) → ¬ (l ≡ []) → not (is_empty l) ≡ true
  unfolding is_empty
  some_cells [] isnt = absurd (isnt refl)
  some_cells (cell ∷ more) isnt = refl

  pub good_fits : good_message signs header entries limit cells ≡ true → Fits signs header entries limit cells
  unfolding good_message
  good_fits e =
      let a = both (not (is_empty cells) && Order && Few) Short e in
      let b = both (not (is_empty cells) && Order) Few a.0 in
      let c = both (not (is_empty cells)) Order b.0 in
      record {
        some = not_empty cells c.0;
        there = λ p cell s. let r = ordered_there (length entries) 0 cells c.1 p cell s in (r.0, r.1, r.2);
        ordered = ordered_so (length entries) 0 cells c.1;
        few = leb-true (length cells) (most_in signs) b.1;
        short = leb-true (message_octets signs header (named entries cells)) limit a.1;
      }

  pub fits_good : Fits signs header entries limit cells → good_message signs header entries limit cells ≡ true
  unfolding good_message
  fits_good F =
      and_both
      (and_both (and_both (some_cells cells F.some) (so_ordered (length entries) 0 cells F.there F.ordered (λ p i s. omega arith))) (le-leb (length cells) (most_in signs) F.few))
      (le-leb (message_octets signs header (named entries cells)) limit F.short)
