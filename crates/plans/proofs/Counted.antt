-- Entries counted, one by one.
-- Assumes nothing.
use Prim.Native.Nat.{ℕ, suc, ◌+◌, ◌<◌, ◌≤◌, min}
use native.Mathlib.Decide.{ℕ_discrete}
use native.Mathlib.Omega.{arith}
use mathlib.Core.Path.{◌≡◌, refl, sym, ap, subst, ◌∙◌}
use mathlib.Core.Bool.{Bool, true, false, cond}
use mathlib.Core.List.{List, [], ◌∷◌, ◌++◌}
use borrow.Author.Tests.{eq-eqb, ne_eqb, ltb-false}
use lib.Dec.{eqb, ltb}
use lib.IntN.{ℤ, pos, negsuc}
use lib.ListN.{length, get_or, set, take, drop, length-set, length-drop}
use lib.Seq.{length-take-le, take_all, take-suc, get_or-take, get_or-drop, get_or-set_same, get_or-set_other}
use Rattle.plans.specs.Plans.{is_entry, often}
use Rattle.packing.specs.Entries.{below}
use Rattle.plans.specs.Steps.{Twice, Counted, CountedAll}

-- ---- one entry

module _ (i count : ℕ) (times : List ℕ) (small : Twice count times) where
  -- one behind the entries is none
  pub counts_none : count ≤ i → Counted i count times times
  counts_none h = record { same = refl; all = λ j l. let s = small j l in rw (ne_eqb i j (λ z. omega (arith, z))) (omega (arith, s)) }

  -- one that was counted twice is counted no more
  pub counts_full : 2 ≤ get_or times i 0 → Counted i count times times
  counts_full h = record { same = refl; all = λ j l. go j l (ℕ_discrete i j) }
    where
      go : (j : ℕ) → j < count → Dec (i ≡ j) → get_or times j 0 ≡ min (get_or times j 0 + cond (eqb i j) 1 0) 2
      go j l (yes e) = let s = small j l in let f : 2 ≤ get_or times j 0 = subst (λ (k : ℕ). 2 ≤ get_or times k 0) e h in rw (eq-eqb i j e) (omega (arith, s, f))
      go j l (no isnt) = let s = small j l in rw (ne_eqb i j isnt) (omega (arith, s))

  -- any other is counted
  pub counts_one : i < length times → get_or times i 0 < 2 → Counted i count times (set times i (get_or times i 0 + 1))
  counts_one room few = record { same = length-set times i (get_or times i 0 + 1); all = λ j l. go j l (ℕ_discrete i j) }
    where
      go : (j : ℕ) → j < count → Dec (i ≡ j) → get_or (set times i (get_or times i 0 + 1)) j 0 ≡ min (get_or times j 0 + cond (eqb i j) 1 0) 2
      go j l (yes e) =
          let put : get_or (set times i (get_or times i 0 + 1)) j 0 ≡ get_or times i 0 + 1 = ap (λ (k : ℕ). get_or (set times i (get_or times i 0 + 1)) k 0) (sym e) ∙ get_or-set_same times i (get_or times i 0 + 1) 0 room in
          let same : get_or times j 0 ≡ get_or times i 0 = ap (λ (k : ℕ). get_or times k 0) (sym e) in
          rw (eq-eqb i j e) (omega (arith, put, same, few))
      go j l (no isnt) =
          let s = small j l in
          let kept = get_or-set_other times i j (get_or times i 0 + 1) 0 (λ z. isnt (sym z)) in
          rw (ne_eqb i j isnt) (omega (arith, s, kept))

-- ---- one number more

often_more : (i : ℕ) (cells : List ℤ) (cell : ℤ) → often i (cells ++ cell ∷ []) ≡ often i cells + cond (is_entry i cell) 1 0
unfolding often
often_more i [] cell = go (is_entry i cell)
  where
    go : (b : Bool) → cond b 1 0 ≡ 0 + cond b 1 0
    go true = refl
    go false = refl
often_more i (first ∷ cells) cell = go (is_entry i first) (often_more i cells cell)
  where
    go : (b : Bool) → often i (cells ++ cell ∷ []) ≡ often i cells + cond (is_entry i cell) 1 0 → cond b (suc (often i (cells ++ cell ∷ []))) (often i (cells ++ cell ∷ [])) ≡ cond b (suc (often i cells)) (often i cells) + cond (is_entry i cell) 1 0
    go true e = omega (arith, e)
    go false e = e

-- a number below the count of entries names its entry, and any other none of them
below_names : (count : ℕ) (cell : ℤ) (j : ℕ) → j < count → eqb (below count cell) j ≡ is_entry j cell
unfolding below is_entry
below_names count (pos n) j h = go (ltb n count) refl
  where
    go : (b : Bool) → ltb n count ≡ b → eqb (cond b n count) j ≡ eqb n j
    go true e = refl
    go false e = let l = ltb-false n count e in ne_eqb count j (λ z. omega (arith, z)) ∙ sym (ne_eqb n j (λ z. omega (arith, z, l)))
below_names count (negsuc n) j h = ne_eqb count j (λ z. omega (arith, z))

-- so many of the numbers are counted
pub record Going (cells : List ℤ) (count : ℕ) (before : List ℕ) (k : ℕ) (times : List ℕ) : Type 0 where
  pub same : length times ≡ length before
  pub all : (j : ℕ) → j < count → get_or times j 0 ≡ min (get_or before j 0 + often j (take k cells)) 2

module _ (cells : List ℤ) (count : ℕ) (before : List ℕ) where
  pub begins : Twice count before → Going cells count before 0 before
  unfolding often
  begins small = record { same = refl; all = λ j h. let s = small j h in omega (arith, s) }

  pub goes_small : (k : ℕ) (times : List ℕ) → Going cells count before k times → Twice count times
  goes_small k times G j h = omega (arith, G.all j h)

  pub goes_on : (k : ℕ) (times : List ℕ) → Going cells count before k times → k < length cells → {i : ℕ} → i ≡ below count (get_or cells k (pos 0)) → {after : List ℕ} → Counted i count times after → Going cells count before (k + 1) after
  goes_on k times G room {i} e {after} C = record { same = C.same ∙ G.same; all = all }
    where
      all : (j : ℕ) → j < count → get_or after j 0 ≡ min (get_or before j 0 + often j (take (k + 1) cells)) 2
      all j h =
          let z : k + 1 ≡ suc k = omega arith in
          let more : often j (take (k + 1) cells) ≡ often j (take k cells) + cond (is_entry j (get_or cells k (pos 0))) 1 0 =
          ap (λ (m : ℕ). often j (take m cells)) z ∙ ap (often j) (take-suc cells k (pos 0) room) ∙ often_more j (take k cells) (get_or cells k (pos 0)) in
          let names : ◌≡◌ {A = ℕ} (cond (eqb i j) 1 0) (cond (is_entry j (get_or cells k (pos 0))) 1 0) = ap (λ (b : Bool). cond {A = ℕ} b 1 0) (ap (λ (m : ℕ). eqb m j) e ∙ below_names count (get_or cells k (pos 0)) j h) in
          omega (arith, C.all j h, G.all j h, more, names)

  pub ends : (k : ℕ) (times : List ℕ) → Going cells count before k times → length cells ≤ k → CountedAll cells count before times
  ends k times G h = record { same = G.same; all = λ j l. G.all j l ∙ ap (λ (m : List ℤ). min (get_or before j 0 + often j m) 2) (take_all k cells h) }

-- ---- the numbers of a message, cut out of a plan

module _ (plan : List ℤ) (at n : ℕ) (inside : at + n ≤ length plan) where
  pub cut_long : length (take n (drop at plan)) ≡ n
  cut_long = length-take-le n (drop at plan) (omega (arith, length-drop at plan))

  pub cut_cell : (k : ℕ) → k < n → get_or plan (at + k) (pos 0) ≡ get_or (take n (drop at plan)) k (pos 0)
  cut_cell k h = sym (get_or-take n (drop at plan) k (pos 0) h ∙ get_or-drop at plan k (pos 0))
