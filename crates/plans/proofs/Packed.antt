-- Entries in order, and messages of them: whether one is good by the sizes, how many entries go into one, and what the rest of the plan is then.
-- Assumes nothing.
use Prim.Native.Nat.{ℕ, zero, suc, ◌+◌, ◌*◌, ◌-◌, ◌<◌, ◌≤◌}
use native.Mathlib.Decide.{dec_lt}
use native.Mathlib.Omega.{arith}
use mathlib.Core.Path.{◌≡◌, refl, sym, ap, ap₂, ◌∙◌}
use mathlib.Core.Bool.{Bool, true, false, cond}
use mathlib.Core.Logic.{◌⊎◌, inl, inr}
use mathlib.Core.List.{List, [], ◌∷◌, ◌++◌}
use borrow.Author.Tests.{lt-ltb, le-leb, lt-leb, ne_eqb}
use lib.Dec.{leb}
use lib.IntN.{ℤ, pos}
use lib.ListN.{length, get_or}
use Rattle.bits.specs.Bytes.{octets_for}
use Rattle.messages.specs.Repeats.{repeated, nowhere}
use Rattle.packing.specs.Entries.{most_in}
use Rattle.packing.specs.Sizes.{stop}
use Rattle.plans.specs.Plans.{is_in_order}
use Rattle.plans.specs.Planner.{numbers_from, packed, first_too_long}
use Rattle.plans.specs.Steps.{Stopped, summed, good_by, Alone, most_from}
use Rattle.plans.proofs.Filling.{all_fit, too_full, summed_more}

-- ---- numbers of entries

pub numbers_long : (i n : ℕ) → length (numbers_from i n) ≡ n
unfolding numbers_from
numbers_long i zero = refl
numbers_long i (suc n) = ap suc (numbers_long (suc i) n)

pub numbers_more : (i n : ℕ) → numbers_from i (suc n) ≡ numbers_from i n ++ pos (i + n) ∷ []
unfolding numbers_from
numbers_more i zero = let z : i ≡ i + 0 = omega arith in ap (λ (k : ℕ). pos k ∷ []) z
numbers_more i (suc n) = let z : suc i + n ≡ i + suc n = omega arith in ap (λ (l : List ℤ). pos i ∷ l) (numbers_more (suc i) n ∙ ap (λ (k : ℕ). numbers_from (suc i) n ++ pos k ∷ []) z)

pub numbers_joined : (i n k : ℕ) → numbers_from i n ++ numbers_from (i + n) k ≡ numbers_from i (n + k)
unfolding numbers_from
numbers_joined i zero k = let z : i + 0 ≡ i = omega arith in let y : k ≡ 0 + k = omega arith in ap₂ numbers_from z y
numbers_joined i (suc n) k =
    let z : i + suc n ≡ suc i + n = omega arith in
    let y : suc (n + k) ≡ suc n + k = omega arith in
    ap (λ (j : ℕ). pos i ∷ (numbers_from (suc i) n ++ numbers_from j k)) z ∙ ap (λ (l : List ℤ). pos i ∷ l) (numbers_joined (suc i) n k) ∙ ap (numbers_from i) y

pub numbers_in_order : (count least i n : ℕ) → least ≤ i → i + n ≤ count → is_in_order count least (numbers_from i n) ≡ true
unfolding numbers_from is_in_order
numbers_in_order count least i zero h k = refl
numbers_in_order count least i (suc n) h k = rw (lt-ltb i count (omega arith), le-leb least i h) (numbers_in_order count (suc i) (suc i) n (omega arith) (omega arith))

-- ---- a message of them, by the sizes

module _ (signs : Bool) (count : ℕ) (sizes : List ℕ) (base limit : ℕ) where
  abbrev good : List ℤ → Bool
  good = good_by signs count sizes base limit

  -- those before, and one more
  pub one_more : (from n : ℕ) → summed sizes (numbers_from from (suc n)) ≡ summed sizes (numbers_from from n) + get_or sizes (from + n) 0
  one_more from n = ap (summed sizes) (numbers_more from n) ∙ summed_more signs count sizes base limit [] (numbers_from from n) (pos (from + n))

  pub good_numbers : (from n : ℕ) → from + suc n ≤ count → suc n ≤ most_in signs → {sum : ℕ} → sum ≡ base + summed sizes (numbers_from from n) → good (numbers_from from (suc n)) ≡ leb (octets_for (sum + get_or sizes (from + n) 0)) limit
  good_numbers from n there few {sum} es =
      let long : length (numbers_from from (suc n)) ≡ suc n = numbers_long from (suc n) in
      let all : sum + get_or sizes (from + n) 0 ≡ base + summed sizes (numbers_from from (suc n)) = omega (arith, es, one_more from n) in
      sym (all_fit signs count sizes base limit (numbers_from from (suc n)) (λ z. omega (arith, z, long)) (omega (arith, long)) (numbers_in_order count 0 from (suc n) (omega arith) there) all refl)

  pub too_many : (from n : ℕ) → most_in signs < n → good (numbers_from from n) ≡ false
  too_many from n h = sym (too_full signs count sizes base limit (numbers_from from n) (omega (arith, numbers_long from n)))

  some_room : 1 ≤ most_in signs
  some_room = go signs
    where
      go : (s : Bool) → 1 ≤ most_in s
      go false = omega arith
      go true = omega arith

  -- ---- the first that is no good message alone

  module _ (i : ℕ) (h : i < count) where
    pub alone : good (numbers_from i 1) ≡ leb (octets_for (base + get_or sizes i 0)) limit
    unfolding summed numbers_from
    alone =
        let z : i + 0 ≡ i = omega arith in
        let b : base ≡ base + 0 = omega arith in
        good_numbers i 0 (omega arith) some_room b ∙ ap (λ (k : ℕ). leb (octets_for (base + get_or sizes k 0)) limit) z

    first_step : first_too_long good i (count - i) ≡ cond (good (numbers_from i 1)) (first_too_long good (i + 1) (count - (i + 1))) (repeated i)
    unfolding first_too_long
    first_step =
        let z : count - i ≡ suc (count - (i + 1)) = omega arith in
        let y : suc i ≡ i + 1 = omega arith in
        ap (first_too_long good i) z ∙ ap (λ (k : ℕ). cond (good (numbers_from i 1)) (first_too_long good k (count - (i + 1))) (repeated i)) y

    pub long_there : limit < octets_for (base + get_or sizes i 0) → first_too_long good i (count - i) ≡ repeated i
    long_there l = first_step ∙ rw (alone ∙ lt-leb (octets_for (base + get_or sizes i 0)) limit l) refl

    pub not_long : octets_for (base + get_or sizes i 0) ≤ limit → first_too_long good (i + 1) (count - (i + 1)) ≡ first_too_long good i (count - i)
    not_long l = sym (first_step ∙ rw (alone ∙ le-leb (octets_for (base + get_or sizes i 0)) limit l) refl)

  pub none_long : (i : ℕ) → count ≤ i → first_too_long good i (count - i) ≡ nowhere
  unfolding first_too_long
  none_long i h = let z : count - i ≡ 0 = omega arith in ap (first_too_long good i) z

  -- ---- how many go into one message

  module _ (from : ℕ) where
    pub record Going (n sum : ℕ) : Type 0 where
      pub goes : most_from good from n (count - from - n) ≡ most_from good from 0 (count - from)
      pub sums : sum ≡ base + summed sizes (numbers_from from n)
      pub small : sum ≤ base + n * stop
      pub few : n ≤ most_in signs

    pub begins : Going 0 base
    unfolding summed numbers_from
    begins = let z : count - from - 0 ≡ count - from = omega arith in record { goes = ap (most_from good from 0) z; sums = omega arith; small = omega arith; few = omega arith }

    module _ (n sum : ℕ) (G : Going n sum) (there : from + n < count) where
      next : most_from good from 0 (count - from) ≡ cond (good (numbers_from from (suc n))) (most_from good from (suc n) (count - from - (n + 1))) n
      unfolding most_from
      next = let z : count - from - n ≡ suc (count - from - (n + 1)) = omega arith in sym G.goes ∙ ap (most_from good from n) z

      pub full : most_in signs ≤ n → n ≡ most_from good from 0 (count - from)
      full h = sym (next ∙ rw (too_many from (suc n) (omega arith)) refl)

      pub over : n < most_in signs → limit < octets_for (sum + get_or sizes (from + n) 0) → n ≡ most_from good from 0 (count - from)
      over h l = sym (next ∙ rw (good_numbers from n (omega arith) (omega arith) G.sums ∙ lt-leb (octets_for (sum + get_or sizes (from + n) 0)) limit l) refl)

      pub goes_on : n < most_in signs → octets_for (sum + get_or sizes (from + n) 0) ≤ limit → Stopped count sizes → Going (n + 1) (sum + get_or sizes (from + n) 0)
      goes_on h l stopped =
          let z : n + 1 ≡ suc n = omega arith in
          let s = stopped (from + n) there in
          record {
            goes = ap (λ (k : ℕ). most_from good from k (count - from - (n + 1))) z ∙ sym (next ∙ rw (good_numbers from n (omega arith) (omega arith) G.sums ∙ le-leb (octets_for (sum + get_or sizes (from + n) 0)) limit l) refl);
            sums = omega (arith, G.sums, one_more from n, ap (λ (k : ℕ). summed sizes (numbers_from from k)) z);
            small = omega (arith, G.small, s);
            few = omega arith;
          }

    pub ends : (n sum : ℕ) → Going n sum → count ≤ from + n → n ≡ most_from good from 0 (count - from)
    unfolding most_from
    ends n sum G h = let z : count - from - n ≡ 0 = omega arith in sym (ap (most_from good from n) z) ∙ G.goes

-- ---- the first entry that is no good message alone, over any test of a message

module _ (good : List ℤ → Bool) where
  pub record Long (i n at : ℕ) : Type 0 where
    pub from : i ≤ at
    pub below : at < i + n
    pub isnt : good (numbers_from at 1) ≡ false
    pub earlier : (j : ℕ) → i ≤ j → j < at → good (numbers_from j 1) ≡ true

  pub first_long : (i n : ℕ) → ((first_too_long good i n ≡ nowhere) × ((j : ℕ) → i ≤ j → j < i + n → good (numbers_from j 1) ≡ true)) ⊎ ((at : ℕ) × (first_too_long good i n ≡ repeated at) × Long i n at)
  unfolding first_too_long
  first_long i zero = inl (refl, λ j a b. absurd (omega arith))
  first_long i (suc n) = go (good (numbers_from i 1)) refl (first_long (suc i) n)
    where
      own : good (numbers_from i 1) ≡ true → (j : ℕ) → i ≤ j → ¬ (i < j) → good (numbers_from j 1) ≡ true
      own e j a isnt = let same : i ≡ j = omega arith in ap (λ (k : ℕ). good (numbers_from k 1)) (sym same) ∙ e

      go : (b : Bool) → good (numbers_from i 1) ≡ b → ((first_too_long good (suc i) n ≡ nowhere) × ((j : ℕ) → suc i ≤ j → j < suc i + n → good (numbers_from j 1) ≡ true)) ⊎ ((at : ℕ) × (first_too_long good (suc i) n ≡ repeated at) × Long (suc i) n at)
          → ((cond b (first_too_long good (suc i) n) (repeated i) ≡ nowhere) × ((j : ℕ) → i ≤ j → j < i + suc n → good (numbers_from j 1) ≡ true)) ⊎ ((at : ℕ) × (cond b (first_too_long good (suc i) n) (repeated i) ≡ repeated at) × Long i (suc n) at)
      go false e later = inr (i, refl, record { from = omega arith; below = omega arith; isnt = e; earlier = λ j a b. absurd (omega arith) })
      go true e (inl (z, all)) = inl (z, λ j a b. by j a b (dec_lt i j))
        where
          by : (j : ℕ) → i ≤ j → j < i + suc n → Dec (i < j) → good (numbers_from j 1) ≡ true
          by j a b (yes l) = all j (omega arith) (omega arith)
          by j a b (no l) = own e j a l
      go true e (inr (at, z, L)) = inr (at, z, record { from = omega (arith, L.from); below = omega (arith, L.below); isnt = L.isnt; earlier = λ j a b. by j a b (dec_lt i j) })
        where
          by : (j : ℕ) → i ≤ j → j < at → Dec (i < j) → good (numbers_from j 1) ≡ true
          by j a b (yes l) = L.earlier j (omega arith) b
          by j a b (no l) = own e j a l

-- ---- what is left behind a message

module _ (good : List ℤ → Bool) (from : ℕ) where
  -- how many there are: at least those that are held, at most all of them
  pub most_bounds : (held left : ℕ) → (held ≤ most_from good from held left) × (most_from good from held left ≤ held + left)
  unfolding most_from
  most_bounds held zero = (omega arith, omega arith)
  most_bounds held (suc left) = go (good (numbers_from from (suc held))) (most_bounds (suc held) left)
    where
      go : (b : Bool) → (suc held ≤ most_from good from (suc held) left) × (most_from good from (suc held) left ≤ suc held + left)
          → (held ≤ cond b (most_from good from (suc held) left) held) × (cond b (most_from good from (suc held) left) held ≤ held + suc left)
      go true r = (omega (arith, r.0), omega (arith, r.1))
      go false r = (omega arith, omega arith)

  -- the first entry goes into it
  pub most_some : (left : ℕ) → 0 < left → good (numbers_from from 1) ≡ true → 1 ≤ most_from good from 0 left
  unfolding most_from
  most_some zero h e = absurd (omega arith)
  most_some (suc left) h e = rw e (most_bounds 1 left).0

  pub packed_split : (count held left : ℕ) → from + held + left ≤ count → Alone good count → 1 ≤ held + left
      → packed good from held left ≡ numbers_from from (most_from good from held left) ∷ packed good (from + most_from good from held left) 0 (held + left - most_from good from held left)
  unfolding packed most_from
  packed_split count held zero all each some =
      let z : held + 0 - held ≡ 0 = omega arith in
      rw (ne_eqb held 0 (λ y. omega (arith, y, some))) (ap (λ (k : ℕ). numbers_from from held ∷ packed good (from + held) 0 k) (sym z))
  packed_split count held (suc left) all each some = go (good (numbers_from from (suc held))) refl (packed_split count (suc held) left (omega arith) each (omega arith))
    where
      go : (b : Bool) → good (numbers_from from (suc held)) ≡ b
          → packed good from (suc held) left ≡ numbers_from from (most_from good from (suc held) left) ∷ packed good (from + most_from good from (suc held) left) 0 (suc held + left - most_from good from (suc held) left)
          → cond b (packed good from (suc held) left) (numbers_from from held ∷ packed good (from + held) 1 left)
          ≡ numbers_from from (cond b (most_from good from (suc held) left) held) ∷ packed good (from + cond b (most_from good from (suc held) left) held) 0 (held + suc left - cond b (most_from good from (suc held) left) held)
      go true e later =
          let z : suc held + left - most_from good from (suc held) left ≡ held + suc left - most_from good from (suc held) left = omega arith in
          later ∙ ap (λ (k : ℕ). numbers_from from (most_from good from (suc held) left) ∷ packed good (from + most_from good from (suc held) left) 0 k) z
      go false e later =
          let z : held + suc left - held ≡ suc left = omega arith in
          ap (λ (l : List (List ℤ)). numbers_from from held ∷ l)
          (sym (ap (packed good (from + held) 0) z ∙ rw (each (from + held) (omega arith)) refl))
