-- The first that repeats an earlier one is so, and none before it is; where there is none, no two are equal.
-- Assumes nothing.
use Prim.Native.Nat.{ℕ, zero, suc, ◌+◌, ◌<◌}
use native.Mathlib.Decide.{dec_lt}
use native.Mathlib.Omega.{arith}
use mathlib.Core.Path.{◌≡◌, refl, sym, ap, subst, ◌∙◌}
use mathlib.Core.Bool.{Bool, true, false, cond, ◌||◌}
use mathlib.Core.Logic.{◌⊎◌, inl, inr}
use mathlib.Core.List.{List, [], ◌∷◌}
use Rattle.messages.specs.Places.{At, Somewhere, Repeats}
use Rattle.messages.specs.Repeats.{Repeat, repeated, nowhere, among, first_repeat}

apart : {P : Type 0} → ◌≡◌ false true → P
apart e = absurd (let z : ◌≡◌ {A = ℕ} 0 1 = cc in omega arith)

module _ {A : Type 0} (same : A → A → Bool) (same-is : (a b : A) → same a b ≡ true → a ≡ b) (is_same : (a : A) → same a a ≡ true) where
  -- ---- one of several

  pub among_somewhere : (a : A) (list : List A) → among same a list ≡ true → Somewhere a list
  unfolding among
  among_somewhere a [] e = apart e
  among_somewhere a (b ∷ more) e = go (same a b) refl e (among_somewhere a more)
    where
      go : (c : Bool) → same a b ≡ c → (c || among same a more) ≡ true → (among same a more ≡ true → Somewhere a more) → Somewhere a (b ∷ more)
      go true u v later = (0, same-is a b u)
      go false u v later = let s = later v in (suc s.0, s.1)

  pub somewhere_among : (i : ℕ) (a : A) (list : List A) → At i a list → among same a list ≡ true
  unfolding among
  somewhere_among i a [] s = absurd s
  somewhere_among zero a (b ∷ more) s = rw (ap (same a) (sym s) ∙ is_same a) refl
  somewhere_among (suc i) a (b ∷ more) s = go (same a b) (somewhere_among i a more s)
    where
      go : (c : Bool) → among same a more ≡ true → (c || among same a more) ≡ true
      go true e = refl
      go false e = e

  -- ---- what stands at a place was seen, or stands at an earlier one

  abbrev Earlier : List A → List A → ℕ → Type 0
  Earlier seen list k = (a : A) × At k a list × ((among same a seen ≡ true) ⊎ ((j : ℕ) × (j < k) × At j a list))

  -- behind one that was not seen before
  module _ (seen : List A) (a : A) (more : List A) where
    behind : (k : ℕ) → Earlier (a ∷ seen) more k → Earlier seen (a ∷ more) (suc k)
    unfolding among
    behind k (b, there, inr (j, l, s)) = (b, there, inr (suc j, omega arith, s))
    behind k (b, there, inl e) = go (same b a) refl e
      where
        go : (c : Bool) → same b a ≡ c → (c || among same b seen) ≡ true → Earlier seen (a ∷ more) (suc k)
        go true u v = (b, there, inr (0, omega arith, same-is b a u))
        go false u v = (b, there, inl v)

    ahead : (k : ℕ) → Earlier seen (a ∷ more) (suc k) → Earlier (a ∷ seen) more k
    unfolding among
    ahead k (b, there, inr (zero, l, s)) = (b, there, inl (rw (ap (same b) (sym s) ∙ is_same b) refl))
    ahead k (b, there, inr (suc j, l, s)) = (b, there, inr (j, omega arith, s))
    ahead k (b, there, inl e) = (b, there, inl (go (same b a)))
      where
        go : (c : Bool) → (c || among same b seen) ≡ true
        go true = refl
        go false = e

    not_first : among same a seen ≡ false → Earlier seen (a ∷ more) 0 → ⊥
    not_first none (b, there, inl e) = apart (sym none ∙ ap (λ (x : A). among same x seen) (sym there) ∙ e)
    not_first none (b, there, inr (j, l, s)) = omega arith

  -- ---- the first of them

  pub record FirstAt (seen : List A) (i : ℕ) (list : List A) (n : ℕ) : Type 0 where
    pub place : ℕ
    pub is : n ≡ i + place
    pub earlier : Earlier seen list place
    pub first : (k : ℕ) → k < place → Earlier seen list k → ⊥

  found : (seen : List A) (i : ℕ) (list : List A) (n : ℕ) → first_repeat same seen i list ≡ repeated n → FirstAt seen i list n
  unfolding first_repeat
  found seen i [] n e = absurd (let z : ◌≡◌ {A = ℕ} 0 1 = cc in omega arith)
  found seen i (a ∷ more) n e = go (among same a seen) refl e (found (a ∷ seen) (suc i) more n)
    where
      go : (c : Bool) → among same a seen ≡ c → cond c (repeated i) (first_repeat same (a ∷ seen) (suc i) more) ≡ repeated n → (first_repeat same (a ∷ seen) (suc i) more ≡ repeated n → FirstAt (a ∷ seen) (suc i) more n) → FirstAt seen i (a ∷ more) n
      go true u v later = let z : i ≡ n = cc in record { place = 0; is = omega arith; earlier = (a, refl, inl u); first = λ k l. absurd (omega arith) }
      go false u v later =
          let F = later v in
          record { place = suc F.place; is = omega (arith, F.is); earlier = behind seen a more F.place F.earlier; first = none }
        where
          none : (k : ℕ) → k < suc (later v).place → Earlier seen (a ∷ more) k → ⊥
          none zero l E = not_first seen a more u E
          none (suc k) l E = (later v).first k (omega arith) (ahead seen a more k E)

  not_found : (seen : List A) (i : ℕ) (list : List A) → first_repeat same seen i list ≡ nowhere → (k : ℕ) → Earlier seen list k → ⊥
  unfolding first_repeat
  not_found seen i [] e k (b, there, how) = there
  not_found seen i (a ∷ more) e k E = go (among same a seen) refl e (not_found (a ∷ seen) (suc i) more) k E
    where
      go : (c : Bool) → among same a seen ≡ c → cond c (repeated i) (first_repeat same (a ∷ seen) (suc i) more) ≡ nowhere → (first_repeat same (a ∷ seen) (suc i) more ≡ nowhere → (k : ℕ) → Earlier (a ∷ seen) more k → ⊥) → (k : ℕ) → Earlier seen (a ∷ more) k → ⊥
      go true u v later k E = let z : ◌≡◌ {A = ℕ} 0 1 = cc in omega arith
      go false u v later zero E = not_first seen a more u E
      go false u v later (suc k) E = later v k (ahead seen a more k E)

  -- ---- of all

  from_none : (list : List A) (k : ℕ) → Earlier [] list k → Repeats k list
  unfolding among
  from_none list k (a, there, inl e) = apart e
  from_none list k (a, there, inr (j, l, s)) = (a, there, j, l, s)

  to_none : (list : List A) (k : ℕ) → Repeats k list → Earlier [] list k
  to_none list k (a, there, j, l, s) = (a, there, inr (j, l, s))

  -- the one that is named repeats an earlier one, and none before it does
  pub first_repeats : (list : List A) (n : ℕ) → first_repeat same [] 0 list ≡ repeated n → Repeats n list × ((k : ℕ) → k < n → Repeats k list → ⊥)
  first_repeats list n e =
      let F = found [] 0 list n e in
      let same_place : F.place ≡ n = omega (arith, F.is) in
      (subst (λ (m : ℕ). Repeats m list) same_place (from_none list F.place F.earlier), λ k l R. F.first k (omega arith) (to_none list k R))

  -- where none is named, none repeats an earlier one
  pub none_repeats : (list : List A) → first_repeat same [] 0 list ≡ nowhere → (k : ℕ) → Repeats k list → ⊥
  none_repeats list e k R = not_found [] 0 list e k (to_none list k R)

  -- ---- and the other way round

  pub only_repeats : (list : List A) (n : ℕ) → Repeats n list → ((k : ℕ) → k < n → Repeats k list → ⊥) → first_repeat same [] 0 list ≡ repeated n
  only_repeats list n R none = go (first_repeat same [] 0 list) refl
    where
      go : (r : Repeat) → first_repeat same [] 0 list ≡ r → r ≡ repeated n
      go nowhere e = absurd (none_repeats list e n R)
      go (repeated m) e = by_place (dec_lt m n) (dec_lt n m)
        where
          F : Repeats m list × ((k : ℕ) → k < m → Repeats k list → ⊥)
          F = first_repeats list m e

          by_place : Dec (m < n) → Dec (n < m) → repeated m ≡ repeated n
          by_place (yes l) d = absurd (none m l F.0)
          by_place (no a) (yes l) = absurd (F.1 n l R)
          by_place (no a) (no b) = let same_place : m ≡ n = omega arith in ap repeated same_place

  pub only_nowhere : (list : List A) → ((k : ℕ) → Repeats k list → ⊥) → first_repeat same [] 0 list ≡ nowhere
  only_nowhere list none = go (first_repeat same [] 0 list) refl
    where
      go : (r : Repeat) → first_repeat same [] 0 list ≡ r → r ≡ nowhere
      go nowhere e = refl
      go (repeated m) e = absurd (none m (first_repeats list m e).0)
