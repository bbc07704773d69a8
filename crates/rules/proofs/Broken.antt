-- The first entry of a list that breaks a rule, and what stands behind the list.
-- Assumes nothing.
use Prim.Native.Nat.{ℕ, zero, suc, ◌+◌, ◌<◌}
use native.Mathlib.Omega.{arith}
use mathlib.Core.Path.{◌≡◌, refl, sym, ap, ◌∙◌}
use mathlib.Core.Bool.{Bool, true, false, cond}
use mathlib.Core.Logic.{◌⊎◌, inl, inr}
use borrow.Author.Tests.{eqb-true, eqb-false, eq-eqb, ne_eqb}
use lib.Dec.{eqb}
use Rattle.meaning.specs.Values.{Value, Parts, Values, no_items, item}
use Rattle.sheet.specs.Values.{parts_of}
use Rattle.messages.specs.Places.{Entry}
use Rattle.rules.specs.Rsi.{ruling, passes, first_broken}
use Rattle.rules.specs.Ruling.{Ruling}

-- what stands behind a list decides only where no entry breaks a rule
module _ (rule : Parts → ℕ) where
  pub none_broken : (i : ℕ) (vs : Values) (b : Ruling) → (first_broken rule i vs passes).number ≡ 0 → first_broken rule i vs b ≡ b
  unfolding first_broken
  none_broken i no_items b e = refl
  none_broken i (item v more) b e = go (rule (parts_of v)) (none_broken (suc i) more b) e
    where
      go : (n : ℕ) → ((first_broken rule (suc i) more passes).number ≡ 0 → first_broken rule (suc i) more b ≡ b) → (cond (eqb n 0) (first_broken rule (suc i) more passes) (ruling n i)).number ≡ 0 → cond (eqb n 0) (first_broken rule (suc i) more b) (ruling n i) ≡ b
      go zero further d = further d
      go (suc n) further d = absurd (let z : suc n ≡ 0 = rw (ne_eqb (suc n) 0 (λ z. omega arith)) at d in omega arith)

  pub some_broken : (i : ℕ) (vs : Values) (b : Ruling) → ((first_broken rule i vs passes).number ≡ 0 → ⊥) → first_broken rule i vs b ≡ first_broken rule i vs passes
  unfolding first_broken
  some_broken i no_items b h = absurd (h refl)
  some_broken i (item v more) b h = go (rule (parts_of v)) (some_broken (suc i) more b) h
    where
      go : (n : ℕ) → (((first_broken rule (suc i) more passes).number ≡ 0 → ⊥) → first_broken rule (suc i) more b ≡ first_broken rule (suc i) more passes) → ((cond (eqb n 0) (first_broken rule (suc i) more passes) (ruling n i)).number ≡ 0 → ⊥) → cond (eqb n 0) (first_broken rule (suc i) more b) (ruling n i) ≡ cond (eqb n 0) (first_broken rule (suc i) more passes) (ruling n i)
      go zero further d = further d
      go (suc n) further d = rw (ne_eqb (suc n) 0 (λ z. omega arith)) refl

  -- ---- what the first one is, apart from any loop

  abbrev pub NoneBreaks : Values → Type 0
  NoneBreaks vs = (k : ℕ) (v : Value) → Entry k v vs → rule (parts_of v) ≡ 0

  -- entry k breaks the rule of this number, and none before it breaks any
  pub record FirstBreaks (vs : Values) (k n : ℕ) : Type 0 where
    pub entry : Value
    pub there : Entry k entry vs
    pub is : rule (parts_of entry) ≡ n
    pub some : ¬ (n ≡ 0)
    pub first : (j : ℕ) (v : Value) → j < k → Entry j v vs → rule (parts_of v) ≡ 0

  pub none_so : (i : ℕ) (vs : Values) (b : Ruling) → NoneBreaks vs → first_broken rule i vs b ≡ b
  unfolding first_broken
  none_so i no_items b none = refl
  none_so i (item v more) b none = rw (eq-eqb (rule (parts_of v)) 0 (none 0 v refl)) (none_so (suc i) more b (λ k w e. none (suc k) w e))

  pub first_so : (i : ℕ) (vs : Values) (b : Ruling) (k n : ℕ) → FirstBreaks vs k n → first_broken rule i vs b ≡ ruling n (i + k)
  unfolding first_broken
  first_so i no_items b k n F = absurd F.there
  first_so i (item v more) b zero n F =
      let is : rule (parts_of v) ≡ n = ap (λ (w : Value). rule (parts_of w)) (sym F.there) ∙ F.is in
      let at : i ≡ i + 0 = omega arith in
      rw (is, ne_eqb n 0 F.some) (ap (ruling n) at)
  first_so i (item v more) b (suc k) n F =
      let at : suc i + k ≡ i + suc k = omega arith in
      rw (eq-eqb (rule (parts_of v)) 0 (F.first 0 v (omega arith) refl))
      (first_so (suc i) more b k n (record { entry = F.entry; there = F.there; is = F.is; some = F.some; first = λ j w l e. F.first (suc j) w (omega arith) e }) ∙ ap (ruling n) at)

  -- one of the two holds
  pub breaks_or_not : (vs : Values) → NoneBreaks vs ⊎ ((k : ℕ) × (n : ℕ) × FirstBreaks vs k n)
  breaks_or_not no_items = inl (λ k v e. absurd e)
  breaks_or_not (item v more) = go (eqb (rule (parts_of v)) 0) refl (breaks_or_not more)
    where
      none : rule (parts_of v) ≡ 0 → NoneBreaks more → NoneBreaks (item v more)
      none z others zero w e = ap (λ (x : Value). rule (parts_of x)) e ∙ z
      none z others (suc k) w e = others k w e

      before : rule (parts_of v) ≡ 0 → {k : ℕ} → ((j : ℕ) (w : Value) → j < k → Entry j w more → rule (parts_of w) ≡ 0) → (j : ℕ) (w : Value) → j < suc k → Entry j w (item v more) → rule (parts_of w) ≡ 0
      before z first zero w l e = ap (λ (x : Value). rule (parts_of x)) e ∙ z
      before z first (suc j) w l e = first j w (omega arith) e

      go : (b : Bool) → eqb (rule (parts_of v)) 0 ≡ b → NoneBreaks more ⊎ ((k : ℕ) × (n : ℕ) × FirstBreaks more k n) → NoneBreaks (item v more) ⊎ ((k : ℕ) × (n : ℕ) × FirstBreaks (item v more) k n)
      go false e later = inr (0, rule (parts_of v), record { entry = v; there = refl; is = refl; some = eqb-false (rule (parts_of v)) 0 e; first = λ j w l. absurd (omega arith) })
      go true e (inl others) = inl (none (eqb-true (rule (parts_of v)) 0 e) others)
      go true e (inr (k, n, F)) = inr (suc k, n, record { entry = F.entry; there = F.there; is = F.is; some = F.some; first = before (eqb-true (rule (parts_of v)) 0 e) F.first })
