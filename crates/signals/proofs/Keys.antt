-- References as numbers: no two references in their range have one number, so that to compare numbers is to compare references.
-- Assumes nothing.
use Prim.Native.Nat.{ℕ}
use native.Mathlib.Omega.{arith}
use mathlib.Core.Path.{◌≡◌, refl, sym, ap, ap₂, ◌∙◌}
use mathlib.Core.Bool.{Bool, true, false, ◌&&◌}
use borrow.Author.Tests.{eqb-true, eq-eqb, ne_eqb}
use lib.Dec.{eqb}
use Rattle.signals.specs.References.{Reference, alone, within, same}
use Rattle.signals.specs.Steps.{key_of, Small}

-- ---- what the test says

both : (a b : Bool) → (a && b) ≡ true → (a ≡ true) × (b ≡ true)
both true true e = (refl, refl)
both true false e = absurd (let z : ◌≡◌ {A = ℕ} 0 1 = cc in omega arith)
both false b e = absurd (let z : ◌≡◌ {A = ℕ} 0 1 = cc in omega arith)

pub same_is : (a b : Reference) → same a b ≡ true → a ≡ b
unfolding same
same_is (alone i) (alone j) e = ap alone (eqb-true i j e)
same_is (alone i) (within q j) e = absurd (let z : ◌≡◌ {A = ℕ} 0 1 = cc in omega arith)
same_is (within p i) (alone j) e = absurd (let z : ◌≡◌ {A = ℕ} 0 1 = cc in omega arith)
same_is (within p i) (within q j) e = let t = both (eqb p q) (eqb i j) e in ap₂ within (eqb-true p q t.0) (eqb-true i j t.1)

pub is_same : (a : Reference) → same a a ≡ true
unfolding same
is_same (alone i) = eq-eqb i i refl
is_same (within p i) = rw (eq-eqb p p refl, eq-eqb i i refl) refl

-- ---- what the numbers say

pub key_is : (a b : Reference) → Small a → Small b → key_of a ≡ key_of b → a ≡ b
key_is (alone i) (alone j) s t e = ap alone e
key_is (alone i) (within q j) s t e = absurd (omega arith)
key_is (within p i) (alone j) s t e = absurd (omega arith)
key_is (within p i) (within q j) s t e =
    let regions : p ≡ q = omega arith in
    let ids : i ≡ j = omega arith in
    ap₂ within regions ids

pub same_key : (a b : Reference) → Small a → Small b → eqb (key_of a) (key_of b) ≡ same a b
same_key a b s t = go (same a b) refl
  where
    go : (c : Bool) → same a b ≡ c → eqb (key_of a) (key_of b) ≡ c
    go true e = eq-eqb (key_of a) (key_of b) (ap key_of (same_is a b e))
    go false e = ne_eqb (key_of a) (key_of b) (λ k. let z : ◌≡◌ true false = sym (is_same a) ∙ ap (same a) (key_is a b s t k) ∙ e in let y : ◌≡◌ {A = ℕ} 0 1 = cc in omega arith)
