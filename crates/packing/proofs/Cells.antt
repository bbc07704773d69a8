-- The number of a cell, where it has one below a bound.
-- Assumes nothing.
use Prim.Native.Nat.{ℕ, ◌<◌, ◌≤◌}
use native.Mathlib.Omega.{arith}
use mathlib.Core.Path.{◌≡◌, refl, sym, ap, subst, ◌∙◌}
use mathlib.Core.Bool.{Bool, true, false, cond}
use mathlib.Core.List.{List}
use borrow.Author.Tests.{ltb-true, ltb-false, lt-ltb, le-ltb}
use lib.Dec.{T, ltb}
use lib.IntN.{ℤ, pos, negsuc, nat_abs}
use lib.ListN.{length, get_or, get_or-eq_default}
use lib.Signed.{lt_z}
use Rattle.packing.specs.Entries.{below}

pub negative_none : (bound : ℕ) (cell : ℤ) → lt_z cell (pos 0) ≡ true → bound ≡ below bound cell
unfolding below
negative_none bound (pos n) e = let h = ltb-true n 0 e in absurd (omega arith)
negative_none bound (negsuc n) e = refl

-- a cell that is not negative, as a number
module _ (bound : ℕ) (cell : ℤ) (e : lt_z cell (pos 0) ≡ false) where
  pub is_below : nat_abs cell < bound → nat_abs cell ≡ below bound cell
  unfolding below
  is_below = go cell e
    where
      go : (z : ℤ) → lt_z z (pos 0) ≡ false → nat_abs z < bound → nat_abs z ≡ below bound z
      go (pos n) u h = rw (lt-ltb n bound h) refl
      go (negsuc n) u h = absurd (subst T u tt)

  pub not_below : bound ≤ nat_abs cell → bound ≡ below bound cell
  unfolding below
  not_below = go cell e
    where
      go : (z : ℤ) → lt_z z (pos 0) ≡ false → bound ≤ nat_abs z → bound ≡ below bound z
      go (pos n) u h = rw (le-ltb n bound h) refl
      go (negsuc n) u h = absurd (subst T u tt)

pub below_is : (bound : ℕ) (cell : ℤ) {n : ℕ} → n ≡ below bound cell → n < bound → cell ≡ pos n
unfolding below
below_is bound (pos m) {n} e h = go (ltb m bound) refl e
  where
    go : (b : Bool) → ltb m bound ≡ b → n ≡ cond b m bound → pos m ≡ pos n
    go true u v = ap pos (sym v)
    go false u v = absurd (omega arith)
below_is bound (negsuc m) {n} e h = absurd (omega arith)

pub below_not : (bound : ℕ) (cell : ℤ) {n : ℕ} → n ≡ below bound cell → bound ≤ n → (m : ℕ) → cell ≡ pos m → bound ≤ m
unfolding below
below_not bound cell {n} e h m is = go (ltb m bound) refl (e ∙ ap (below bound) is)
  where
    go : (b : Bool) → ltb m bound ≡ b → n ≡ cond b m bound → bound ≤ m
    go true u v = let l = ltb-true m bound u in absurd (omega (arith, v, l))
    go false u v = ltb-false m bound u

-- past the end there is none
pub past_end : (bound : ℕ) (cells : List ℤ) (k : ℕ) → length cells ≤ k → 0 ≡ below bound (get_or cells k (pos 0))
unfolding below
past_end bound cells k h = rw (get_or-eq_default cells (pos 0) h) (go (ltb 0 bound) refl)
  where
    go : (b : Bool) → ltb 0 bound ≡ b → 0 ≡ cond b 0 bound
    go true u = refl
    go false u = omega (arith, ltb-false 0 bound u)
