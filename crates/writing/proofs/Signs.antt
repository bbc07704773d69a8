-- A cell against a range, as the code of writing takes it apart.
-- Assumes nothing.
use Prim.Native.Nat.{ℕ, ◌+◌, ◌≤◌}
use native.Mathlib.Omega.{arith}
use mathlib.Core.Bool.{true, false}
use mathlib.Core.Path.{◌≡◌, refl, sym, subst}
use borrow.Author.Tests.{leb-true, leb-false}
use lib.Dec.{T, ltb}
use lib.IntN.{ℤ, pos, negsuc}
use lib.Signed.{lt_z}
use Rattle.basics.specs.Lists.{natural}
use Rattle.passing.specs.Ended.{in_range}
use Rattle.writing.specs.Cells.{height_in}

pub height_outside : (span : ℕ) (z : ℤ) → false ≡ in_range span z → span + 1 ≡ height_in span z
height_outside span (pos n) e = omega (arith, leb-false n span (sym e))
height_outside span (negsuc n) e = refl

pub height_inside : (span : ℕ) (z : ℤ) → true ≡ in_range span z → (m : ℕ) × (z ≡ pos m) × (m ≤ span)
height_inside span (pos n) e = (n, refl, leb-true n span (sym e))
height_inside span (negsuc n) e = absurd (subst T e tt)

pub positive : (z : ℤ) → lt_z (pos 0) z ≡ ltb 0 (natural z)
positive (pos n) = refl
positive (negsuc n) = refl
