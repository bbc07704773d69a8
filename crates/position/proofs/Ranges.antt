-- Laws of ranges, over their ends: the two axes, the offsets and the forms share them. Assumes nothing.
use Prim.Native.Nat.{ℕ, ◌≤◌}
use native.Mathlib.Omega.{arith}
use mathlib.Core.Path.{◌≡◌, refl, sym, subst}
use mathlib.Core.Bool.{Bool, true, false, ◌&&◌}
use lib.IntN.{ℤ, pos, negsuc, nat_abs}
use lib.Signed.{le_z, non_neg, ◌≤ℤ◌}
use Rattle.std.proofs.lemmas.Int.{ints}
use mir.Syntax.{w64}
use mir.Val.{to_z, of_z}
use lib.Dec.{T}
use borrow.Author.Tests.{leb-true}
use Rattle.position.specs.Ranges.{Range, inside}

-- a signed number as the machine reads it back from its bits
abbrev pub read : ℤ → ℤ
read z = to_z w64 (of_z w64 z)

-- ---- the test of both ends

pub both : (a b : Bool) → a && b ≡ true → (a ≡ true) × (b ≡ true)
both true b e = (refl, e)
both false b e = absurd (subst T (sym e) tt)

pub ends :
    (range : Range) (z : ℤ) → inside range z ≡ true
    → (le_z range.lowest z ≡ true) × (le_z z range.highest ≡ true)
unfolding inside
ends range z e = both (le_z range.lowest z) (le_z z range.highest) e

-- the same as orders, both ways
pub between : (range : Range) (z : ℤ) → inside range z ≡ true → (range.lowest ≤ℤ z) × (z ≤ℤ range.highest)
between range z e = let t = ends range z e in grind (arith, ints)

pub from_orders : (range : Range) (z : ℤ) → range.lowest ≤ℤ z → z ≤ℤ range.highest → inside range z ≡ true
unfolding inside
from_orders range z l h = grind (arith, ints)

-- ---- a range of natural numbers

pub natural :
    (a b : ℕ) (z : ℤ) → inside (record { lowest = pos a; highest = pos b }) z ≡ true
    → T (non_neg z) × (a ≤ nat_abs z) × (nat_abs z ≤ b)
natural a b (pos n) e = let t = ends _ (pos n) e in (tt, leb-true a n t.0, leb-true n b t.1)
natural a b (negsuc n) e = absurd (subst T (sym (ends _ (negsuc n) e).0) tt)
