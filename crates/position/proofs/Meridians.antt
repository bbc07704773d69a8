-- Laws of the ring of the meridians: a meridian is where it is, and a whole ring further, either way, is the same place. Assumes nothing.
use Prim.Native.Nat.{ℕ, suc, ◌+◌, ◌-◌, ◌%◌, ◌<◌, ◌≤◌}
use native.Mathlib.Omega.{arith}
use native.Mathlib.Decide.{dec_lt}
use mathlib.Core.Path.{◌≡◌, refl, ap}
use mathlib.Core.Bool.{true}
use lib.IntN.{ℤ, pos, negsuc, ◌+ℤ◌, ◌-ℤ◌}
use borrow.Author.Tests.{lt-ltb, le-ltb, leb-true, le-leb}
use Rattle.std.specs.Int.{int_rem_euclid}
use Rattle.basics.specs.Rings.{around}
use Rattle.position.specs.Ranges.{inside, meridians, ring_places}
use Rattle.position.specs.Resolution.{on_ring}
use Rattle.position.proofs.Ranges.{ends}

-- the code's remainder is the place on a ring
pub remainder_around : (n : ℕ) (z : ℤ) → int_rem_euclid z (pos n) ≡ pos (around n z)
remainder_around n (pos a) = refl
remainder_around n (negsuc a) = refl

-- how far the lowest meridian is below 0
abbrev below : ℕ
below = 1799999999

-- a place on the ring, counted from the lowest meridian
from_lowest : ℕ → ℤ
from_lowest m = meridians.lowest +ℤ pos m

above_zero : (m : ℕ) → below ≤ m → from_lowest m ≡ pos (m - below)
unfolding from_lowest
above_zero m h = rw (le-ltb m below h)

below_zero : (m : ℕ) → m < below → from_lowest m ≡ negsuc (below - suc m)
unfolding from_lowest
below_zero m h = rw (lt-ltb m below h)

-- a meridian is where it is
pub on_ring_lem : (z : ℤ) → inside meridians z ≡ true → on_ring z ≡ z
unfolding from_lowest
on_ring_lem (pos a) h =
    let l : a ≤ 1800000000 = leb-true a 1800000000 (ends meridians (pos a) h).1 in
    let m : (a + below) % ring_places ≡ a + below = omega arith in
    rw m (rw (above_zero (a + below) (omega arith)) (ap pos (omega arith)))
on_ring_lem (negsuc a) h =
    let l : a ≤ 1799999998 = leb-true a 1799999998 (ends meridians (negsuc a) h).0 in
    rw (le-ltb below (suc a) (omega arith))
    (let m : (below - suc a) % ring_places ≡ below - suc a = omega arith in rw m (rw (below_zero (below - suc a) (omega arith)) (ap negsuc (omega arith))))

-- once round to the east
pub east_round : (a : ℕ) → 1800000000 < a → a < 5400000000 → on_ring (pos a) ≡ pos a -ℤ pos ring_places
unfolding from_lowest
east_round a h k =
    let m : (a + below) % ring_places ≡ a - 1800000001 = omega arith in
    rw m (elim (dec_lt a ring_places) [
      | yes l ↦ rw (lt-ltb a ring_places l, below_zero (a - 1800000001) (omega arith)) (ap negsuc (omega arith))
      | no l ↦ rw (le-ltb a ring_places (omega arith), above_zero (a - 1800000001) (omega arith)) (ap pos (omega arith))
    ])

-- once round to the west
pub west_round : (a : ℕ) → 1799999999 ≤ a → a < 5399999999 → on_ring (negsuc a) ≡ negsuc a +ℤ pos ring_places
unfolding from_lowest
west_round a h k =
    rw (lt-ltb below (suc a) (omega arith))
    (let m : ring_places - 1 - (suc a - suc below) % ring_places ≡ 5399999998 - a = omega arith in
    rw m (elim (dec_lt ring_places (suc a)) [
      | yes l ↦ rw (lt-ltb ring_places (suc a) l, below_zero (5399999998 - a) (omega arith)) (ap negsuc (omega arith))
      | no l ↦ rw (le-ltb ring_places (suc a) (omega arith), above_zero (5399999998 - a) (omega arith)) (ap pos (omega arith))
    ]))

-- every place on the ring is a meridian
pub ring_inside : (z : ℤ) → inside meridians (on_ring z) ≡ true
unfolding from_lowest inside
ring_inside z = go (around ring_places z') (around_below z')
  where
    z' : ℤ
    z' = z -ℤ meridians.lowest

    around_below : (y : ℤ) → around ring_places y < ring_places
    around_below (pos a) = omega arith
    around_below (negsuc a) = omega arith

    go : (m : ℕ) → m < ring_places → inside meridians (meridians.lowest +ℤ pos m) ≡ true
    go m h = elim (dec_lt m below) [
      | yes l ↦ rw (below_zero m l, le-leb (below - suc m) 1799999998 (omega arith)) refl
      | no l ↦ rw (above_zero m (omega arith)) (le-leb (m - below) 1800000000 (omega arith))
    ]
