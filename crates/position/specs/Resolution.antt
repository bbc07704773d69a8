-- What the resolver answers, clause by clause in the order of document 01, Positions and counts, as document 02, A3, amends it.
use Rattle.std.specs.Prelude.{ℕ, ◌-◌, Bool, true, false, cond, ℤ, pos, nat_abs, ◌+ℤ◌, ◌-ℤ◌, eqb, get_or}
use Rattle.basics.specs.Rings.{around}
use Rattle.position.specs.Ranges.{Range, inside, longitudes, latitudes, parallels, meridians, ring_places, offsets, offset_widths}
use Rattle.position.specs.Checked.{Resolved, refusal, success}

-- "form 1 to 7" (source 000, 5.2.3.45)
abbrev pub forms : Range
forms = record { lowest = pos 1; highest = pos 7 }

-- the two numbers "get their kind from the form": an offset of so many bits on each axis, or a coordinate on each
pub data Kind : Type 0 where
  offset : ℕ → Kind
  coordinate : Kind

-- "Forms one to six carry offsets"; "Form seven is an absolute coordinate"
abbrev pub kind_of : ℤ → Kind
kind_of form = cond (eqb (nat_abs form) 7) coordinate (offset (get_or offset_widths (nat_abs form - 1) 0))

-- the numbers that a kind of form may carry for an axis (source 000, 5.2.3.35 to 5.2.3.41)
abbrev pub allowed : Range → Kind → Range
allowed axis (offset w) = offsets w
allowed axis coordinate = axis

-- ---- a shift of a point by an offset (document 02, A3)

-- a whole number taken round the ring of the meridians
abbrev pub on_ring : ℤ → ℤ
on_ring z = meridians.lowest +ℤ pos (around ring_places (z -ℤ meridians.lowest))

-- "an east or west sum goes round it"
abbrev pub eastward : ℤ → ℤ → ℤ
eastward longitude east = on_ring (longitude +ℤ east)

abbrev pub northward : ℤ → ℤ → ℤ
northward latitude north = latitude +ℤ north

-- a check with the number of its refusal, and what comes after it
abbrev pub check : Bool → ℕ → Resolved → Resolved
check true n rest = rest
check false n rest = refusal n

-- "The resolver now refuses with 10 ... where the reference in forms one to six, or the coordinate in form seven, has such a number"
abbrev pub at_point : ℤ → ℤ → Resolved → Resolved
at_point latitude longitude rest = check (inside meridians longitude) 10 (check (inside parallels latitude) 10 rest)

-- "A latitude sum outside −900,000,000 to 900,000,000 is 9"; an east or west sum is never refused
abbrev pub arrival : ℤ → ℤ → Resolved
arrival latitude longitude = check (inside parallels latitude) 9 (success latitude longitude)

-- forms one to six: the reference, which has to be a point, shifted by the offsets
unfoldable pub shifted : ℤ → ℤ → ℤ → ℤ → Resolved
shifted latitude longitude north east = at_point latitude longitude (arrival (northward latitude north) (eastward longitude east))

-- form seven: the coordinate, which has to be a point, as it was sent
unfoldable pub standing : ℤ → ℤ → Resolved
standing latitude longitude = at_point latitude longitude (success latitude longitude)

-- by the kind of form
abbrev pub meant : Kind → ℤ → ℤ → ℤ → ℤ → Resolved
meant (offset w) latitude longitude first second = shifted latitude longitude second first
meant coordinate latitude longitude first second = standing second first

-- "then the two numbers for the form (longitude first): 4"; 10 comes "after the checks for 4 and before 9"
unfoldable pub at_kind : Kind → ℤ → ℤ → ℤ → ℤ → Resolved
at_kind kind latitude longitude first second =
    check (inside (allowed longitudes kind) first) 4
    (check (inside (allowed latitudes kind) second) 4
    (meant kind latitude longitude first second))

-- "It checks form, reference latitude, reference longitude": 4
unfoldable pub resolution : ℤ → ℤ → ℤ → ℤ → ℤ → Resolved
resolution latitude longitude form first second =
    check (inside forms form) 4
    (check (inside latitudes latitude) 4
    (check (inside longitudes longitude) 4
    (at_kind (kind_of form) latitude longitude first second)))
