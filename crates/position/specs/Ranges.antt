-- The ranges of the resolver's numbers, over the whole numbers. All but the widths are in units of 0.1 microdegree.
use Rattle.std.specs.Prelude.{ℕ, ◌-◌, ◌^◌, Bool, ◌&&◌, List, [], ◌∷◌, ℤ, pos, neg_ℤ, ◌-ℤ◌}
use Rattle.std.specs.Int.Signed.{le_z}

-- whole numbers from the lowest to the highest, both of which belong to it
pub record Range : Type 0 where
  pub lowest : ℤ
  pub highest : ℤ

-- −below to above, as source 000 writes a range
abbrev pub spans : ℕ → ℕ → Range
spans below above = record { lowest = neg_ℤ (pos below); highest = pos above }

-- document 01, Numbers given back: in the range of a type
unfoldable pub inside : Range → ℤ → Bool
inside range z = le_z range.lowest z && le_z z range.highest

-- document 01, Positions and counts: −1,799,999,999 and 1,800,000,001 (source 000, 5.2.4.43)
abbrev pub longitudes : Range
longitudes = record { lowest = neg_ℤ (pos 1799999999); highest = pos 1800000001 }

-- document 01, Positions and counts: "latitude likewise by 5.2.4.40" of source 000, whose ASN.1 prints ten times these numbers.
-- docs/DECISIONS.md has the ground for reading them so
abbrev pub latitudes : Range
latitudes = record { lowest = neg_ℤ (pos 900000000); highest = pos 900000001 }

-- document 02, A3: "A latitude sum outside −900,000,000 to 900,000,000 is 9": the latitudes of points. 900,000,001 means "no information" (source 002, line 1151)
abbrev pub parallels : Range
parallels = record { lowest = neg_ℤ (pos 900000000); highest = pos 900000000 }

-- document 02, A3: "The remaining longitudes, −1,799,999,999 to 1,800,000,000, are a full ring": the longitudes of points. 1,800,000,001 means "no information" (source 002, line 1152)
abbrev pub meridians : Range
meridians = record { lowest = neg_ℤ (pos 1799999999); highest = pos 1800000000 }

-- how many meridians there are
abbrev pub ring_places : ℕ
ring_places = 3600000000

-- the numbers for "no information"
abbrev pub no_latitude : ℤ
no_latitude = pos 900000001

abbrev pub no_longitude : ℤ
no_longitude = pos 1800000001

-- document 01, Positions and counts: the bits of an offset in forms one to six (source 000, 5.2.3.35 to 5.2.3.40)
abbrev pub offset_widths : List ℕ
offset_widths = 12 ∷ 14 ∷ 16 ∷ 18 ∷ 22 ∷ 24 ∷ []

-- a number with a sign in w bits (source 000, 5.2.4.47 to 5.2.4.52)
abbrev pub offsets : ℕ → Range
offsets w = record { lowest = neg_ℤ (pos (2 ^ (w - 1))); highest = pos (2 ^ (w - 1)) -ℤ pos 1 }
