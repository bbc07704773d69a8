-- The ranges that `loss` and `position` write for themselves, laid beside the rows of the type table (document 01, "Positions and counts";
-- document 02, A3).
use Rattle.std.specs.Prelude.{ℕ, suc, List, [], ◌∷◌, cond, ◌≡◌, ℤ, pos, ◌+ℤ◌, ◌-ℤ◌}
use Prim.Native.String.{String}
use Rattle.basics.specs.Rings.{around}
use Rattle.loss.specs.Ring.{missed_between, ring_formula, counted, outside}
use Rattle.position.specs.Ranges.{Range, inside, longitudes, latitudes, parallels, meridians, ring_places, no_latitude, no_longitude, offsets}
use Rattle.position.specs.Resolution.{kind_of, allowed}
use Rattle.basics.specs.Lists.{natural}
use Rattle.types.specs.Row.{span_of}
use Rattle.types.specs.Shape.{Ty, field, told}
use Rattle.types.specs.Shape.Ty.{num, seq, choice}
use Rattle.types.specs.Shape.Fields.{none, must}
use Rattle.types.specs.Shape.Alts.{one, or}
use Rattle.types.specs.Names.{row_of}
use Rattle.types.specs.Table.{type_of, the_rows}
use Rattle.answers.specs.declared.reasons.Reason.TheVariants as reason

-- ---- the ends of a type

-- the name of a row of the table, and the range that the resolver has for its type
infixl 20 ◌is◌
pub data Twice : Type 0 where
  ◌is◌ : String → Range → Twice

abbrev pub twice : List Twice
twice =
    ("Latitude" is latitudes) ∷  -- 5.2.4.40
    ("Longitude" is longitudes) ∷  -- 5.2.4.43
    ("OffsetLL-B12" is offsets 12) ∷  -- 5.2.4.47
    ("OffsetLL-B14" is offsets 14) ∷  -- 5.2.4.48
    ("OffsetLL-B16" is offsets 16) ∷  -- 5.2.4.49
    ("OffsetLL-B18" is offsets 18) ∷  -- 5.2.4.50
    ("OffsetLL-B22" is offsets 22) ∷  -- 5.2.4.51
    ("OffsetLL-B24" is offsets 24) ∷  -- 5.2.4.52
    []

abbrev pub range_of : String → Range
range_of name = record { lowest = (the_rows (row_of name)).lowest; highest = (the_rows (row_of name)).highest }

abbrev pub Same : List Twice → Type 0
Same [] = Unit {0}
Same ((name is range) ∷ more) = (range_of name ≡ range) × Same more

-- ---- the points of an axis, which are not all numbers of its type

-- a range and one number more, behind its highest
abbrev pub one_more : Range → Range
one_more range = record { lowest = range.lowest; highest = range.highest +ℤ pos 1 }

-- document 02, A3: reading and writing carry one number more than there are points on the axis: the type's highest, which means "no information"
pub record Axis (name : String) (points : Range) (none : ℤ) : Type 0 where
  pub shared : range_of name ≡ one_more points
  pub left_out : (range_of name).highest ≡ none

-- ---- the seven forms of PositionOffsetLL

-- a form as a type: the longitude's number and then the latitude's, each of the type with this name and in the range that the resolver allows it
abbrev pub whole : String → Range → Ty
whole name range = num (told reason.NumberOutside (row_of name) (field range.lowest (natural (range.highest -ℤ range.lowest))))

abbrev pub form : ℕ → String → String → Ty
form n first second = seq (must (whole first (allowed longitudes (kind_of (pos n)))) (must (whole second (allowed latitudes (kind_of (pos n)))) none))

abbrev pub offset_form : ℕ → String → Ty
offset_form n name = form n name name

abbrev pub forms : Ty
forms = choice (row_of "PositionOffsetLL") (or (offset_form 1 "OffsetLL-B12") (or (offset_form 2 "OffsetLL-B14") (or (offset_form 3 "OffsetLL-B16") (or (offset_form 4 "OffsetLL-B18") (or (offset_form 5 "OffsetLL-B22") (or (offset_form 6 "OffsetLL-B24") (one (form 7 "Longitude" "Latitude"))))))))

-- ---- the statement

pub record Agreement : Type 0 where
  pub ends : Same twice
  pub alternatives : type_of the_rows (row_of "PositionOffsetLL") ≡ forms  -- 5.2.3.45
  pub latitude : Axis "Latitude" parallels no_latitude
  pub longitude : Axis "Longitude" meridians no_longitude
  -- the ring has a place for each number of Longitude but one
  pub round : ring_places ≡ span_of (the_rows (row_of "Longitude"))
  -- 5.2.4.45: a count is taken exactly where it lies in the range of MsgCount, and the ring has as many places as the range numbers
  pub counts : (old new : ℕ) → missed_between old new ≡ cond (inside (range_of "MsgCount") (pos old)) (cond (inside (range_of "MsgCount") (pos new)) (counted (ring_formula old new)) outside) outside
  pub ring : (old new : ℕ) → ring_formula old new ≡ around (suc (span_of (the_rows (row_of "MsgCount")))) (pos new -ℤ pos old -ℤ pos 1)
