-- What the resolver's answer says besides (document 01, Positions and counts; document 02, A3). `resolve` answers `resolution`, so all of
-- this holds of the code. Assumes nothing.
use Prim.Native.Nat.{ℕ, suc, ◌-◌}
use native.Mathlib.Omega.{arith}
use native.Mathlib.Decide.{dec_le}
use mathlib.Core.Path.{◌≡◌, refl, sym, ap, subst, ◌∙◌}
use mathlib.Core.Bool.{Bool, true, false, ◌&&◌}
use mathlib.Core.Logic.{◌⊎◌, inl, inr}
use lib.Dec.{T}
use lib.IntN.{ℤ, pos, negsuc, nat_abs, ◌+ℤ◌}
use lib.ListN.{get_or}
use borrow.Author.Tests.{ne_eqb, leb-true, le-leb}
use Rattle.position.specs.Ranges.{Range, spans, inside, longitudes, latitudes, parallels, meridians, no_latitude, no_longitude, offsets, offset_widths}
use Rattle.position.specs.Checked.{Resolved, refusal, success}
use Rattle.position.specs.Resolution.{forms, Kind, kind_of, allowed, eastward, northward, check, at_point, arrival, shifted, standing, meant, at_kind, resolution}
use Rattle.position.specs.Resolution.Kind.{offset, coordinate}
use Rattle.position.proofs.Ranges.{natural, ends}
use Rattle.position.proofs.Meridians.{ring_inside}

-- ---- the lists of document 01 and source 000

pub kinds_by_form :
    (kind_of (pos 1) ≡ offset 12) × (kind_of (pos 2) ≡ offset 14) × (kind_of (pos 3) ≡ offset 16)
    × (kind_of (pos 4) ≡ offset 18) × (kind_of (pos 5) ≡ offset 22) × (kind_of (pos 6) ≡ offset 24) × (kind_of (pos 7) ≡ coordinate)
kinds_by_form = (refl, refl, refl, refl, refl, refl, refl)

-- source 000, 5.2.4.47 to 5.2.4.52: OffsetLL-B12, B14, B16, B18, B22, B24
pub ends_of_the_offsets :
    (offsets 12 ≡ spans 2048 2047) × (offsets 14 ≡ spans 8192 8191) × (offsets 16 ≡ spans 32768 32767)
    × (offsets 18 ≡ spans 131072 131071) × (offsets 22 ≡ spans 2097152 2097151) × (offsets 24 ≡ spans 8388608 8388607)
ends_of_the_offsets = (refl, refl, refl, refl, refl, refl)

-- ---- the numbers for "no information" (document 02, A3): of each type the highest

-- from a lowest number up to h
abbrev up_to : ℤ → ℕ → Range
up_to lowest h = record { lowest = lowest; highest = pos h }

widened : (lowest z : ℤ) (h : ℕ) → inside (up_to lowest h) z ≡ true → inside (up_to lowest (suc h)) z ≡ true
unfolding inside
widened lowest (pos a) h e = let t = ends (up_to lowest h) (pos a) e in rw (t.0, le-leb a (suc h) (omega (arith, leb-true a h t.1)))
widened lowest (negsuc a) h e = let t = ends (up_to lowest h) (negsuc a) e in rw t.0

highest_or_below : (lowest z : ℤ) (h : ℕ) → inside (up_to lowest (suc h)) z ≡ true → (z ≡ pos (suc h)) ⊎ (inside (up_to lowest h) z ≡ true)
unfolding inside
highest_or_below lowest (pos a) h e =
    let t = ends (up_to lowest (suc h)) (pos a) e in
    elim (dec_le a h) [
      | yes l ↦ inr (rw (t.0, le-leb a h l))
      | no l ↦ inl (let q : a ≡ suc h = omega (arith, leb-true a (suc h) t.1) in rw q)
    ]
highest_or_below lowest (negsuc a) h e = let t = ends (up_to lowest (suc h)) (negsuc a) e in inr (rw t.0)

-- a longitude is a meridian or means nothing, and not both; a latitude likewise
pub longitude_or_none : (z : ℤ) → inside longitudes z ≡ true → (z ≡ no_longitude) ⊎ (inside meridians z ≡ true)
longitude_or_none z = highest_or_below longitudes.lowest z 1800000000

pub latitude_or_none : (z : ℤ) → inside latitudes z ≡ true → (z ≡ no_latitude) ⊎ (inside parallels z ≡ true)
latitude_or_none z = highest_or_below latitudes.lowest z 900000000

pub no_points : (inside meridians no_longitude ≡ false) × (inside parallels no_latitude ≡ false)
unfolding inside
no_points = (refl, refl)

apart : false ≡ true → ⊥
apart e = subst T (sym e) tt

-- ---- what an accepted answer is

through : (t : Bool) (n : ℕ) (rest : Resolved) → (check t (suc n) rest).number ≡ 0 → (t ≡ true) × (rest.number ≡ 0)
through true n rest e = (refl, e)
through false n rest e = absurd (omega arith)

abbrev pub offset_forms : Range
offset_forms = record { lowest = pos 1; highest = pos 6 }

-- one of forms one to six, and two numbers that it carries
pub record Carries (form first second : ℤ) : Type 0 where
  pub six : inside offset_forms form ≡ true
  pub first_allowed : inside (allowed longitudes (kind_of form)) first ≡ true
  pub second_allowed : inside (allowed latitudes (kind_of form)) second ≡ true

-- such a form from a reference that is a point, with a latitude's sum that is a parallel
pub record Shifts (latitude longitude form first second : ℤ) : Type 0 where
  pub latitude_point : inside parallels latitude ≡ true
  pub longitude_point : inside meridians longitude ≡ true
  pub carried : Carries form first second
  pub latitude_stays : inside parallels (northward latitude second) ≡ true

-- form seven: the reference is of its types, a point or not, and the two numbers are a point
pub record Stands (latitude longitude first second : ℤ) : Type 0 where
  pub latitude_known : inside latitudes latitude ≡ true
  pub longitude_known : inside longitudes longitude ≡ true
  pub first_point : inside meridians first ≡ true
  pub second_point : inside parallels second ≡ true

-- the checks that every form shares
known : (latitude longitude form first second : ℤ) → (resolution latitude longitude form first second).number ≡ 0
    → (inside latitudes latitude ≡ true) × (inside longitudes longitude ≡ true) × ((at_kind (kind_of form) latitude longitude first second).number ≡ 0)
unfolding resolution
known latitude longitude form first second e =
    let rest = at_kind (kind_of form) latitude longitude first second in
    let a = through (inside forms form) 3 (check (inside latitudes latitude) 4 (check (inside longitudes longitude) 4 rest)) e in
    let b = through (inside latitudes latitude) 3 (check (inside longitudes longitude) 4 rest) a.1 in
    let c = through (inside longitudes longitude) 3 rest b.1 in
    (b.0, c.0, c.1)

-- a point is asked for on both axes
by_none : (longitude latitude : ℤ) → (longitude ≡ no_longitude) ⊎ (latitude ≡ no_latitude) → (rest : Resolved)
    → at_point latitude longitude rest ≡ refusal 10
by_none longitude latitude (inl e) rest = rw (e, no_points.0)
by_none longitude latitude (inr e) rest = go (inside meridians longitude)
  where
    go : (b : Bool) → check b 10 (check (inside parallels latitude) 10 rest) ≡ refusal 10
    go true = rw (e, no_points.1)
    go false = refl

at_offset : (latitude longitude first second : ℤ) (w : ℕ) → (at_kind (offset w) latitude longitude first second).number ≡ 0
    → (inside (offsets w) first ≡ true) × (inside (offsets w) second ≡ true) × (inside meridians longitude ≡ true) × (inside parallels latitude ≡ true) × (inside parallels (northward latitude second) ≡ true)
unfolding at_kind shifted
at_offset latitude longitude first second w e =
    let a = through _ _ _ e in
    let b = through _ _ _ a.1 in
    let c = through _ _ _ b.1 in
    let d = through _ _ _ c.1 in
    let f = through _ _ _ d.1 in
    (a.0, b.0, c.0, d.0, f.0)

module _ (form : ℤ) (six : inside offset_forms form ≡ true) where
  abbrev width : ℕ
  width = get_or offset_widths (nat_abs form - 1) 0

  is_offset : kind_of form ≡ offset width
  is_offset = rw (ne_eqb (nat_abs form) 7 (λ q. let n = natural 1 6 form six in omega arith)) refl

module _ (latitude longitude form first second : ℤ) where
  -- from a point only the arrival is left to judge
  pub from_a_point :
      inside parallels latitude ≡ true → inside meridians longitude ≡ true → Carries form first second
      → resolution latitude longitude form first second ≡ arrival (northward latitude second) (eastward longitude first)
  unfolding resolution at_kind shifted
  from_a_point a b c =
      rw (
        widened (pos 1) form 6 c.six,
        widened latitudes.lowest latitude 900000000 a,
        widened longitudes.lowest longitude 1800000000 b,
        c.first_allowed,
        c.second_allowed,
        is_offset form c.six,
        b,
        a,
      )

  pub shifts_when : Shifts latitude longitude form first second
      → resolution latitude longitude form first second ≡ success (northward latitude second) (eastward longitude first)
  shifts_when s = from_a_point s.latitude_point s.longitude_point s.carried ∙ rw s.latitude_stays

  pub shifts_only_when : inside offset_forms form ≡ true → (resolution latitude longitude form first second).number ≡ 0 → Shifts latitude longitude form first second
  shifts_only_when six e =
      let rest = (known latitude longitude form first second e).2 in
      let kind = is_offset form six in
      let s = at_offset latitude longitude first second (width form six) (subst (λ (k : Kind). (at_kind k latitude longitude first second).number ≡ 0) kind rest) in
      record { latitude_point = s.3; longitude_point = s.2; carried = record { six = six; first_allowed = rw kind s.0; second_allowed = rw kind s.1 }; latitude_stays = s.4 }

seven_known : inside forms (pos 7) ≡ true
unfolding inside
seven_known = refl

module _ (latitude longitude first second : ℤ) where
  -- form seven "replaces the reference"
  pub stands_when : Stands latitude longitude first second → resolution latitude longitude (pos 7) first second ≡ success second first
  unfolding resolution at_kind standing
  stands_when s =
      rw (
        seven_known,
        s.latitude_known,
        s.longitude_known,
        widened longitudes.lowest first 1800000000 s.first_point,
        widened latitudes.lowest second 900000000 s.second_point,
        s.first_point,
        s.second_point,
      )

  pub stands_only_when : (resolution latitude longitude (pos 7) first second).number ≡ 0 → Stands latitude longitude first second
  unfolding at_kind standing
  stands_only_when e =
      let k = known latitude longitude (pos 7) first second e in
      let p = check (inside parallels second) 10 (success second first) in
      let m = check (inside meridians first) 10 p in
      let d = through (inside longitudes first) 3 (check (inside latitudes second) 4 m) k.2 in
      let f = through (inside latitudes second) 3 m d.1 in
      let g = through (inside meridians first) 9 p f.1 in
      let h = through (inside parallels second) 9 (success second first) g.1 in
      record { latitude_known = k.0; longitude_known = k.1; first_point = g.0; second_point = h.0 }

pub seventh_form_forgets_the_reference :
    (latitude longitude latitude' longitude' first second : ℤ)
    → inside latitudes latitude ≡ true → inside longitudes longitude ≡ true
    → inside latitudes latitude' ≡ true → inside longitudes longitude' ≡ true
    → resolution latitude longitude (pos 7) first second ≡ resolution latitude' longitude' (pos 7) first second
unfolding resolution at_kind
seventh_form_forgets_the_reference latitude longitude latitude' longitude' first second a b c d = rw (a, b, c, d)

-- ---- "no information" is 10, and no answer

-- in forms one to six, where the reference has it on either axis; what it would be shifted by counts for nothing
pub no_reference :
    (latitude longitude form first second : ℤ) → inside latitudes latitude ≡ true → inside longitudes longitude ≡ true → Carries form first second
    → (longitude ≡ no_longitude) ⊎ (latitude ≡ no_latitude)
    → resolution latitude longitude form first second ≡ refusal 10
unfolding resolution at_kind shifted
no_reference latitude longitude form first second a b c none =
    rw (widened (pos 1) form 6 c.six, a, b, c.first_allowed, c.second_allowed, is_offset form c.six) (by_none longitude latitude none _)

-- in form seven, where the coordinate has it
pub no_coordinate :
    (latitude longitude first second : ℤ) → inside latitudes latitude ≡ true → inside longitudes longitude ≡ true
    → inside longitudes first ≡ true → inside latitudes second ≡ true
    → (first ≡ no_longitude) ⊎ (second ≡ no_latitude)
    → resolution latitude longitude (pos 7) first second ≡ refusal 10
unfolding resolution at_kind standing
no_coordinate latitude longitude first second a b c d none = rw (seven_known, a, b, c, d) (by_none first second none _)

-- ---- 4 comes first, 9 last

-- the five checks of the arguments, in their order
abbrev pub arguments : ℤ → ℤ → ℤ → ℤ → ℤ → Bool
arguments latitude longitude form first second =
    inside forms form
    && (inside latitudes latitude
    && (inside longitudes longitude
    && (inside (allowed longitudes (kind_of form)) first && inside (allowed latitudes (kind_of form)) second)))

one_fails :
    (a b c d e : Bool) (rest : Resolved) → a && (b && (c && (d && e))) ≡ false
    → check a 4 (check b 4 (check c 4 (check d 4 (check e 4 rest)))) ≡ refusal 4
one_fails false b c d e rest h = refl
one_fails true false c d e rest h = refl
one_fails true true false d e rest h = refl
one_fails true true true false e rest h = refl
one_fails true true true true false rest h = refl
one_fails true true true true true rest h = absurd (subst T h tt)

-- an argument outside its range is 4, whatever the others are
pub outside_first :
    (latitude longitude form first second : ℤ) → arguments latitude longitude form first second ≡ false
    → resolution latitude longitude form first second ≡ refusal 4
unfolding resolution at_kind
outside_first latitude longitude form first second =
    one_fails
    (inside forms form)
    (inside latitudes latitude)
    (inside longitudes longitude)
    (inside (allowed longitudes (kind_of form)) first)
    (inside (allowed latitudes (kind_of form)) second)
    (meant (kind_of form) latitude longitude first second)

-- a latitude's sum that is no parallel is 9, where nothing else is refused
pub latitude_leaves :
    (latitude longitude form first second : ℤ) → inside parallels latitude ≡ true → inside meridians longitude ≡ true → Carries form first second
    → inside parallels (northward latitude second) ≡ false
    → resolution latitude longitude form first second ≡ refusal 9
latitude_leaves latitude longitude form first second a b c leaves = from_a_point latitude longitude form first second a b c ∙ rw leaves

-- ---- the coordinates of an answer, and of a refusal's zeros too, are a point

record Point (r : Resolved) : Type 0 where
  on_parallel : inside parallels r.latitude ≡ true
  on_meridian : inside meridians r.longitude ≡ true

zeros_are_a_point : (n : ℕ) → Point (refusal n)
unfolding inside
zeros_are_a_point n = record { on_parallel = refl; on_meridian = refl }

point_after : (t : Bool) (n : ℕ) (rest : Resolved) → (t ≡ true → Point rest) → Point (check t n rest)
point_after true n rest p = p refl
point_after false n rest p = zeros_are_a_point n

pub longitude_on_the_ring : (longitude east : ℤ) → inside meridians (eastward longitude east) ≡ true
longitude_on_the_ring longitude east = ring_inside (longitude +ℤ east)

point_asked :
    (latitude longitude : ℤ) (rest : Resolved) → (inside meridians longitude ≡ true → inside parallels latitude ≡ true → Point rest)
    → Point (at_point latitude longitude rest)
point_asked latitude longitude rest p =
    point_after (inside meridians longitude) 10 (check (inside parallels latitude) 10 rest) (λ m. point_after (inside parallels latitude) 10 rest (p m))

point_meant : (kind : Kind) (latitude longitude first second : ℤ) → Point (meant kind latitude longitude first second)
unfolding shifted standing
point_meant (offset w) latitude longitude first second =
    let north = northward latitude second in
    let east = eastward longitude first in
    point_asked latitude longitude (arrival north east)
    (λ m p. point_after (inside parallels north) 9 (success north east) (λ stays. record { on_parallel = stays; on_meridian = longitude_on_the_ring longitude first }))
point_meant coordinate latitude longitude first second = point_asked second first (success second first) (λ m p. record { on_parallel = p; on_meridian = m })

point_behind : (t : Bool) (n : ℕ) (rest : Resolved) → Point rest → Point (check t n rest)
point_behind t n rest p = point_after t n rest (λ h. p)

point_of : (latitude longitude form first second : ℤ) → Point (resolution latitude longitude form first second)
unfolding resolution at_kind
point_of latitude longitude form first second = search (point_behind, point_meant) depth 9

pub answer_is_a_point :
    (latitude longitude form first second : ℤ) →
    let r = resolution latitude longitude form first second in
    (inside parallels r.latitude ≡ true) × (inside meridians r.longitude ≡ true)
answer_is_a_point latitude longitude form first second = let p = point_of latitude longitude form first second in (p.on_parallel, p.on_meridian)

pub answer_is_never_special :
    (latitude longitude form first second : ℤ) →
    let r = resolution latitude longitude form first second in
    ¬ (r.latitude ≡ no_latitude) × ¬ (r.longitude ≡ no_longitude)
answer_is_never_special latitude longitude form first second =
    let p = answer_is_a_point latitude longitude form first second in
    (λ e. apart (sym (ap (inside parallels) e ∙ no_points.1) ∙ p.0), λ e. apart (sym (ap (inside meridians) e ∙ no_points.0) ∙ p.1))

-- ---- "A refusal gives zeros for both coordinates"

record Zeros (r : Resolved) : Type 0 where
  zeros : ¬ (r.number ≡ 0) → (r.latitude ≡ pos 0) × (r.longitude ≡ pos 0)

zeros_after : (t : Bool) (n : ℕ) (rest : Resolved) → Zeros rest → Zeros (check t n rest)
zeros_after true n rest z = z
zeros_after false n rest z = record { zeros = λ h. (refl, refl) }

zeros_at : (latitude longitude : ℤ) → Zeros (success latitude longitude)
zeros_at latitude longitude = record { zeros = λ h. absurd (h refl) }

zeros_meant : (kind : Kind) (latitude longitude first second : ℤ) → Zeros (meant kind latitude longitude first second)
unfolding shifted standing
zeros_meant (offset w) latitude longitude first second = search (zeros_after, zeros_at) depth 5
zeros_meant coordinate latitude longitude first second = search (zeros_after, zeros_at) depth 5

zeros_of : (latitude longitude form first second : ℤ) → Zeros (resolution latitude longitude form first second)
unfolding resolution at_kind
zeros_of latitude longitude form first second = search (zeros_after, zeros_meant) depth 9

pub refusal_has_zeros :
    (latitude longitude form first second : ℤ) →
    let r = resolution latitude longitude form first second in
    ¬ (r.number ≡ 0) → (r.latitude ≡ pos 0) × (r.longitude ≡ pos 0)
refusal_has_zeros latitude longitude form first second = (zeros_of latitude longitude form first second).zeros
