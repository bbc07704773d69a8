-- Offsets add up: shifts of a point one behind the other (document 02, A8). They are said of `eastward` and `northward`, by which the resolver's
-- promise moves a point, for all whole numbers as offsets; so they hold for those within 16,777,216 that the request names. Assumes nothing.
use Prim.Native.Nat.{ℕ, ◌-◌}
use mathlib.Core.Path.{◌≡◌, sym, ap, ◌∙◌}
use mathlib.Core.Bool.{true}
use lib.IntN.{ℤ, pos, neg_ℤ, ◌+ℤ◌, ◌-ℤ◌, +ℤ_assoc, +ℤ_comm, +ℤ_invr, +ℤ_idr, +ℤ-neg_ℤ_cancel}
use Rattle.basics.specs.Rings.{around}
use Rattle.basics.proofs.Rings.{around_adds}
use Rattle.position.specs.Ranges.{inside, meridians, parallels, ring_places}
use Rattle.position.specs.Resolution.{on_ring, eastward, northward}
use Rattle.position.proofs.Meridians.{on_ring_lem, ring_inside}

-- ---- sums of whole numbers in another order

last_two : (x y z : ℤ) → x +ℤ y +ℤ z ≡ x +ℤ z +ℤ y
last_two x y z = +ℤ_assoc x y z ∙ ap (λ (t : ℤ). x +ℤ t) (+ℤ_comm y z) ∙ sym (+ℤ_assoc x z y)

taken_away : (l x b : ℤ) → l +ℤ x +ℤ b -ℤ l ≡ x +ℤ b
taken_away l x b = ap (λ (t : ℤ). t +ℤ b -ℤ l) (+ℤ_comm l x) ∙ ap (λ (t : ℤ). t -ℤ l) (last_two x l b) ∙ +ℤ-neg_ℤ_cancel (x +ℤ b) l

there_and_back : (x a : ℤ) → x +ℤ (a +ℤ neg_ℤ a) ≡ x
there_and_back x a = ap (λ (t : ℤ). x +ℤ t) (+ℤ_invr a) ∙ +ℤ_idr x

-- two shifts are one
adds : (longitude a b : ℤ) → eastward (eastward longitude a) b ≡ eastward longitude (a +ℤ b)
adds longitude a b =
    let lowest = meridians.lowest in
    let away = longitude +ℤ a -ℤ lowest in
    ap (λ (n : ℕ). lowest +ℤ pos n)
    (ap (around ring_places) (taken_away lowest (pos (around ring_places away)) b)
    ∙ around_adds (ring_places - 1) away b
    ∙ ap (around ring_places) (last_two (longitude +ℤ a) (neg_ℤ lowest) b ∙ ap (λ (t : ℤ). t -ℤ lowest) (+ℤ_assoc longitude a b)))

-- ---- longitude: no step is refused, and each ends at a point, from where there is a next one

-- the longitude of a point
abbrev pub OnRing : ℤ → Type 0
OnRing longitude = inside meridians longitude ≡ true

module _ (longitude : ℤ) (point : OnRing longitude) (a : ℤ) where
  pub east_adds : (b : ℤ) → OnRing (eastward longitude a) × (eastward (eastward longitude a) b ≡ eastward longitude (a +ℤ b))
  east_adds b = (ring_inside (longitude +ℤ a), adds longitude a b)

  pub east_in_either_order :
      (b : ℤ) → OnRing (eastward longitude a) × OnRing (eastward longitude b) × (eastward (eastward longitude a) b ≡ eastward (eastward longitude b) a)
  east_in_either_order b =
      (ring_inside (longitude +ℤ a), ring_inside (longitude +ℤ b), adds longitude a b ∙ ap (eastward longitude) (+ℤ_comm a b) ∙ sym (adds longitude b a))

  pub east_and_back : OnRing (eastward longitude a) × (eastward (eastward longitude a) (neg_ℤ a) ≡ longitude)
  east_and_back = (ring_inside (longitude +ℤ a), adds longitude a (neg_ℤ a) ∙ ap on_ring (there_and_back longitude a) ∙ on_ring_lem longitude point)

-- ---- latitude: a step may be refused, and each statement names the steps that must not be

-- a step that is not refused
abbrev pub Stays : ℤ → ℤ → Type 0
Stays latitude north = inside parallels (northward latitude north) ≡ true

module _ (latitude : ℤ) (point : inside parallels latitude ≡ true) (a : ℤ) where
  -- not refused: a, and then b. The sum is not refused either
  pub north_adds :
      (b : ℤ) → Stays latitude a → Stays (northward latitude a) b
      → Stays latitude (a +ℤ b) × (northward (northward latitude a) b ≡ northward latitude (a +ℤ b))
  north_adds b first second = let e = +ℤ_assoc latitude a b in (rw e at second, e)

  -- not refused: a, and then b; and b as the first step. Behind it a is not refused either
  pub north_in_either_order :
      (b : ℤ) → Stays latitude a → Stays (northward latitude a) b → Stays latitude b
      → Stays (northward latitude b) a × (northward (northward latitude a) b ≡ northward (northward latitude b) a)
  north_in_either_order b first second other = let e = last_two latitude a b in (rw e at second, e)

  -- not refused: a. The way back is not refused either
  pub north_and_back : Stays latitude a → Stays (northward latitude a) (neg_ℤ a) × (northward (northward latitude a) (neg_ℤ a) ≡ latitude)
  north_and_back first = let e = +ℤ_assoc latitude a (neg_ℤ a) ∙ there_and_back latitude a in (rw e point, e)
