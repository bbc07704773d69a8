-- Offsets add up for the resolver too (document 02, A8): what it answers from a place that it answered itself, by forms one to six. A place that
-- it answers is a point, so "no information" is never shifted here. Assumes nothing.
use Prim.Native.Nat.{ℕ, zero, suc}
use native.Mathlib.Omega.{arith}
use native.Mathlib.Decide.{dec_lt}
use mathlib.Core.Path.{◌≡◌, refl, sym, ap, ap₂, ◌∙◌}
use mathlib.Core.Bool.{Bool, true, false, ◌&&◌}
use borrow.Author.Tests.{leb-true, le-leb}
use lib.IntN.{ℤ, pos, negsuc, neg_ℤ, ◌+ℤ◌, +ℤ_comm, +ℤ_assoc}
use Rattle.position.specs.Ranges.{spans, inside, offsets}
use Rattle.position.specs.Checked.{Resolved, success}
use Rattle.position.specs.Resolution.{eastward, northward, arrival, shifted, resolution}
use Rattle.position.proofs.Ranges.{ends}
use Rattle.position.proofs.Theorems.{offset_forms, Carries, Shifts, from_a_point, shifts_when, shifts_only_when, longitude_on_the_ring}
use Rattle.position.proofs.Adding.{east_adds, east_and_back, north_and_back}

module _ (latitude longitude form first second : ℤ) (six : inside offset_forms form ≡ true) (accepted : (resolution latitude longitude form first second).number ≡ 0) where
  shifts : Shifts latitude longitude form first second
  shifts = shifts_only_when latitude longitude form first second six accepted

  there : resolution latitude longitude form first second ≡ success (northward latitude second) (eastward longitude first)
  there = shifts_when latitude longitude form first second shifts

  -- from there by any form: the arrival of the second step, which starts at the first one's
  onward : (form' first' second' : ℤ) → Carries form' first' second'
      → let r = resolution latitude longitude form first second in
      resolution r.latitude r.longitude form' first' second'
      ≡ arrival (northward (northward latitude second) second') (eastward (eastward longitude first) first')
  onward form' first' second' c =
      ap (λ (r : Resolved). resolution r.latitude r.longitude form' first' second') there
      ∙ from_a_point (northward latitude second) (eastward longitude first) form' first' second' shifts.latitude_stays (longitude_on_the_ring longitude first) c

  -- it answers as one shift by the sum, which may leave its range: the whole answer, and so its refusal too
  pub resolved_twice :
      (form' first' second' : ℤ) → Carries form' first' second'
      → let r = resolution latitude longitude form first second in
      resolution r.latitude r.longitude form' first' second' ≡ shifted latitude longitude (second +ℤ second') (first +ℤ first')
  unfolding shifted
  resolved_twice form' first' second' c =
      onward form' first' second' c
      ∙ ap₂ arrival (+ℤ_assoc latitude second second') (east_adds longitude shifts.longitude_point first first').1
      ∙ rw (shifts.longitude_point, shifts.latitude_point) refl

  -- the way back, where a form carries it, gives the reference
  pub resolved_and_back :
      (form' : ℤ) → Carries form' (neg_ℤ first) (neg_ℤ second)
      → let r = resolution latitude longitude form first second in
      resolution r.latitude r.longitude form' (neg_ℤ first) (neg_ℤ second) ≡ success latitude longitude
  resolved_and_back form' c =
      onward form' (neg_ℤ first) (neg_ℤ second) c
      ∙ ap₂ arrival (north_and_back latitude shifts.latitude_point second shifts.latitude_stays).1 (east_and_back longitude shifts.longitude_point first).1
      ∙ rw shifts.latitude_point refl

-- in either order, where neither first step is refused
pub resolved_in_either_order :
    (latitude longitude form first second form' first' second' : ℤ) → inside offset_forms form ≡ true → inside offset_forms form' ≡ true →
    let r = resolution latitude longitude form first second in
    let r' = resolution latitude longitude form' first' second' in
    r.number ≡ 0 → r'.number ≡ 0
    → resolution r.latitude r.longitude form' first' second' ≡ resolution r'.latitude r'.longitude form first second
resolved_in_either_order latitude longitude form first second form' first' second' six six' e e' =
    resolved_twice latitude longitude form first second six e form' first' second' (shifts latitude longitude form' first' second' six' e').carried
    ∙ ap₂ (shifted latitude longitude) (+ℤ_comm second second') (+ℤ_comm first first')
    ∙ sym (resolved_twice latitude longitude form' first' second' six' e' form first second (shifts latitude longitude form first second six e).carried)

-- ---- the way back, by the form that led there

-- of the offsets of so many bits each has its opposite among them, but for the lowest
pub record Opposites (w : ℕ) : Type 0 where
  pub have_one : (z : ℤ) → inside (offsets w) z ≡ true → ¬ (z ≡ (offsets w).lowest) → inside (offsets w) (neg_ℤ z) ≡ true
  pub lowest_has_none : inside (offsets w) (neg_ℤ (offsets w).lowest) ≡ false

turned : (k : ℕ) (z : ℤ) → inside (spans (suc k) k) z ≡ true → ¬ (z ≡ negsuc k) → inside (spans (suc k) k) (neg_ℤ z) ≡ true
unfolding inside
turned k (pos zero) h n = le-leb 0 k (omega arith)
turned k (pos (suc a)) h n = let l = leb-true (suc a) k (ends (spans (suc k) k) (pos (suc a)) h).1 in ap (λ (b : Bool). b && true) (le-leb a k (omega arith))
turned k (negsuc a) h n =
    let l = leb-true a k (ends (spans (suc k) k) (negsuc a) h).0 in
    elim (dec_lt a k) [
      | yes m ↦ le-leb (suc a) k (omega arith)
      | no m ↦ absurd (n (ap negsuc (omega arith)))
    ]

pub opposites : Opposites 12 × Opposites 14 × Opposites 16 × Opposites 18 × Opposites 22 × Opposites 24
unfolding inside
opposites = (
  record { have_one = turned 2047; lowest_has_none = refl },
  record { have_one = turned 8191; lowest_has_none = refl },
  record { have_one = turned 32767; lowest_has_none = refl },
  record { have_one = turned 131071; lowest_has_none = refl },
  record { have_one = turned 2097151; lowest_has_none = refl },
  record { have_one = turned 8388607; lowest_has_none = refl },
)
