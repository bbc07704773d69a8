-- `position::Meridian::eastward` meets its contract: the machine's sum cannot wrap, and its remainder is the place on the ring. Assumes nothing.
use mathlib.Core.Path.{◌≡◌, ◌∙◌}
use native.Mathlib.Omega.{arith}
use lib.IntN.{◌+ℤ◌, ◌-ℤ◌}
use Rattle.std.proofs.lemmas.Int.{ints}
use Rattle.position.specs.Ranges.{meridians, ring_places}
use Rattle.position.specs.Resolution.{eastward}
use Rattle.position.proofs.Ranges.{read, between, from_orders}
use Rattle.position.proofs.Meridians.{remainder_around, ring_inside}
use Rattle.position.proofs.Meridian.eastward.Goals.{After-rem_euclid-place}
use Rattle.position.proofs.Meridian.eastward.Goals as goal

pub overflow_add-self : goal.overflow_add-self
overflow_add-self c =
    let a = between _ _ c.args.self.in_range in
    let b = between _ _ c.args.by.in_range in
    omega (arith, ints)

pub overflow_sub-self : goal.overflow_sub-self
overflow_sub-self c =
    let a = between _ _ c.args.self.in_range in
    let b = between _ _ c.args.by.in_range in
    omega (arith, ints)

-- the remainder is the place on the ring, counted from the lowest meridian
landed : (c : After-rem_euclid-place) → read (meridians.lowest +ℤ read c.rem_euclid-place.result) ≡ eastward c.args.self.value c.args.by.value
landed c =
    let self = c.args.self.value in
    let by = c.args.by.value in
    let a = between _ self c.args.self.in_range in
    let b = between _ by c.args.by.in_range in
    let sum : read (read (read self +ℤ read by) -ℤ meridians.lowest) ≡ self +ℤ by -ℤ meridians.lowest = omega (arith, ints) in
    let place = c.rem_euclid-place.ensures in
    let is = (rw sum at place.value) ∙ remainder_around ring_places (self +ℤ by -ℤ meridians.lowest) in
    omega (arith, ints)

pub invariant_of-result : goal.invariant_of-result
invariant_of-result c =
    let on = between meridians _ (ring_inside (c.args.self.value +ℤ c.args.by.value)) in
    record { in_range = rw (landed c) (from_orders _ _ (omega (arith, ints)) (omega (arith, ints))) }

pub returns : goal.returns
returns c = landed (goal.at.returns c).After-rem_euclid-place
