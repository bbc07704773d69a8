-- Laws of rings: going on from a place, by steps either way. Assumes nothing.
use Prim.Native.Nat.{ℕ, suc, ◌+◌, ◌-◌, ◌*◌, ◌/◌, ◌%◌, ◌<◌, ◌≤◌}
use native.Mathlib.Omega.{arith}
use native.Mathlib.Decide.{dec_lt}
use native.Mathlib.Nat.{mod-add-mod, add-mul-mod_self_right, add-mul, suc-mul, mul-suc, mod-lt, div-add-mod', div-le_self}
use mathlib.Core.Path.{◌≡◌, sym, ap, ◌∙◌}
use lib.Arith.{digits_mod}
use lib.IntN.{ℤ, pos, negsuc, sub_ℕ, ◌+ℤ◌}
use borrow.Author.Tests.{lt-ltb, le-ltb}
use Rattle.basics.specs.Rings.{around}

-- a ring of m + 1 places
module _ (m : ℕ) where
  abbrev places : ℕ
  places = suc m

  -- a + 1 steps down are a + 1 times m steps up
  below : (a : ℕ) → around places (negsuc a) ≡ (suc a * m) % places
  below a =
      let k = a / places in
      let r = a % places in
      let few : k ≤ a = div-le_self a places in
      let small : r < places = mod-lt a (omega arith) in
      let turns : (a - k) * places + k * places ≡ a * places = sym (add-mul (a - k) k places) ∙ ap (λ (n : ℕ). n * places) (omega arith) in
      let up : suc a * m ≡ (a - k) * places + (m - r) = by_sums (suc a * m) (a * places) ((a - k) * places) (k * places) r (sym (mul-suc (suc a) m) ∙ suc-mul a places) (div-add-mod' a places) turns small in
      let e : places - 1 - r ≡ m - r = omega arith in
      e ∙ sym (ap (λ (n : ℕ). n % places) up ∙ digits_mod (a - k) (omega arith))
    where
      by_sums : (x turns rest gone r : ℕ) → x + suc a ≡ turns + suc m → gone + r ≡ a → rest + gone ≡ turns → r < suc m → x ≡ rest + (m - r)
      by_sums x turns rest gone r d e f h = omega arith

  -- a difference, as a remainder of a sum
  pub around_difference : (p q : ℕ) → around places (sub_ℕ p q) ≡ (p + q * m) % places
  around_difference p q = elim (dec_lt p q) [
    | yes l ↦
        let d = q - suc p in
        let e : suc d + p ≡ q = omega arith in
        let up : p + q * m ≡ suc d * m + p * places = by_sums (q * m) (suc d * m) (p * m) (p * places) (ap (λ (n : ℕ). n * m) (sym e) ∙ add-mul (suc d) p m) (mul-suc p m) in
        rw (lt-ltb p q l) (below d ∙ sym (ap (λ (n : ℕ). n % places) up ∙ add-mul-mod_self_right (suc d * m) p places))
    | no l ↦
        let d = p - q in
        let up : p + q * m ≡ d + q * places = beyond (q * m) (q * places) (mul-suc q m) (omega arith) in
        rw (le-ltb p q (omega arith)) (sym (ap (λ (n : ℕ). n % places) up ∙ add-mul-mod_self_right d q places))
  ]
    where
      by_sums : (x y z t : ℕ) → x ≡ y + z → t ≡ z + p → p + x ≡ y + t
      by_sums x y z t d e = omega arith

      beyond : (x t : ℕ) → t ≡ x + q → q ≤ p → p + x ≡ p - q + t
      beyond x t e h = omega arith

  -- going on from a place of the ring is going on from any number that is taken there
  pub around_adds : (v b : ℤ) → around places (pos (around places v) +ℤ b) ≡ around places (v +ℤ b)
  around_adds (pos a) (pos c) = mod-add-mod a places c
  around_adds (pos a) (negsuc c) = rw (around_difference (a % places) (suc c), around_difference a (suc c)) (mod-add-mod a places (suc c * m))
  around_adds (negsuc a) (pos c) =
      rw (around_difference c (suc a))
      (ap (λ (n : ℕ). (n + c) % places) (below a) ∙ mod-add-mod (suc a * m) places c ∙ ap (λ (n : ℕ). n % places) (swapped (suc a * m) c))
    where
      swapped : (x y : ℕ) → x + y ≡ y + x
      swapped x y = omega arith
  around_adds (negsuc a) (negsuc c) =
      around_difference (around places (negsuc a)) (suc c)
      ∙ ap (λ (n : ℕ). (n + suc c * m) % places) (below a)
      ∙ mod-add-mod (suc a * m) places (suc c * m)
      ∙ ap (λ (n : ℕ). n % places) (sym (add-mul (suc a) (suc c) m) ∙ ap (λ (n : ℕ). n * m) (omega arith))
      ∙ sym (below (suc (a + c)))
