-- A cell against a range, and a cell's value: signed numbers as the code takes them apart.
-- Assumes nothing.
use Prim.Native.Nat.{ℕ, zero, suc, ◌+◌, ◌-◌, ◌<◌, ◌≤◌, ◌^◌}
use native.Mathlib.Decide.{dec_lt}
use native.Mathlib.Omega.{arith}
use mathlib.Core.Path.{◌≡◌, refl, sym, ap, ap₂, subst, ◌∙◌}
use mathlib.Core.Bool.{true, false}
use borrow.Author.Tests.{ltb-true, ltb-false, lt-ltb, le-ltb, le-leb, lt-leb}
use lib.Dec.{T, ltb}
use lib.IntN.{ℤ, pos, negsuc, nat_abs, sub_ℕ, ◌+ℤ◌, ◌-ℤ◌, -ℤ-+ℤ_cancel, +ℤ_comm}
use lib.Signed.{mag, lt_z, non_neg}
use mir.Facts.{to_z-of_z}
use mir.Syntax.{w64}
use mir.Val.{SFits, to_z, of_z}
use mir.ValLaws.{to_z_pos}
use Rattle.basics.specs.Lists.{natural}
use Rattle.types.specs.Table.{bias, lowest_of}
use Rattle.passing.specs.Ended.{in_range}

-- ---- differences of naturals

sub_pos : (a b : ℕ) → b ≤ a → sub_ℕ a b ≡ pos (a - b)
sub_pos a b h = rw (le-ltb a b h)

sub_neg : (a b : ℕ) → a < b → sub_ℕ a b ≡ negsuc (b - suc a)
sub_neg a b h = rw (lt-ltb a b h)

-- ---- a difference by the order

lower : (z y : ℤ) → lt_z z y ≡ true → (m : ℕ) × (z -ℤ y ≡ negsuc m)
lower (pos a) (pos zero) e = let h = ltb-true a 0 e in absurd (omega arith)
lower (pos a) (pos (suc b)) e = (suc b - suc a, sub_neg a (suc b) (ltb-true a (suc b) e))
lower (pos a) (negsuc b) e = absurd (subst T (sym e) tt)
lower (negsuc a) (pos zero) e = (suc a - suc 0, sub_neg 0 (suc a) (omega arith))
lower (negsuc a) (pos (suc b)) e = (suc (a + b), refl)
lower (negsuc a) (negsuc b) e = let h = ltb-true b a e in (suc a - suc (suc b), sub_neg (suc b) (suc a) (omega arith))

not_lower : (z y : ℤ) → lt_z z y ≡ false → (m : ℕ) × (z -ℤ y ≡ pos m)
not_lower (pos a) (pos zero) e = (a + 0, refl)
not_lower (pos a) (pos (suc b)) e = (a - suc b, sub_pos a (suc b) (ltb-false a (suc b) e))
not_lower (pos a) (negsuc b) e = (a + suc b, refl)
not_lower (negsuc a) (pos b) e = absurd (subst T e tt)
not_lower (negsuc a) (negsuc b) e = let h = ltb-false b a e in (suc b - suc a, sub_pos (suc b) (suc a) (omega arith))

-- ---- the order of two numbers that are so far above a third

same_test : (a b p q : ℕ) → (a < b → p < q) → (b ≤ a → q ≤ p) → ltb p q ≡ ltb a b
same_test a b p q f g = elim (dec_lt a b) [
  | yes l ↦ lt-ltb p q (f l) ∙ sym (lt-ltb a b l)
  | no n ↦ (let l : b ≤ a = omega arith in le-ltb p q (g l) ∙ sym (le-ltb a b l))
]

so_far : (y : ℤ) (a b : ℕ) → lt_z (y +ℤ pos a) (y +ℤ pos b) ≡ ltb a b
so_far (pos n) a b = same_test a b (n + a) (n + b) (λ l. omega arith) (λ l. omega arith)
so_far (negsuc n) a b = elim (dec_lt a (suc n)) [
  | yes l ↦ elim (dec_lt b (suc n)) [
    | yes m ↦ rw (sub_neg a (suc n) l, sub_neg b (suc n) m) (same_test a b (suc n - suc b) (suc n - suc a) (λ h. omega arith) (λ h. omega arith))
    | no m ↦ rw (sub_neg a (suc n) l, sub_pos b (suc n) (omega arith)) (sym (lt-ltb a b (omega arith)))
  ]
  | no l ↦ elim (dec_lt b (suc n)) [
    | yes m ↦ rw (sub_pos a (suc n) (omega arith), sub_neg b (suc n) m) (sym (le-ltb a b (omega arith)))
    | no m ↦ rw (sub_pos a (suc n) (omega arith), sub_pos b (suc n) (omega arith)) (same_test a b (a - suc n) (b - suc n) (λ h. omega arith) (λ h. omega arith))
  ]
]

-- ---- a cell against the range whose lowest value is y

pub range_below : (span : ℕ) (z y : ℤ) → lt_z z y ≡ true → false ≡ in_range span (z -ℤ y)
range_below span z y e = rw (lower z y e).1 refl

module _ (span : ℕ) (z y : ℤ) (e : lt_z z y ≡ false) where
  abbrev up : ℕ
  up = (not_lower z y e).0

  is_up : z -ℤ y ≡ pos up
  is_up = (not_lower z y e).1

  again : z ≡ y +ℤ pos up
  again = sym (-ℤ-+ℤ_cancel z y) ∙ ap (λ (v : ℤ). v +ℤ y) is_up ∙ +ℤ_comm (pos up) y

  judged : lt_z (y +ℤ pos span) z ≡ ltb span up
  judged = ap (lt_z (y +ℤ pos span)) again ∙ so_far y span up

  pub range_beyond : lt_z (y +ℤ pos span) z ≡ true → false ≡ in_range span (z -ℤ y)
  range_beyond t = rw (is_up, lt-leb up span (ltb-true span up (sym judged ∙ t))) refl

  pub range_within : lt_z (y +ℤ pos span) z ≡ false → true ≡ in_range span (z -ℤ y)
  range_within t = rw (is_up, le-leb up span (ltb-false span up (sym judged ∙ t))) refl

-- ---- the lowest value, as the code computes it

sub_small : (a b : ℕ) → mag (sub_ℕ a b) ≤ a + b
sub_small a b = elim (dec_lt a b) [
  | yes l ↦ rw (sub_neg a b l) (omega arith)
  | no n ↦ rw (sub_pos a b (omega arith)) (omega arith)
]

further : (y : ℤ) (n : ℕ) → mag (y +ℤ pos n) ≤ mag y + n + 1
further (pos a) n = omega arith
further (negsuc a) n = omega (arith, sub_small n (suc a))

module _ {low : ℕ} (small : low < 2 ^ 32) where
  pub lowest_fits : SFits w64 (to_z w64 low -ℤ pos bias)
  lowest_fits = rw (to_z_pos w64 low (omega arith)) (record { sfits = omega (arith, sub_small low bias) })

  pub lowest_read : to_z w64 (of_z w64 (to_z w64 low -ℤ pos bias)) ≡ lowest_of low
  lowest_read = to_z-of_z lowest_fits ∙ ap (λ (v : ℤ). v -ℤ pos bias) (to_z_pos w64 low (omega arith))

  module _ {span : ℕ} (narrow : span < 2 ^ 32) where
    sum_same : to_z w64 (of_z w64 (to_z w64 low -ℤ pos bias)) +ℤ to_z w64 span ≡ lowest_of low +ℤ pos span
    sum_same = ap₂ ◌+ℤ◌ lowest_read (to_z_pos w64 span (omega arith))

    pub highest_fits : SFits w64 (to_z w64 (of_z w64 (to_z w64 low -ℤ pos bias)) +ℤ to_z w64 span)
    highest_fits = rw sum_same (record { sfits = omega (arith, sub_small low bias, further (lowest_of low) span) })

    pub highest_read : to_z w64 (of_z w64 (to_z w64 (of_z w64 (to_z w64 low -ℤ pos bias)) +ℤ to_z w64 span)) ≡ lowest_of low +ℤ pos span
    highest_read = to_z-of_z highest_fits ∙ sum_same

-- ---- a cell's value

pub not_negative : (z : ℤ) → lt_z z (pos 0) ≡ false → mag z < 2 ^ 63 → T (non_neg z) × (nat_abs z ≡ natural z) × (nat_abs z < 2 ^ 64)
not_negative (pos n) e h = (tt, refl, omega arith)
not_negative (negsuc n) e h = absurd (subst T e tt)

pub negative : (z : ℤ) → lt_z z (pos 0) ≡ true → 0 ≡ natural z
negative (pos n) e = let h = ltb-true n 0 e in absurd (omega arith)
negative (negsuc n) e = refl
