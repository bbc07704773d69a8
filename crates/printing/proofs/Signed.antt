-- Numbers that may be below 0, as the code takes them apart: the sign, and how far the number is from 0.
-- Assumes nothing.
use Prim.Native.Nat.{ℕ, ◌<◌, ◌^◌}
use mathlib.Core.Bool.{true, false}
use mathlib.Core.List.{[], ◌∷◌, ◌++◌}
use mathlib.Core.Path.{◌≡◌, refl, sym, ap, subst, ◌∙◌}
use native.Mathlib.Omega.{arith}
use borrow.Author.Tests.{ltb-true}
use lib.Signed.{mag, lt_z}
use lib.IntN.{ℤ, pos, negsuc, nat_abs}
use mir.Val.{SFits, to_z, of_z}
use mir.Facts.{to_z-of_z}
use mir.Syntax.{w64}
use Rattle.printing.specs.Characters.{minus_sign}
use Rattle.printing.specs.Digits.{decimal, signed}

-- a signed number as the machine reads it back from its bits
abbrev pub read : ℤ → ℤ
read z = to_z w64 (of_z w64 z)

pub read_small : (n : ℕ) → n < 2 ^ 63 → read (pos n) ≡ pos n
read_small n h = to_z-of_z {w = w64} {z = pos n} (record { sfits = omega arith })

-- ---- the sign

pub negative : (z : ℤ) → SFits w64 z → lt_z (read z) (pos 0) ≡ true → z ≡ negsuc (mag z)
negative (pos n) f e = absurd (let h : n < 0 = ltb-true n 0 (ap (λ (y : ℤ). lt_z y (pos 0)) (sym (to_z-of_z f)) ∙ e) in omega arith)
negative (negsuc n) f e = refl

pub not_negative : (z : ℤ) → SFits w64 z → lt_z (read z) (pos 0) ≡ false → z ≡ pos (mag z)
not_negative (pos n) f e = refl
not_negative (negsuc n) f e = absurd (let both : true ≡ false = ap (λ (y : ℤ). lt_z y (pos 0)) (sym (to_z-of_z f)) ∙ e in let z : ◌≡◌ {A = ℕ} 0 1 = cc in omega arith)

-- ---- the text

module _ (z : ℤ) (f : SFits w64 z) (e : lt_z (read z) (pos 0) ≡ true) where
  pub signed_below : (minus_sign ∷ []) ++ decimal (nat_abs z) ≡ signed z
  unfolding signed
  signed_below = subst (λ (y : ℤ). (minus_sign ∷ []) ++ decimal (nat_abs y) ≡ signed y) (sym (negative z f e)) refl

module _ (z : ℤ) (f : SFits w64 z) (e : lt_z (read z) (pos 0) ≡ false) where
  pub signed_above : decimal (nat_abs z) ≡ signed z
  unfolding signed
  signed_above = subst (λ (y : ℤ). decimal (nat_abs y) ≡ signed y) (sym (not_negative z f e)) refl
