-- A value above its lowest, which the table keeps as its distance from the lowest 32-bit number.
-- Assumes nothing.
use Prim.Native.Nat.{ℕ, suc, ◌+◌, ◌-◌, ◌<◌, ◌^◌}
use mathlib.Core.Bool.{Bool, true, false, cond}
use mathlib.Core.Path.{◌≡◌, sym, ap, ◌∙◌}
use native.Mathlib.Omega.{arith}
use lib.Dec.{ltb}
use lib.Signed.{mag}
use lib.IntN.{ℤ, pos, negsuc, neg_ℤ, ◌+ℤ◌, ◌-ℤ◌, +ℤ_assoc, +ℤ_comm}
use Rattle.types.specs.Table.{bias, lowest_of}

pub value_fits : (m : ℕ) → m < 2 ^ 34 → mag (pos m -ℤ pos bias) < 2 ^ 63
value_fits m h = go (ltb m bias)
  where
    go : (b : Bool) → mag (cond b (negsuc (bias - suc m)) (pos (m - bias))) < 2 ^ 63
    go true = omega arith
    go false = omega arith

pub value_is : (low n : ℕ) → pos (low + n) -ℤ pos bias ≡ lowest_of low +ℤ pos n
value_is low n = +ℤ_assoc (pos low) (pos n) (neg_ℤ (pos bias)) ∙ ap (λ (z : ℤ). pos low +ℤ z) (+ℤ_comm (pos n) (neg_ℤ (pos bias))) ∙ sym (+ℤ_assoc (pos low) (neg_ℤ (pos bias)) (pos n))
