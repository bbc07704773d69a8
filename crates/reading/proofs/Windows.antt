-- Two, four and eight bytes as one number, of two parts that stand behind each other.
-- Assumes nothing.
use Prim.Native.Nat.{ℕ, ◌+◌, ◌-◌, ◌*◌, ◌<◌, ◌≤◌, ◌^◌}
use mathlib.Core.Path.{◌≡◌, refl, sym, ap, ap₂, ◌∙◌}
use mathlib.Core.List.{List}
use native.Mathlib.Omega.{arith}
use lib.ListN.{length, take, drop, get_or, length-drop}
use lib.Seq.{take-add, drop-drop, length-take-le}
use Rattle.bits.specs.Numbers.{val}
use Rattle.bits.specs.Bytes.{bits_of}
use Rattle.bits.specs.Fetching.{code}
use Rattle.bits.proofs.Numbers.{val_append}
use Rattle.bits.proofs.Bytes.{bits_of_length, code_none, code_byte}

module _ (bytes : List ℕ) where
  -- a code of w bits, and v bits behind them
  joined : (at w v : ℕ) → at + w + v ≤ 8 * length bytes → code (bits_of bytes) at w * 2 ^ v + code (bits_of bytes) (at + w) v ≡ code (bits_of bytes) at (w + v)
  joined at w v h =
      let bs = bits_of bytes in
      let l : length (take v (drop w (drop at bs))) ≡ v = length-take-le v (drop w (drop at bs)) (omega (arith, length-drop w (drop at bs), length-drop at bs, bits_of_length bytes)) in
      sym
      (ap val (take-add w v (drop at bs))
      ∙ val_append (take w (drop at bs)) (take v (drop w (drop at bs)))
      ∙ ap₂ (λ (j k : ℕ). code bs at w * 2 ^ j + k) l (ap (λ (x : List ℕ). val (take v x)) (drop-drop w at bs)))

  -- a byte
  one_byte : (i : ℕ) → i < length bytes → get_or bytes i 0 < 256 → get_or bytes i 0 ≡ code (bits_of bytes) (8 * i) 8
  one_byte i h byte =
      let none : 8 * i - 8 * i ≡ 0 = omega arith in
      let all : 8 * (i + 1) - 8 * i ≡ 8 = omega arith in
      let z : code (bits_of bytes) (8 * i) (8 * i - 8 * i) ≡ 0 = ap (code (bits_of bytes) (8 * i)) none ∙ sym (code_none (bits_of bytes) (8 * i)) in
      let e : code (bits_of bytes) (8 * i) (8 * i - 8 * i) * 256 + get_or bytes i 0 ≡ code (bits_of bytes) (8 * i) (8 * (i + 1) - 8 * i) = code_byte bytes i i (omega arith) h byte in
      (omega arith) ∙ e ∙ ap (code (bits_of bytes) (8 * i)) all

  module _ (i : ℕ) where
    -- two parts of v bits, the low one first
    both : {high low : ℕ} (k v : ℕ) → v ≡ 8 * k → i + k + k ≤ length bytes → high ≡ code (bits_of bytes) (8 * i) v → low ≡ code (bits_of bytes) (8 * (i + k)) v → low + high * 2 ^ v ≡ code (bits_of bytes) (8 * i) (v + v)
    both {high} {low} k v ev h eh el =
        let place : 8 * (i + k) ≡ 8 * i + v = omega arith in
        let l : low ≡ code (bits_of bytes) (8 * i + v) v = el ∙ ap (λ (j : ℕ). code (bits_of bytes) j v) place in
        let s : code (bits_of bytes) (8 * i) v * 2 ^ v + code (bits_of bytes) (8 * i + v) v ≡ code (bits_of bytes) (8 * i) (v + v) = joined (8 * i) v v (omega arith) in
        let t : high * 2 ^ v ≡ code (bits_of bytes) (8 * i) v * 2 ^ v = ap (λ (x : ℕ). x * 2 ^ v) eh in
        (omega arith) ∙ s

    pub two_bytes : {high low : ℕ} → i + 2 ≤ length bytes → (high ≡ get_or bytes i 0) × (high < 256) → (low ≡ get_or bytes (i + 1) 0) × (low < 256) → (low + high * 256 ≡ code (bits_of bytes) (8 * i) 16) × (low + high * 256 < 2 ^ 16)
    two_bytes h eh el = (both 1 8 refl (omega arith) (eh.0 ∙ one_byte i (omega arith) (omega arith)) (el.0 ∙ one_byte (i + 1) (omega arith) (omega arith)), omega arith)

    pub four_bytes : {high low : ℕ} → i + 4 ≤ length bytes → (high ≡ code (bits_of bytes) (8 * i) 16) × (high < 2 ^ 16) → (low ≡ code (bits_of bytes) (8 * (i + 2)) 16) × (low < 2 ^ 16) → (low + high * 65536 ≡ code (bits_of bytes) (8 * i) 32) × (low + high * 65536 < 2 ^ 32)
    four_bytes h eh el = (both 2 16 refl (omega arith) eh.0 el.0, omega arith)

    pub eight_bytes : {high low : ℕ} → i + 8 ≤ length bytes → high ≡ code (bits_of bytes) (8 * i) 32 → low ≡ code (bits_of bytes) (8 * (i + 4)) 32 → low + high * 4294967296 ≡ code (bits_of bytes) (8 * i) 64
    eight_bytes h eh el = both 4 32 refl (omega arith) eh el
