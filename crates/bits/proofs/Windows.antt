-- A window of eight bytes, as one number: it has the code of every field that begins in its first byte and is at most 57 bits wide.
-- Assumes nothing.
use mathlib.Core.Path.{◌≡◌, sym, ap, ap₂, ◌∙◌}
use mathlib.Core.List.{List}
use Prim.Native.Nat.{ℕ, ◌+◌, ◌-◌, ◌*◌, ◌/◌, ◌%◌, ◌≤◌, ◌^◌}
use native.Mathlib.Omega.{arith}
use lib.ListN.{length}
use lib.Pow.{shr-shr, shl-shr, field as slice}
use Rattle.bits.specs.Bytes.{bits_of}
use Rattle.bits.specs.Fetching.{code}
use Rattle.bits.proofs.Bytes.{bits_of_length, bits_of_binary, code_within}

-- d bits above are shifted out of 64, and then all but w
shifted : (x d w r : ℕ) → d + (w + r) ≡ 64 → x * 2 ^ d % 2 ^ 64 / 2 ^ (64 - w) ≡ x / 2 ^ r % 2 ^ w
shifted x d w r e =
    let behind : 64 - w ≡ d + r = omega arith in
    let all : 64 ≡ w + (d + r) = omega arith in
    ap₂ (λ (j k : ℕ). x * 2 ^ d % 2 ^ k / 2 ^ j) behind all
    ∙ slice (x * 2 ^ d) w (d + r)
    ∙ ap (λ (k : ℕ). k % 2 ^ w) (sym (shr-shr (x * 2 ^ d) d r) ∙ ap (λ (k : ℕ). k / 2 ^ r) (shl-shr x d))

-- a field of at most 57 bits that begins in the first byte of the window
pub in_window : (bytes : List ℕ) (at w : ℕ) → at / 8 + 8 ≤ length bytes → w ≤ 57 → code (bits_of bytes) (8 * (at / 8)) 64 * 2 ^ (at % 8) % 2 ^ 64 / 2 ^ (64 - w) ≡ code (bits_of bytes) at w
in_window bytes at w h narrow =
    let place : 8 * (at / 8) + at % 8 ≡ at = omega arith in
    shifted (code (bits_of bytes) (8 * (at / 8)) 64) (at % 8) w (64 - at % 8 - w) (omega arith)
    ∙ code_within (bits_of bytes) (bits_of_binary bytes) (8 * (at / 8)) 64 (at % 8) w (64 - at % 8 - w) (omega arith) (omega (arith, bits_of_length bytes))
    ∙ ap (λ (k : ℕ). code (bits_of bytes) k w) place
