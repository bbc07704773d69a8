-- Bits at the top of a number of 64 bits: the first of them, and those behind it once the number is shifted by one.
-- Assumes nothing.
use Prim.Native.Nat.{ℕ, suc, ◌+◌, ◌-◌, ◌*◌, ◌/◌, ◌%◌, ◌<◌, ◌^◌}
use mathlib.Core.List.{List, [], ◌∷◌}
use mathlib.Core.Path.{◌≡◌, sym, ap, ap₂, ◌∙◌}
use native.Mathlib.Omega.{arith}
use lib.IntN.{pos}
use lib.Pow.{shr-shr, shr_mod, shl-shr, field as slice}
use Rattle.bits.specs.Numbers.{to_bits}
use Rattle.bits.proofs.Numbers.{to_bits_mod}
use Rattle.reading.specs.Taken.{cells, top_bits}

module _ (k f : ℕ) (h : k < 64) where
  -- the first of k + 1 bits
  pub top_bit : f < 2 ^ 64 → f / 2 ^ (64 - suc k) / 2 ^ k % 2 ≡ f / 2 ^ 63
  top_bit small =
      let e : 64 - suc k + k ≡ 63 = omega arith in
      ap (λ (x : ℕ). x % 2) (shr-shr f (64 - suc k) k ∙ ap (λ (j : ℕ). f / 2 ^ j) e) ∙ shr_mod {n = f} 1 63 small

  moved : f * 2 % 2 ^ 64 / 2 ^ (64 - k) ≡ f / 2 ^ (64 - suc k) % 2 ^ k
  moved =
      let all : 64 ≡ k + (64 - k) = omega arith in
      let one : 64 - k ≡ 1 + (64 - suc k) = omega arith in
      ap (λ (j : ℕ). f * 2 % 2 ^ j / 2 ^ (64 - k)) all
      ∙ slice (f * 2) k (64 - k)
      ∙ ap (λ (x : ℕ). x % 2 ^ k) (ap (λ (j : ℕ). f * 2 / 2 ^ j) one ∙ sym (shr-shr (f * 2) 1 (64 - suc k)) ∙ ap (λ (x : ℕ). x / 2 ^ (64 - suc k)) (shl-shr f 1))

  -- the k bits behind it
  pub top_rest : to_bits k (f / 2 ^ (64 - suc k)) ≡ top_bits k (f * 2 % 2 ^ 64)
  top_rest = sym (ap (to_bits k) moved ∙ to_bits_mod k (f / 2 ^ (64 - suc k)))

-- as cells
pub tops_step : (rest f : ℕ) {left : ℕ} → left ≡ rest + 1 → left < 64 → f < 2 ^ 64 → cells (top_bits left f) ≡ pos (f / 2 ^ 63) ∷ cells (top_bits rest (f * 2 % 2 ^ 64))
unfolding cells to_bits
tops_step k f {left} h l small =
    let e : left ≡ suc k = omega arith in
    ap (λ (j : ℕ). cells (top_bits j f)) e ∙ ap₂ (λ (x : ℕ) (bs : List ℕ). pos x ∷ cells bs) (top_bit k f (omega arith) small) (top_rest k f (omega arith))

pub tops_none : (left f : ℕ) → left ≡ 0 → cells (top_bits left f) ≡ []
unfolding cells to_bits
tops_none left f e = ap (λ (j : ℕ). cells (to_bits j (f / 2 ^ (64 - left)))) e
