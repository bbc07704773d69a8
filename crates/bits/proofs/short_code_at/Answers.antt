-- `bits::short_code_at` meets its contract: the bytes put in, what is computed is `code_short`, which counts the bits behind from the bytes.
-- Assumes nothing.
use mathlib.Core.Path.{◌≡◌, ap, ap₂, ◌∙◌}
use Prim.Native.Nat.{ℕ, ◌+◌, ◌-◌, ◌*◌, ◌/◌, ◌%◌, ◌^◌}
use native.Mathlib.Omega.{arith}
use lib.Pow.{pow_pos}
use Rattle.bits.proofs.Bytes.{code_short}
use Rattle.bits.proofs.short_code_at.Goals as goal

pub overflow_mul-two : goal.overflow_mul-two
overflow_mul-two c = omega (arith, c.from.ensures, c.shared_slice_known-2-1.given (c.args.at / 8))

pub overflow_add-two : goal.overflow_add-two
overflow_add-two c =
    let a = c.args in
    omega (arith, c.from.ensures, c.from-2.ensures, c.shared_slice_known-2-1.given (a.at / 8), c.shared_slice_known-3-1.given ((a.at + a.w + 7) / 8 - 1))

pub nonzero_rem-result-2 : goal.nonzero_rem-result-2
nonzero_rem-result-2 c = omega (arith, pow_pos c.args.w, (c.power.ensures.fits (omega arith)))

pub returns : goal.returns
returns c =
    let a = c.args in
    let r = (a.at + a.w + 7) / 8 * 8 - (a.at + a.w) in
    let down : 7 - (a.at + a.w + 7) % 8 ≡ r = omega arith in
    let first = c.shared_slice_known-2-1.given (a.at / 8) in
    let last = c.shared_slice_known-3-1.given ((a.at + a.w + 7) / 8 - 1) in
    ap (λ (k : ℕ). (c.from.result * 256 + c.from-2.result) / 2 ^ k % c.power.result) down
    ∙ ap₂ (λ (x y : ℕ). x / 2 ^ r % y) (ap₂ (λ (x y : ℕ). x * 256 + y) c.from.ensures c.from-2.ensures) (c.power.ensures.fits (omega arith))
    ∙ code_short a.bytes.now a.at a.w (omega arith) (omega arith) (omega arith) (omega (arith, first)) (omega (arith, last))
