-- `writing::joined` meets its contract: nothing is shifted out.
-- Assumes nothing.
use Prim.Native.Nat.{ℕ, ◌+◌, ◌*◌, ◌%◌, ◌≤◌, ◌^◌}
use mathlib.Core.Path.{◌≡◌, ap}
use native.Mathlib.Nat.{mul-le-mul_left}
use native.Mathlib.Omega.{arith}
use lib.Pow.{pow_mono, shl_exact}
use Rattle.writing.proofs.joined.Goals.{Start}
use Rattle.writing.proofs.joined.Goals as goal

shifted : (c : Start) → (c.args.held * 2 ^ c.args.w) % 2 ^ 64 ≡ c.args.held * 2 ^ c.args.w
shifted c = shl_exact 25 c.args.w 64 c.requires.0 (omega (arith, c.requires.1))

few : (c : Start) → c.args.held * 2 ^ c.args.w ≤ c.args.held * 256
few c = mul-le-mul_left c.args.held (pow_mono {i = c.args.w} {j = 8} c.requires.1)

pub overflow_shl-result : goal.overflow_shl-result
overflow_shl-result c = omega (arith, c.requires.1)

pub overflow_add-result : goal.overflow_add-result
overflow_add-result c = record { fits = omega (arith, shifted c, few c, c.requires.0, c.requires.2) }

pub returns : goal.returns
returns c = (ap (λ (n : ℕ). n + c.args.x) (shifted c), omega (arith, shifted c, few c, c.requires.2))
