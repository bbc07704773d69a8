-- `bits::width` meets its contract: the width and the leading zeros make 64.
-- Assumes nothing.
use native.Mathlib.Omega.{arith}
use lib.Count.{leading_le}
use native.Mathlib.Nat.{le_trans}
use Rattle.bits.proofs.Numbers.{width_zeros}
use Rattle.bits.proofs.width.Goals as goal

pub overflow_sub-result : goal.overflow_sub-result
overflow_sub-result c = le_trans (leading_le 64 _) (omega arith)

pub returns : goal.returns
returns c = omega (arith, width_zeros 64 c.args.span c.ranges.span.fits)
