-- `programs_writing::cell_in` meets its contract: two numbers of four bytes, and their sign.
-- Assumes nothing.
use Prim.Native.Nat.{◌+◌, ◌-◌, ◌*◌}
use native.Mathlib.Omega.{arith}
use Rattle.programs_writing.proofs.Cells.{eight_is, above, below}
use Rattle.parsing.proofs.Numbers.{minus_fits}
use Rattle.programs_writing.proofs.cell_in.Goals as goal

pub returns-then-n-lt-BELOW_ZERO : goal.returns-then-n-lt-BELOW_ZERO
returns-then-n-lt-BELOW_ZERO c = above (c.args.bytes.now) (eight_is (c.args.bytes.now) c.four_bytes.ensures c.four_bytes-2.ensures) c.if-n-lt-BELOW_ZERO.true

pub overflow_sub-result-2 : goal.overflow_sub-result-2
overflow_sub-result-2 c = minus_fits (18446744073709551615 - (c.four_bytes.result * 4294967296 + c.four_bytes-2.result)) (omega arith)

pub returns : goal.returns
returns c = below (c.args.bytes.now) (eight_is (c.args.bytes.now) c.four_bytes.ensures c.four_bytes-2.ensures) c.if-n-lt-BELOW_ZERO.false
