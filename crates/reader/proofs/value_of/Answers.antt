-- `reader::value_of` meets its contract: the sum is far below the largest number.
-- Assumes nothing.
use mathlib.Core.Path.{◌∙◌}
use Prim.Native.Nat.{◌+◌}
use native.Mathlib.Omega.{arith}
use lib.IntN.{pos, ◌-ℤ◌}
use mir.Facts.{to_z-of_z}
use mir.Syntax.{w64}
use mir.ValLaws.{to_z_pos}
use Rattle.types.proofs.Lowest.{value_fits, value_is}
use Rattle.reader.proofs.value_of.Goals as goal

pub overflow_sub-result : goal.overflow_sub-result
overflow_sub-result c = let a = c.args in record { sfits = rw (to_z_pos w64 (a.low + a.n) (omega arith)) (value_fits (a.low + a.n) (omega arith)) }

pub returns : goal.returns
returns c =
    let a = c.args in
    rw (to_z_pos w64 (a.low + a.n) (omega arith))
    (to_z-of_z {w = w64} {z = pos (a.low + a.n) -ℤ pos 2147483648} (record { sfits = value_fits (a.low + a.n) (omega arith) }) ∙ value_is a.low a.n)
