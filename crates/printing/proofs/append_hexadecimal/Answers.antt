-- `printing::append_hexadecimal` meets its contract: a turn appends the two digits of one more byte.
-- Assumes nothing.
use Prim.Native.Nat.{ℕ}
use mathlib.Core.List.{[], ◌∷◌}
use mathlib.Core.Path.{ap₂}
use native.Mathlib.Omega.{arith}
use lib.ListN.{take}
use Rattle.printing.specs.Digits.{hex_byte}
use Rattle.printing.proofs.Appending.{then, kept, same_text, each_none, each_more}
use Rattle.printing.proofs.append_hexadecimal.Goals as goal

pub loop-b-init : goal.loop-b-init
loop-b-init c = each_none hex_byte c.args.bytes.now (omega arith)

pub loop-b-preserved : goal.loop-b-preserved
loop-b-preserved c =
    let l = c.loop-b in
    same_text (each_more hex_byte (take c.least.result c.args.bytes.now) l.b-index 0 (omega arith))
    (then (omega arith) l.invariant
    (same_text (ap₂ (λ (h k : ℕ). h ∷ k ∷ []) c.hex_digit.ensures c.hex_digit-in-loop-b.ensures)
    (then (omega (arith, kept l.invariant)) c.append_byte-low.ensures c.append_byte-next.ensures)))
