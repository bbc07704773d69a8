-- `printing::append_signed` meets its contract: a minus sign and the digits, or the digits alone.
-- Assumes nothing.
use Prim.Native.Nat.{ℕ}
use mathlib.Core.List.{[], ◌∷◌, ◌++◌}
use mathlib.Core.Path.{ap, ◌∙◌}
use native.Mathlib.Omega.{arith}
use lib.IntN.{nat_abs}
use mir.Facts.{to_z-of_z}
use Rattle.printing.specs.Characters.{minus_sign}
use Rattle.printing.specs.Digits.{decimal}
use Rattle.printing.proofs.Appending.{then, same_text}
use Rattle.printing.proofs.Signed.{signed_below, signed_above}
use Rattle.printing.proofs.append_signed.Goals as goal

pub returns-then-z-lt0 : goal.returns-then-z-lt0
returns-then-z-lt0 c =
    same_text (ap (λ (n : ℕ). (minus_sign ∷ []) ++ decimal n) (c.unsigned_abs.ensures.value ∙ ap nat_abs (to_z-of_z c.ranges.z)) ∙ signed_below _ c.ranges.z c.if-z-lt0.true)
    (then (omega arith) c.append_byte-digits.ensures c.append_decimal.ensures)

pub returns : goal.returns
returns c = same_text (ap decimal (c.unsigned_abs-2.ensures.value ∙ ap nat_abs (to_z-of_z c.ranges.z)) ∙ signed_above _ c.ranges.z c.if-z-lt0.false) c.append_decimal-2.ensures
