-- The one number of the loss count tells both of its parts.
-- Assumes nothing.
use Prim.Native.Nat.{◌<◌, ◌/◌, ◌%◌}
use mathlib.Core.Path.{◌≡◌}
use native.Mathlib.Omega.{arith}
use Rattle.loss.specs.Ring.{Loss}
use Rattle.knotsaffron.specs.Cells.{loss_number}

-- the number is what 256 goes into it, and the messages missed are the rest
pub loss_apart : (l : Loss) → l.missed < 256 → (loss_number l / 256 ≡ l.number) × (loss_number l % 256 ≡ l.missed)
loss_apart l h = (omega arith, omega arith)
