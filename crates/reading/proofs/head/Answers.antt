-- `reading::head` meets its contract: the window that begins with the place's byte, shifted to the place.
-- Assumes nothing.
use mathlib.Core.Path.{ap, ◌∙◌}
use Prim.Native.Nat.{ℕ, ◌-◌, ◌*◌, ◌/◌, ◌%◌, ◌^◌}
use native.Mathlib.Omega.{arith}
use Rattle.bits.proofs.Windows.{in_window}
use Rattle.reading.proofs.head.Goals as goal

pub returns : goal.returns
returns c = let a = c.args in λ w narrow. ap (λ (x : ℕ). x * 2 ^ (a.at % 8) % 2 ^ 64 / 2 ^ (64 - w)) c.window.ensures ∙ in_window a.b.now a.at w (omega arith) narrow
