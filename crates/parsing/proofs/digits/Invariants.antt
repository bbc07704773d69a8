-- The invariant of the loop of `digits`: n is what the digits so far stand for.
use Prim.Native.Nat.{◌<◌, ◌^◌}
use mathlib.Core.Path.{◌≡◌}
use lib.ListN.{take}
use Rattle.printing.specs.Digits.{value}
use Rattle.parsing.proofs.digits.Given as goal

abbrev pub invariant-loop-b : goal.invariant-loop-b
invariant-loop-b l = (l.n ≡ value (take l.b-index l.text)) × (l.n < 2 ^ 64)
