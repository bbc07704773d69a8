-- The invariants and measures of the loops of `put`.
use mathlib.Core.Path.{◌≡◌}
use Prim.Native.Nat.{◌-◌, ◌/◌, ◌^◌, ◌≤◌}
use lib.ListN.{length}
use Rattle.bits.specs.Numbers.{to_bits}
use Rattle.bits.specs.Bytes.{bits_of}
use Rattle.bits.specs.Storing.{splice}
use Rattle.bits.proofs.put.Given as goal

abbrev pub invariant-loop-p : goal.invariant-loop-p
invariant-loop-p l = (l.at ≤ l.p) × (l.p ≤ l.end) × (length l.bytes ≡ length l.initial.bytes) × (bits_of l.bytes ≡ splice (bits_of l.initial.bytes) l.at (to_bits (l.p - l.at) (l.code / 2 ^ (l.end - l.p))))

abbrev pub decreases-loop-p : goal.decreases-loop-p
decreases-loop-p l = l.end - l.p
