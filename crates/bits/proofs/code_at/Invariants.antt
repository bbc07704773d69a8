-- The invariant of the loop of `code_at`.
use mathlib.Core.Path.{◌≡◌}
use Prim.Native.Nat.{◌*◌, ◌/◌}
use Rattle.bits.specs.Bytes.{bits_of}
use Rattle.bits.specs.Fetching
use Rattle.bits.proofs.code_at.Given as goal

abbrev pub invariant-loop-byte : goal.invariant-loop-byte
invariant-loop-byte l = l.all ≡ Fetching.code (bits_of l.bytes) (8 * (l.at / 8)) (8 * l.byte-index)
