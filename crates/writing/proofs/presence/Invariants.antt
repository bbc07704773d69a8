-- The invariant of the loop of `presence`.
use Prim.Native.Nat.{◌+◌, ◌<◌, ◌≤◌, ◌^◌}
use lib.ListN.{length}
use Rattle.writing.proofs.Leaves.{Flags}
use Rattle.writing.proofs.presence.Given as goal

abbrev pub invariant-loop-i : goal.invariant-loop-i
invariant-loop-i l = (l.k + l.i ≤ length l.cells) × (l.mask < 2 ^ l.i) × Flags l.cells l.k l.options l.mask l.i
