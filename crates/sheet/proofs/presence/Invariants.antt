-- What is left of the presence cells answers the whole.
use Prim.Native.Nat.{ℕ, ◌-◌, ◌≤◌}
use lib.ListN.{length}
use Rattle.types.specs.Shape.{Ty}
use Rattle.types.specs.Table.{root_at, fields_of}
use Rattle.meaning.specs.Walk.{flags}
use Rattle.meaning.specs.Writing.{writer}
use Rattle.passing.proofs.Laws.{Goes}
use Rattle.sheet.proofs.presence.Given as goal

abbrev pub invariant-loop-f : goal.invariant-loop-f
invariant-loop-f l = record {
  inside : l.k ≤ length l.cells;
  left : (look : ℕ → Ty) → Goes (length l.cells) (flags (fields_of (root_at l.rows) look l.f (l.end - l.f)) writer l.cells l.k) (flags (fields_of (root_at l.rows) look l.first l.n) writer l.cells l.initial.k);
}
