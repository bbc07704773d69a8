-- What is left of the numbers answers the whole.
use Prim.Native.Nat.{◌-◌, ◌≤◌}
use lib.ListN.{length}
use Rattle.types.specs.Shape.{field}
use Rattle.types.specs.Shape.Ty.{num}
use Rattle.types.specs.Table.{lowest_of}
use Rattle.meaning.specs.Walk.{times}
use Rattle.meaning.specs.Writing.{write}
use Rattle.passing.proofs.Laws.{Goes}
use Rattle.passing.proofs.run.Given as goal

abbrev pub invariant-loop : goal.invariant-loop
invariant-loop l = record {
  inside : l.k ≤ length l.cells;
  left : Goes (length l.cells) (times (l.n - l.counter) (write (num (field (lowest_of l.low) l.span))) l.cells l.k) (times l.n (write (num (field (lowest_of l.low) l.span))) l.cells l.initial.k);
}
