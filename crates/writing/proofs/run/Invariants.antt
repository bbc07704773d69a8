-- The invariant of the loop of `run`.
use Prim.Native.Nat.{◌+◌, ◌-◌, ◌*◌}
use mathlib.Core.Path.{◌≡◌}
use lib.ListN.{length}
use Rattle.types.specs.Shape.{field}
use Rattle.types.specs.Shape.Ty.{num}
use Rattle.types.specs.Table.{lowest_of}
use Rattle.meaning.specs.Walk.{times}
use Rattle.meaning.specs.Writing.{write}
use Rattle.walking.specs.Walked.{silent}
use Rattle.walking.proofs.Laws.{Goes}
use Rattle.writing.specs.Target.{target, Stands}
use Rattle.writing.proofs.run.Given as goal

abbrev pub invariant-loop : goal.invariant-loop
invariant-loop l = Stands l.cells l.k l.out l.at × (l.k ≡ l.initial.k + 4 * l.counter) × Goes silent (length l.cells) (times (l.n - 4 * l.counter) (write (num (field (lowest_of l.low) l.span))) l.cells l.k) (target l.out) l.at (times l.n (write (num (field (lowest_of l.low) l.span))) l.cells l.initial.k) (target l.initial.out) l.initial.at
