-- The invariant of the loop of `singles`.
use Prim.Native.Nat.{◌+◌, ◌-◌}
use lib.ListN.{length}
use Rattle.types.specs.Shape.{field}
use Rattle.types.specs.Shape.Ty.{num}
use Rattle.types.specs.Table.{lowest_of}
use Rattle.meaning.specs.Walk.{times}
use Rattle.meaning.specs.Writing.{write}
use Rattle.walking.specs.Walked.{silent}
use Rattle.walking.proofs.Laws.{Goes}
use Rattle.writing.specs.Target.{target, Stands}
use Rattle.writing.proofs.singles.Given as goal

abbrev pub invariant-loop-i : goal.invariant-loop-i
invariant-loop-i l = Stands l.cells (l.k + l.i) l.out l.at × Goes silent (length l.cells) (times (l.n - l.i) (write (num (field (lowest_of l.low) l.span))) l.cells (l.k + l.i)) (target l.out) l.at (times l.n (write (num (field (lowest_of l.low) l.span))) l.cells l.k) (target l.initial.out) l.initial.at
