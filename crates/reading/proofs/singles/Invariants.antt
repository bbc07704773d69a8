-- The invariant of the loop of `singles`.
use Prim.Native.Nat.{◌-◌}
use Rattle.types.specs.Shape.{field}
use Rattle.types.specs.Shape.Ty.{num}
use Rattle.types.specs.Table.{lowest_of}
use Rattle.meaning.specs.Walk.{walk}
use Rattle.meaning.specs.Reading.{reader}
use Rattle.reading.specs.Given.{message_in}
use Rattle.reading.proofs.Loops.{Turns}
use Rattle.reading.proofs.singles.Given as goal

abbrev pub invariant-loop : goal.invariant-loop
invariant-loop l = Turns (walk (num (field (lowest_of l.low) l.span)) reader) (message_in l.b l.total) l.total l.n l.initial.at l.initial.sheet l.initial.cell (l.n - l.counter) l.at l.sheet l.cell
