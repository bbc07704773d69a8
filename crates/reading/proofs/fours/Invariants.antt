-- The invariant of the loop of `fours`.
use Prim.Native.Nat.{ℕ, ◌+◌, ◌-◌, ◌*◌, ◌≤◌, ◌<◌, ◌^◌}
use mathlib.Core.Path.{◌≡◌}
use Rattle.bits.specs.Numbers.{width}
use Rattle.types.specs.Shape.{field}
use Rattle.types.specs.Shape.Ty.{num}
use Rattle.types.specs.Table.{lowest_of}
use Rattle.meaning.specs.Walk.{times, walk}
use Rattle.meaning.specs.Reading.{reader}
use Rattle.reading.specs.Given.{message_in, Placed, Onward}
use Rattle.reading.proofs.fours.Given as goal

abbrev pub invariant-loop-i : goal.invariant-loop-i
invariant-loop-i l = (total span m : ℕ) → Placed l.b total l.at → l.w ≡ width span → (0 < l.n → span + 1 ≡ 2 ^ l.w) → l.at + l.n * (4 * l.w) ≤ total →
    Onward total (times (4 * (l.n - l.i) + m) (walk (num (field (lowest_of l.low) span)) reader) (message_in l.b total) (l.at + l.i * (4 * l.w))) l.sheet (l.cell + 4 * l.i) (times (4 * l.n + m) (walk (num (field (lowest_of l.low) span)) reader) (message_in l.b total) l.at) l.initial.sheet l.cell
