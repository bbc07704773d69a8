-- The measures of a cycle of calls, and the invariants of its loops.
use Prim.Native.Nat.{◌+◌, ◌-◌, ◌*◌, ◌/◌, ◌%◌}
use Rattle.types.specs.Table.{first_from, first_room, count_from, count_room, span_in, root_at, type_of}
use Rattle.meaning.specs.Walk as meant
use Rattle.meaning.specs.Reading.{reader}
use Rattle.reading.specs.Given.{message_in}
use Rattle.reading.proofs.Loops.{Left, Turns}
use Rattle.reading.proofs.+alternative_components_items_sequence_series_walk.Given as goal

abbrev pub decreases-alternative : goal.decreases-alternative
decreases-alternative l = 4 * (l.word / first_from % first_room + span_in l.rows.now l.word + 1) + 2

abbrev pub decreases-components : goal.decreases-components
decreases-components l = 4 * (l.first + l.count) + 1

abbrev pub decreases-items : goal.decreases-items
decreases-items l = 4 * (l.t + 1) + 1

abbrev pub decreases-sequence : goal.decreases-sequence
decreases-sequence l = 4 * (l.word / first_from % first_room + l.word / count_from % count_room) + 2

abbrev pub decreases-series : goal.decreases-series
decreases-series l = 4 * (l.word / first_from % first_room + 1) + 2

abbrev pub decreases-walk : goal.decreases-walk
decreases-walk l = 4 * l.row + 3

abbrev pub invariant-components-loop-row : goal.invariant-components-loop-row
invariant-components-loop-row l = Left l.rows l.b l.total l.first l.count l.initial.flags l.initial.at l.initial.sheet l.initial.cell l.row (l.first + l.count - l.row) l.flags l.at l.sheet l.cell

abbrev pub invariant-items-loop : goal.invariant-items-loop
invariant-items-loop l = Turns (meant.walk (type_of (root_at l.rows) l.t) reader) (message_in l.b l.total) l.total l.n l.at l.initial.sheet l.initial.cell (l.n - l.counter) l.q l.sheet l.cell
