-- The measures of a cycle of calls, and the invariants of its loops.
use Prim.Native.Nat.{◌+◌, ◌-◌, ◌*◌, ◌/◌, ◌%◌, ◌<◌, ◌^◌}
use lib.ListN.{length}
use Rattle.types.specs.Table.{span_in, root_at, type_of}
use Rattle.types.specs.Ready.{PartRows}
use Rattle.meaning.specs.Walk.{times}
use Rattle.meaning.specs.Writing.{write}
use Rattle.walking.specs.Walked.{silent}
use Rattle.walking.proofs.Laws.{Goes}
use Rattle.writing.specs.Target.{target, Stands}
use Rattle.writing.proofs.Walks.{left}
use Rattle.writing.proofs.+alternative_components_items_sequence_series_walk.Given as goal

abbrev pub decreases-alternative : goal.decreases-alternative
decreases-alternative l = 4 * (l.word / 4096 % 1024 + (span_in l.rows.now l.word + 1)) + 2

abbrev pub decreases-components : goal.decreases-components
decreases-components l = 4 * (l.first + l.count) + 1

abbrev pub decreases-items : goal.decreases-items
decreases-items l = 4 * (l.t + 1) + 1

abbrev pub decreases-sequence : goal.decreases-sequence
decreases-sequence l = 4 * (l.word / 4096 % 1024 + l.word / 4194304 % 32) + 2

abbrev pub decreases-series : goal.decreases-series
decreases-series l = 4 * (l.word / 4096 % 1024 + 1) + 2

abbrev pub decreases-walk : goal.decreases-walk
decreases-walk l = 4 * l.row + 3

abbrev pub invariant-components-loop-row : goal.invariant-components-loop-row
invariant-components-loop-row l = Stands l.cells l.k l.out l.at × PartRows l.rows l.row (l.first + l.count - l.row) × (l.flag + (l.first + l.count - l.row) < 2 ^ 33) × Goes silent (length l.cells) (left l.rows l.cells l.row (l.first + l.count - l.row) l.flag l.k) (target l.out) l.at (left l.rows l.cells l.first l.count l.initial.flag l.initial.k) (target l.initial.out) l.initial.at

abbrev pub invariant-items-loop : goal.invariant-items-loop
invariant-items-loop l = Stands l.cells l.k l.out l.at × Goes silent (length l.cells) (times (l.n - l.counter) (write (type_of (root_at l.rows) l.t)) l.cells l.k) (target l.out) l.at (times l.n (write (type_of (root_at l.rows) l.t)) l.cells l.initial.k) (target l.initial.out) l.initial.at
