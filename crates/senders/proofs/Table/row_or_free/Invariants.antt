-- The rows that are left, with the lowest free row so far, come to what all rows come to.
use Rattle.std.proofs.Common.{◌≡◌, drop}
use Rattle.senders.proofs.First.{rows_left, sought}
use Rattle.senders.proofs.Table.row_or_free.Given as goal

abbrev pub invariant-loop-row : goal.invariant-loop-row
invariant-loop-row l = rows_left l.kind l.id l.row l.free (drop l.row l.sender-items) ≡ sought l.kind l.id l.sender-items
