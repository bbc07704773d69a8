-- `answer_all` ends: each turn but the last answers a record, and 65,536 records are the most. What is held lies in the buffer.
use Rattle.std.proofs.Common.{◌≤◌, length}
use Rattle.cases_read.proofs.answer_all.Given as goal

abbrev pub invariant-loop-left : goal.invariant-loop-left
invariant-loop-left g l = l.held ≤ length l.bytes

abbrev pub decreases-loop-left : goal.decreases-loop-left
decreases-loop-left g l = l.left
