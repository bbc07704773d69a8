-- Each record that `answer_held` answered lies behind the one before, and its text in the buffer.
use Rattle.std.proofs.Common.{◌≤◌, length}
use Rattle.cases_read.proofs.answer_held.Given as goal

abbrev pub invariant-loop-records : goal.invariant-loop-records
invariant-loop-records g l = record { used : l.used ≤ length l.bytes; put : l.put ≤ length l.out }
