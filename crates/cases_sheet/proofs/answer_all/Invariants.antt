-- What `answer_all` has used of the input is inside it.
use Rattle.std.proofs.Common.{◌≤◌, length}
use Rattle.cases_sheet.proofs.answer_all.Given as goal

abbrev pub invariant-loop : goal.invariant-loop
invariant-loop g l = l.used ≤ length l.input
