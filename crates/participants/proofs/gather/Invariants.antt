-- The invariant of the loop of `gather`: the participants that are left, with the ids of those before, come to what all of them come to.
use Rattle.std.proofs.Common.{◌-◌}
use Rattle.meaning.specs.Values.{Values}
use Rattle.messages.specs.Taking.{Rowed}
use Rattle.participants.specs.Steps.{participant_row}
use Rattle.participants.proofs.Gathering.{Going}
use Rattle.participants.proofs.gather.Given as goal

abbrev pub invariant-loop-i : goal.invariant-loop-i
invariant-loop-i l = (vs : Values) → Rowed l.sheet participant_row l.list vs → Going l.sheet l.list.row l.at (l.list.count - l.i) l.i l.ids vs
