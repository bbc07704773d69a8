-- The invariant of the loop of `Lists::gather`: the entries that are left, with what was seen of those before, come to what all of them come to.
use Rattle.std.proofs.Common.{◌-◌}
use Rattle.meaning.specs.Values.{Values}
use Rattle.messages.specs.Taking.{Rowed}
use Rattle.signals.specs.Steps.{signal_row}
use Rattle.signals.proofs.Gathering.{Going}
use Rattle.signals.proofs.Lists.gather.Given as goal

abbrev pub invariant-loop-i : goal.invariant-loop-i
invariant-loop-i l =
    (vs : Values) → Rowed l.sheet signal_row l.entries vs → Going l.sheet l.entries.row l.at (l.entries.count - l.i) l.i l.self.keys l.self.flags vs
