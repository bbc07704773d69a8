-- The invariant of the loop of `list_phases`: what is left to be listed, behind what is flagged already, comes to all of it.
use Rattle.std.proofs.Common.{◌-◌, ◌*◌, Bool, List}
use Rattle.meaning.specs.Values.{Values}
use Rattle.sheet.specs.Standing.{Entries}
use Rattle.messages.specs.Message.{each}
use Rattle.messages.specs.Taking.{Rowed}
use Rattle.signals.specs.Phases.{listed_phase}
use Rattle.signals.specs.Steps.{flags_each, Marked, phase_row}
use Rattle.signals.proofs.list_phases.Given as goal

abbrev pub invariant-loop-n : goal.invariant-loop-n
invariant-loop-n l =
    (vs : Values) → Rowed l.sheet phase_row l.phases vs
    → (rest : Values) × Entries l.sheet l.phases.row l.at (l.phases.count - l._n) rest
    × ((after : List Bool) → Marked (flags_each * l.i) (each listed_phase rest) l.flags after → Marked (flags_each * l.i) (each listed_phase vs) l.initial.flags after)
