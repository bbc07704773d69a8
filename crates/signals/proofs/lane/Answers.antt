-- `signals::lane` meets its contract: the phases of a lane are those of its connections.
-- Assumes nothing.
use Rattle.std.proofs.Common.{refl, rules}
use mathlib.Core.Logic.{inr}
use Rattle.signals.specs.Components.{connects_to, connection_phase}
use Rattle.signals.specs.Phases.{phase_at, lane_phases}
use Rattle.signals.specs.Steps.{IsTurn, connection_row}
use Rattle.signals.proofs.Levels.{level_list}
use Rattle.signals.proofs.Types.{connections_list, connection_known}
use Rattle.signals.proofs.lane.Goals as goal

pub returns : goal.returns
unfolding lane_phases
returns c = λ says v F er S. c.first_in.ensures says (phase_at connection_phase) connection_row _ connection_known (level_list _ c.requires.0 _ _ S er connects_to connections_list c.entries_of-connections.ensures)
    (λ place w said ew T e. let t : IsTurn c.entries_of-connections.result.row connection_phase = inr (ew, refl) in search rules)
