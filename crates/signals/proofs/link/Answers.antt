-- `signals::link` meets its contract: the phases of a link are those of its movements, then those of its lanes.
-- Assumes nothing.
use Rattle.std.proofs.Common.{refl, sym, rules}
use mathlib.Core.Logic.{inl}
use Rattle.sheet.specs.Values.{parts_of, entries}
use Rattle.signals.specs.Components.{movements, lanes, movement_phase}
use Rattle.signals.specs.Phases.{gathered, phase_at, lane_phases, link_phases}
use Rattle.signals.specs.Steps.{IsTurn, movement_row, lane_row}
use Rattle.signals.proofs.Levels.{level_list}
use Rattle.signals.proofs.Searching.{found_as, found_first, unlisted_on}
use Rattle.signals.proofs.Types.{movements_list, movement_known, lanes_list, lane_known}
use Rattle.signals.proofs.link.Goals as goal

pub returns-in-Some : goal.returns-in-Some
unfolding link_phases
returns-in-Some c = λ says v F er S.
    found_first says (gathered (phase_at movement_phase) (entries movements (parts_of v))) (gathered lane_phases (entries lanes (parts_of v)))
    (c.in-Some.ensures says (phase_at movement_phase) movement_row _ movement_known (level_list _ c.requires.0 _ _ S er movements movements_list c.entries_of-movements.ensures)
    (λ place w said ew T e. let t : IsTurn c.entries_of-movements.result.row movement_phase = inl (ew, refl) in search rules))

pub returns : goal.returns
unfolding link_phases
returns c = λ says v F er S.
    let moved = c.in_default.ensures says (phase_at movement_phase) movement_row _ movement_known (level_list _ c.requires.0 _ _ S er movements movements_list c.entries_of-movements.ensures)
    (λ place w said ew T e. let t : IsTurn c.entries_of-movements.result.row movement_phase = inl (ew, refl) in search rules) in
    found_as (sym (unlisted_on says (gathered (phase_at movement_phase) (entries movements (parts_of v))) (gathered lane_phases (entries lanes (parts_of v))) moved)) c.first_in.result
    (c.first_in.ensures says lane_phases lane_row _ lane_known (level_list _ c.requires.0 _ _ S er lanes lanes_list c.entries_of-lanes.ensures) (λ place w said ew T e. search rules))
