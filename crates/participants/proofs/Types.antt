-- What the type table says of the types that the check goes through: the list of the participants, and their ids.
-- Assumes nothing.
use Prim.Native.Nat.{◌<◌}
use native.Mathlib.Omega.{arith}
use mathlib.Core.Path.{◌≡◌, refl}
use lib.Dec.{T}
use Rattle.types.specs.Kinds as kinds
use Rattle.types.specs.Rows.{rows}
use Rattle.types.specs.Table.{the_rows}
use Rattle.sheet.specs.Standing.{part_row}
use Rattle.messages.proofs.Entries.{is_list}
use Rattle.messages.proofs.Figures.{is_figure}
use Rattle.messages.proofs.Few.{most}
use Rattle.participants.specs.Components.{participants, ptc_id, vehicle_class}
use Rattle.participants.specs.Steps.{rsm_row, participant_row}

pub participants_list : T (is_list rsm_row participants)
unfolding rows is_list
participants_list = tt

-- an RSM has at most 16 participants
pub few_participants : most (the_rows (part_row rsm_row participants)) ≡ 16
unfolding rows
few_participants = refl

pub id_figure : T (is_figure 65535 participant_row ptc_id)
unfolding rows is_figure
id_figure = tt

pub participant_known : participant_row < 414
unfolding rows
participant_known = omega arith

pub participant_sequence : (the_rows participant_row).kind ≡ kinds.sequence
unfolding rows
participant_sequence = refl

pub class_among : vehicle_class < (the_rows participant_row).count
unfolding rows
class_among = omega arith
