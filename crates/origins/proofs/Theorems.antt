-- What is proved of the origin of a frame besides the promise (document 02, A4). Assumes nothing.
use lib.Dec.{T, eqb}
use Rattle.types.specs.Names.{row_of}
use Rattle.types.specs.Rows.{rows}
use Rattle.types.specs.Rule.{◌&◌}
use Rattle.sheet.proofs.Named.{is_called}
use Rattle.messages.specs.Message.{message_frame, bsm_frame, rsm_frame, rsi_frame}
use Rattle.origins.specs.Frame.{msg_cnt, bsm_id, rsm_id, rsi_id}

-- ---- the alternatives and components that an origin is made of are those of these names in source 000

pub components_named : T (
    eqb message_frame (row_of "MessageFrame")
    & is_called "MessageFrame" bsm_frame "bsmFrame"
    & is_called "MessageFrame" rsm_frame "rsmFrame"
    & is_called "MessageFrame" rsi_frame "rsiFrame"
    & is_called "BasicSafetyMessage" msg_cnt "msgCnt"
    & is_called "RoadsideSafetyMessage" msg_cnt "msgCnt"
    & is_called "RoadSideInformation" msg_cnt "msgCnt"
    & is_called "BasicSafetyMessage" bsm_id "id"
    & is_called "RoadsideSafetyMessage" rsm_id "id"
    & is_called "RoadSideInformation" rsi_id "id")
unfolding rows is_called
components_named = tt
