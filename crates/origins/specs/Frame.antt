-- Who sent a frame: the kind of message, the sender's id and the message count (document 02, A4), over the message in the frame.
use Rattle.std.specs.Prelude.{ℕ, cond, List, [], ◌∷◌, ℤ, replicate, eqb}
use Rattle.meaning.specs.Values.{Parts, Values}
use Rattle.meaning.specs.Values.Values.{no_items, item}
use Rattle.sheet.specs.Values.{part, entries}
use Rattle.messages.specs.Message.{Message, message, no_message, message_in, bsm_frame, rsm_frame, rsi_frame, no_frame, number_of}
use Rattle.origins.specs.declared.Origin.{Origin}

-- ---- the components, counted from 0 in written order (source 000). crates/origins/src/lib.rt has the same names for the code

-- the first component of each message
abbrev pub msg_cnt : ℕ
msg_cnt = 0

-- the component id of BasicSafetyMessage (5.2.2.1), of RoadsideSafetyMessage (5.2.2.4), and of RoadSideInformation (5.2.2.3), behind moy
abbrev pub bsm_id : ℕ
bsm_id = 1

abbrev pub rsm_id : ℕ
rsm_id = 1

abbrev pub rsi_id : ℕ
rsi_id = 2

-- "MAP and SPAT have no sender id": 0, which is msgCnt's place and no id's
unfoldable pub id_at : ℕ → ℕ
id_at kind = cond (eqb kind bsm_frame) bsm_id (cond (eqb kind rsm_frame) rsm_id (cond (eqb kind rsi_frame) rsi_id 0))

-- ---- the octets of an id

unfoldable pub octets_of : Values → List ℕ
octets_of no_items = []
octets_of (item v more) = number_of v ∷ octets_of more

-- ---- the origin

-- a frame whose message has no sender's id: the kind alone
abbrev pub unsent : ℕ → Origin
unsent kind = record { kind = kind; id = replicate 8 0; count = 0 }

-- a message of a kind that has one
abbrev pub sent : ℕ → Parts → Origin
sent kind parts = record { kind = kind; id = octets_of (entries (id_at kind) parts); count = number_of (part msg_cnt parts) }

-- a sheet that is no frame has no kind
unfoldable pub message_origin : Message → Origin
message_origin (message kind parts) = cond (eqb (id_at kind) 0) (unsent kind) (sent kind parts)
message_origin (no_message why) = unsent no_frame

-- ---- a sheet of type 0

unfoldable pub origin_in : List ℤ → Origin
origin_in sheet = message_origin (message_in sheet)
