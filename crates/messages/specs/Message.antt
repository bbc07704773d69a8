-- The message in the frame that a sheet is (source 000, 5.2.1), over the value: which alternative it is, its components, and what their entries hold.
use Rattle.std.specs.Prelude.{ℕ, List, [], ◌∷◌, ℤ}
use Rattle.basics.specs.Lists.{natural}
use Rattle.answers.specs.declared.Refusal.{Refusal}
use Rattle.meaning.specs.Values.{Value, Parts, Values}
use Rattle.meaning.specs.Values.Value.{whole, sequence, chosen, items, beyond, extended, added, picked, kept}
use Rattle.meaning.specs.Values.Parts.{finished}
use Rattle.meaning.specs.Values.Values.{no_items, item}
use Rattle.sheet.specs.Values.{parts_of}
use Rattle.sheet.specs.Sole.{Sole, value, none, sole_value}

-- ---- the alternatives of MessageFrame, counted from 0 in written order. crates/messages/src/lib.rt has the same names for the code

-- the row of MessageFrame in the type table
abbrev pub message_frame : ℕ
message_frame = 413

abbrev pub bsm_frame : ℕ
bsm_frame = 0

abbrev pub map_frame : ℕ
map_frame = 1

abbrev pub rsm_frame : ℕ
rsm_frame = 2

abbrev pub spat_frame : ℕ
spat_frame = 3

abbrev pub rsi_frame : ℕ
rsi_frame = 4

-- what is no alternative
abbrev pub no_frame : ℕ
no_frame = 5

-- ---- the message

pub data Message : Type 0 where
  message : ℕ → Parts → Message  -- the alternative, and the components of its value
  no_message : Refusal → Message  -- the sheet is no value

-- a frame is a choice; any other value, which stands in no sheet of type 0, is no alternative
unfoldable pub message_of : Value → Message
message_of (chosen kind v) = message kind (parts_of v)
message_of (whole n) = message no_frame finished
message_of (sequence parts) = message no_frame finished
message_of (items vs) = message no_frame finished
message_of (beyond n) = message no_frame finished
message_of (extended parts more) = message no_frame finished
message_of (added n v) = message no_frame finished
message_of (picked n v) = message no_frame finished
message_of (kept vs) = message no_frame finished

unfoldable pub sole_message : Sole → Message
sole_message (value frame) = message_of frame
sole_message (none why) = no_message why

-- of a sheet of type 0, however long its bytes would be; 7 where it is no value, with 7's place
unfoldable pub message_in : List ℤ → Message
message_in sheet = sole_message (sole_value message_frame sheet)

-- ---- a number of a value

-- a whole number that is not negative; 0 for any other value
unfoldable pub number_of : Value → ℕ
number_of (whole z) = natural z
number_of (sequence parts) = 0
number_of (chosen n v) = 0
number_of (items vs) = 0
number_of (beyond n) = 0
number_of (extended parts more) = 0
number_of (added n v) = 0
number_of (picked n v) = 0
number_of (kept vs) = 0

-- ---- of each entry of a list one thing

unfoldable pub each : {A : Type 0} → (Parts → A) → Values → List A
each f no_items = []
each f (item v more) = f (parts_of v) ∷ each f more
