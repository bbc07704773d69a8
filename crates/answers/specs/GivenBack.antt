-- The numbers given back, by name: those of document 01 ("Numbers given back") and those that the requests of document 02 add.
-- crates/answers/src/reasons.rt has the same names for the code, include/knotsaffron.h for C; docs/NUMBERS.md says what each one means to a tester.
use Rattle.std.specs.Prelude.{ℕ}

-- ---- document 01

-- done
abbrev pub done : ℕ
done = 0

-- input, or bytes that would be written, above 2,048
abbrev pub too_long : ℕ
too_long = 1

-- type number not named; a row or width that is not there
abbrev pub unknown_type : ℕ
unknown_type = 2

-- a field's bits are not all there
abbrev pub short : ℕ
short = 3

-- code or argument not in the type's range
abbrev pub outside : ℕ
outside = 4

-- extension bit is 1
abbrev pub extended : ℕ
extended = 5

-- padding not zero, or a byte too many
abbrev pub spare_bits : ℕ
spare_bits = 6

-- sheet is no value of the type
abbrev pub no_value : ℕ
no_value = 7

-- no room
abbrev pub no_room : ℕ
no_room = 8

-- position leaves its type's range
abbrev pub leaves_its_range : ℕ
leaves_its_range = 9

-- the frame is not RSI
abbrev pub no_rsi : ℕ
no_rsi = 11

-- an event has no eventPos
abbrev pub event_position : ℕ
event_position = 12

-- an event has none of eventRadius, referencePaths, referenceLinks
abbrev pub event_reach : ℕ
event_reach = 13

-- a sign has no signPos
abbrev pub sign_position : ℕ
sign_position = 14

-- a sign has no description
abbrev pub sign_description : ℕ
sign_description = 15

-- a sign has neither referencePaths nor referenceLinks
abbrev pub sign_reach : ℕ
sign_reach = 16

-- ---- document 02: kept for its requests, and given by no function before its request lands

-- A3: a coordinate that means "no information"
abbrev pub no_information : ℕ
no_information = 10

-- A4: no row is free for a new sender
abbrev pub table_full : ℕ
table_full = 20

-- A4: received is at its highest number
abbrev pub count_full : ℕ
count_full = 21

-- A1: the frame is not RSM
abbrev pub no_rsm : ℕ
no_rsm = 22

-- A1: a participant repeats an earlier ptcId
abbrev pub repeated_id : ℕ
repeated_id = 23

-- A1: no participant has ptcId 0
abbrev pub unit_missing : ℕ
unit_missing = 24

-- A4: a kind of message that has no sender
abbrev pub no_sender : ℕ
no_sender = 25

-- A11: edition not known
abbrev pub unknown_edition : ℕ
unknown_edition = 26

-- A12: a length, index or open value not in its shortest form
abbrev pub not_shortest : ℕ
not_shortest = 27

-- A4: a sender that is not held
abbrev pub not_held : ℕ
not_held = 28

-- A10: a party but 0 and 1
abbrev pub unknown_party : ℕ
unknown_party = 29

-- A1: the first of the numbers for required fields of a participant
abbrev pub field_missing : ℕ
field_missing = 30

-- A2: a whole number outside its range
abbrev pub number_outside : ℕ
number_outside = 41

-- A2: an enumeration index outside its range
abbrev pub item_outside : ℕ
item_outside = 42

-- A2: a choice index outside its range
abbrev pub alternative_outside : ℕ
alternative_outside = 43

-- A2: a size or count outside its range
abbrev pub size_outside : ℕ
size_outside = 44

-- A7: the two frames are not SPAT and MAP
abbrev pub no_spat_and_map : ℕ
no_spat_and_map = 50

-- A7: two signal entries with equal region and id
abbrev pub repeated_signal : ℕ
repeated_signal = 51

-- A7: a phase of the map that the signal entry does not list
abbrev pub phase_not_listed : ℕ
phase_not_listed = 52

-- A13: a record of a capture file is cut
abbrev pub record_cut : ℕ
record_cut = 60

-- A13: a number of a capture file not in its shortest form, or above 64 bits
abbrev pub number_not_shortest : ℕ
number_not_shortest = 61

-- A9: an entry that does not stand exactly once in a plan
abbrev pub entry_not_once : ℕ
entry_not_once = 70

-- A9: a message of a plan that is empty, names an entry not there, is out of order, too full or too long
abbrev pub wrong_message : ℕ
wrong_message = 71

-- A9, a number of ours: an entry that no message has room for (document 02 says "no plan", and gives it no number)
abbrev pub entry_too_long : ℕ
entry_too_long = 72
