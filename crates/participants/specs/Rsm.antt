-- The RSM sending profile (document 02, A1; source 004, 6.3.3.2.1 g) and h), and table 9), over the value: the ids of the participants, and which
-- component of which is there.
use Rattle.std.specs.Prelude.{ℕ, cond, List, [], ℤ, eqb}
use Rattle.meaning.specs.Values.{Parts, Values}
use Rattle.answers.specs.GivenBack as given
use Rattle.sheet.specs.Values.{has, part, entries}
use Rattle.messages.specs.Message.{Message, message, no_message, message_in, rsm_frame, number_of, each}
use Rattle.messages.specs.Repeats.{Repeat, repeated, nowhere, among, first_repeat}
use Rattle.rules.specs.Rsi.{ruling, passes, first_broken}
use Rattle.rules.specs.Ruling.{Ruling}
use Rattle.participants.specs.Components.{participants, ptc_id, vehicle_class}
use Rattle.answers.specs.Reasons.{reason_number}

-- ---- the ids

-- the id of the unit itself (source 004, 6.3.3.2.1 h)
abbrev pub unit_id : ℕ
unit_id = 0

abbrev pub id_of : Parts → ℕ
id_of participant = number_of (part ptc_id participant)

abbrev pub ids_of : Values → List ℕ
ids_of list = each id_of list

-- ---- a participant: the required fields that the type doesn't always hold, in the order of table 9 (docs/DECISIONS.md has the list)

-- 30: no vehicleClass
unfoldable pub field_rule : Parts → ℕ
field_rule participant = cond (has vehicle_class participant) given.done given.field_missing

-- ---- the participants

-- 23: "the first entry that repeats an earlier one"
unfoldable pub unless_repeated : Repeat → Ruling → Ruling
unless_repeated (repeated i) behind = ruling given.repeated_id i
unless_repeated nowhere behind = behind

-- 24: no entry with id 0; then the fields, entry by entry
unfoldable pub unit_there : Values → Ruling
unit_there list = cond (among eqb unit_id (ids_of list)) (first_broken field_rule 0 list passes) (ruling given.unit_missing 0)

unfoldable pub profiled : Values → Ruling
profiled list = unless_repeated (first_repeat eqb [] 0 (ids_of list)) (unit_there list)

-- ---- a sheet of type 0: 7 where it is no value, with 7's place, however long its bytes would be; 22 where its message is not the RSM; then the profile

unfoldable pub message_profile : Message → Ruling
message_profile (message kind parts) = cond (eqb kind rsm_frame) (profiled (entries participants parts)) (ruling given.no_rsm 0)
message_profile (no_message why) = ruling (reason_number why.reason) why.place

unfoldable pub rsm_ruled : List ℤ → Ruling
rsm_ruled sheet = message_profile (message_in sheet)
