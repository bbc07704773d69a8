-- What the RSM sending profile says, apart from any loop (document 02, A1): sentences with "for all" and "there is".
use Rattle.std.specs.Prelude.{ℕ, ◌<◌, ◌≡◌, true, false, List, ℤ}
use Rattle.answers.specs.GivenBack as given
use Rattle.answers.specs.declared.Refusal.{Refusal}
use Rattle.meaning.specs.Values.{Value, Parts, Values}
use Rattle.sheet.specs.Values.{has, parts_of, entries}
use Rattle.messages.specs.Message.{message, no_message, message_in, rsm_frame}
use Rattle.messages.specs.Places.{Entry}
use Rattle.rules.specs.Rsi as rsi
use Rattle.rules.specs.Ruling.{Ruling}
use Rattle.participants.specs.Components.{participants, vehicle_class}
use Rattle.participants.specs.Rsm.{unit_id, id_of}

-- "no two participants share a ptcId"
abbrev pub Different : Values → Type 0
Different list = (i j : ℕ) (v w : Value) → Entry i v list → Entry j w list → id_of (parts_of v) ≡ id_of (parts_of w) → i ≡ j

-- entry i has the id of an earlier one
abbrev pub RepeatsId : ℕ → Values → Type 0
RepeatsId i list = (v : Value) × Entry i v list × (j : ℕ) × (j < i) × (w : Value) × Entry j w list × (id_of (parts_of w) ≡ id_of (parts_of v))

-- entry i is the unit itself
abbrev pub IsUnit : ℕ → Values → Type 0
IsUnit i list = (v : Value) × Entry i v list × (id_of (parts_of v) ≡ unit_id)

-- "exactly one participant has ptcId 0"
abbrev pub OneUnit : Values → Type 0
OneUnit list = (i : ℕ) × IsUnit i list × ((j : ℕ) → IsUnit j list → j ≡ i)

-- entry i lacks a required field
abbrev pub Lacks : ℕ → Values → Type 0
Lacks i list = (v : Value) × Entry i v list × (has vehicle_class (parts_of v) ≡ false)

-- "the entry's required fields"
abbrev pub Complete : Values → Type 0
Complete list = (i : ℕ) (v : Value) → Entry i v list → has vehicle_class (parts_of v) ≡ true

-- ---- the numbers, exactly when: each ruling with what holds of the sheet

pub data RsmSays (sheet : List ℤ) : Ruling → Type 0 where
  no_value : {why : Refusal} → message_in sheet ≡ no_message why → RsmSays sheet (rsi.ruling given.no_value why.place)
  not_rsm : {kind : ℕ} {parts : Parts} → message_in sheet ≡ message kind parts → ¬ (kind ≡ rsm_frame) → RsmSays sheet (rsi.ruling given.no_rsm 0)
  repeats : {rsm : Parts} {n : ℕ} → message_in sheet ≡ message rsm_frame rsm
      → RepeatsId n (entries participants rsm) → ((k : ℕ) → k < n → RepeatsId k (entries participants rsm) → ⊥)
      → RsmSays sheet (rsi.ruling given.repeated_id n)
  no_unit : {rsm : Parts} → message_in sheet ≡ message rsm_frame rsm
      → Different (entries participants rsm) → ((k : ℕ) → IsUnit k (entries participants rsm) → ⊥)
      → RsmSays sheet (rsi.ruling given.unit_missing 0)
  lacks : {rsm : Parts} {n : ℕ} → message_in sheet ≡ message rsm_frame rsm
      → Different (entries participants rsm) → OneUnit (entries participants rsm)
      → Lacks n (entries participants rsm) → ((k : ℕ) → k < n → Lacks k (entries participants rsm) → ⊥)
      → RsmSays sheet (rsi.ruling given.field_missing n)
  follows : {rsm : Parts} → message_in sheet ≡ message rsm_frame rsm
      → Different (entries participants rsm) → OneUnit (entries participants rsm) → Complete (entries participants rsm)
      → RsmSays sheet rsi.passes
