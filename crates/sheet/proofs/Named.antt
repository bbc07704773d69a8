-- The laws of this crate by the names of types, so that a check names a type and a component and computes the rest; tried on what the checks of maps and of participants go through.
-- Assumes nothing.
use Prim.Native.Nat.{ℕ, ◌+◌, ◌<◌}
use Prim.Native.String.{String, ◌++◌}
use mathlib.Core.Bool.{Bool}
use mathlib.Core.Path.{◌≡◌}
use mathlib.Core.List.{List}
use lib.Dec.{T, eqb, ltb, eqb→eq, ltb→lt}
use lib.IntN.{ℤ, pos}
use lib.ListN.{length, get_or}
use Rattle.types.specs.Kinds as kinds
use Rattle.types.specs.Names.{row_of}
use Rattle.types.specs.Rows.{rows}
use Rattle.types.specs.Rule.{◌&◌}
use Rattle.types.specs.Table.{numbers, the_rows}
use Rattle.types.proofs.Depth.{first_part, more_parts}
use Rattle.meaning.specs.Values.{Value, whole}
use Rattle.sheet.specs.Values.{has, part, parts_of}
use Rattle.sheet.specs.Standing.{Stands, part_row, entry_row, Holds, Picks, Lists}
use Rattle.sheet.specs.Moving.{component_at, has_at, chosen_at, entries_at}
use Rattle.sheet.proofs.Standing.{has_told, component_holds, chosen_picks, entries_list, number_told}

-- ---- the tests: component k of a sequence, alternative k of a choice, the entries of a list and a whole number, by the names of their types

unfoldable pub is_part : String → ℕ → String → Bool
is_part type k part = eqb (the_rows (row_of type)).kind kinds.sequence & ltb k (the_rows (row_of type)).count & eqb (part_row (row_of type) k) (row_of part)

unfoldable pub is_alternative : String → ℕ → String → Bool
is_alternative type k part = eqb (the_rows (row_of type)).kind kinds.choice & eqb (part_row (row_of type) k) (row_of part)

unfoldable pub is_entry : String → String → Bool
is_entry type entry = eqb (the_rows (row_of type)).kind kinds.list & eqb (entry_row (row_of type)) (row_of entry)

unfoldable pub is_number : String → Bool
is_number type = ltb (the_rows (row_of type)).kind kinds.sequence

-- component or alternative k has this name in source 000
unfoldable pub is_called : String → ℕ → String → Bool
is_called type k name = eqb ((the_rows (row_of type)).first + k) (row_of (type ++ "." ++ name))

-- ---- what they give

module _ (cells : List ℤ) (p : ℕ) {v : Value} {tb : List ℕ} (table : tb ≡ numbers rows) where
  module _ (type : String) (S : Stands cells (row_of type) p v) where
    module _ (k : ℕ) (name : String) (t : T (is_part type k name)) where
      kind_so : (the_rows (row_of type)).kind ≡ kinds.sequence
      unfolding is_part
      kind_so = eqb→eq (the_rows (row_of type)).kind kinds.sequence (first_part (eqb (the_rows (row_of type)).kind kinds.sequence) (ltb k (the_rows (row_of type)).count & eqb (part_row (row_of type) k) (row_of name)) t)

      others : T (ltb k (the_rows (row_of type)).count & eqb (part_row (row_of type) k) (row_of name))
      unfolding is_part
      others = more_parts (eqb (the_rows (row_of type)).kind kinds.sequence) (ltb k (the_rows (row_of type)).count & eqb (part_row (row_of type) k) (row_of name)) t

      among : k < (the_rows (row_of type)).count
      among = ltb→lt k (the_rows (row_of type)).count (first_part (ltb k (the_rows (row_of type)).count) (eqb (part_row (row_of type) k) (row_of name)) others)

      pub part_row_lem : part_row (row_of type) k ≡ row_of name
      part_row_lem = eqb→eq (part_row (row_of type) k) (row_of name) (more_parts (ltb k (the_rows (row_of type)).count) (eqb (part_row (row_of type) k) (row_of name)) others)

      pub part_holds : Holds cells (row_of type) k (parts_of v) (component_at tb (row_of type) k cells p)
      part_holds = component_holds cells (row_of type) p S table kind_so k among

      pub part_has : has_at tb (row_of type) k cells p ≡ has k (parts_of v)
      part_has = has_told cells (row_of type) p S table kind_so k among

    module _ (k : ℕ) (name : String) (t : T (is_alternative type k name)) where
      pub alternative_row : part_row (row_of type) k ≡ row_of name
      unfolding is_alternative
      alternative_row = eqb→eq (part_row (row_of type) k) (row_of name) (more_parts (eqb (the_rows (row_of type)).kind kinds.choice) (eqb (part_row (row_of type) k) (row_of name)) t)

      pub alternative_picked : Picks cells (row_of type) v (chosen_at tb (row_of type) cells p)
      unfolding is_alternative
      alternative_picked = chosen_picks cells (row_of type) p S table (eqb→eq (the_rows (row_of type)).kind kinds.choice (first_part (eqb (the_rows (row_of type)).kind kinds.choice) (eqb (part_row (row_of type) k) (row_of name)) t))

    module _ (name : String) (t : T (is_entry type name)) where
      pub entry_row_lem : entry_row (row_of type) ≡ row_of name
      unfolding is_entry
      entry_row_lem = eqb→eq (entry_row (row_of type)) (row_of name) (more_parts (eqb (the_rows (row_of type)).kind kinds.list) (eqb (entry_row (row_of type)) (row_of name)) t)

      pub entries_listed : Lists cells (row_of type) v (entries_at tb (row_of type) cells p)
      unfolding is_entry
      entries_listed = entries_list cells (row_of type) p S table (eqb→eq (the_rows (row_of type)).kind kinds.list (first_part (eqb (the_rows (row_of type)).kind kinds.list) (eqb (entry_row (row_of type)) (row_of name)) t))

    pub number_named : T (is_number type) → (v ≡ whole (get_or cells p (pos 0))) × (p < length cells)
    unfolding is_number
    number_named t = number_told cells (row_of type) p S (ltb→lt (the_rows (row_of type)).kind kinds.sequence t)

-- ---- the trial: from a map to the phases of its connections and movements, and from an RSM to the ptcId of its participants

pub trial : T (
    is_alternative "MessageFrame" 1 "MapData" & is_called "MessageFrame" 1 "mapFrame"
    & is_part "MapData" 2 "NodeList" & is_called "MapData" 2 "nodes"
    & is_entry "NodeList" "Node"
    & is_part "Node" 1 "NodeReferenceID" & is_called "Node" 1 "id"
    & is_part "NodeReferenceID" 0 "RoadRegulatorID" & is_called "NodeReferenceID" 0 "region"
    & is_number "RoadRegulatorID"
    & is_part "NodeReferenceID" 1 "NodeID" & is_called "NodeReferenceID" 1 "id"
    & is_number "NodeID"
    & is_part "Node" 3 "LinkList" & is_called "Node" 3 "inLinks"
    & is_entry "LinkList" "Link"
    & is_part "Link" 5 "MovementList" & is_called "Link" 5 "movements"
    & is_entry "MovementList" "Movement"
    & is_part "Movement" 1 "PhaseID" & is_called "Movement" 1 "phaseId"
    & is_part "Link" 6 "LaneList" & is_called "Link" 6 "lanes"
    & is_entry "LaneList" "Lane"
    & is_part "Lane" 4 "ConnectsToList" & is_called "Lane" 4 "connectsTo"
    & is_entry "ConnectsToList" "Connection"
    & is_part "Connection" 2 "PhaseID" & is_called "Connection" 2 "phaseId"
    & is_number "PhaseID"
    & is_alternative "MessageFrame" 2 "RoadsideSafetyMessage" & is_called "MessageFrame" 2 "rsmFrame"
    & is_part "RoadsideSafetyMessage" 3 "ParticipantList" & is_called "RoadsideSafetyMessage" 3 "participants"
    & is_entry "ParticipantList" "ParticipantData"
    & is_part "ParticipantData" 1 "type of ParticipantData.ptcId" & is_called "ParticipantData" 1 "ptcId"
    & is_number "type of ParticipantData.ptcId")
unfolding rows is_part is_alternative is_entry is_number is_called
trial = tt
