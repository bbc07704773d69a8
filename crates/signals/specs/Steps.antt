-- What the private functions of the check answer: references as one number, the phases of entries as flags, and the phases that are used and not listed.
use Rattle.std.specs.Prelude.{ℕ, suc, ◌+◌, ◌*◌, ◌<◌, ◌≤◌, ◌≡◌, Bool, false, ◌||◌, ◌⊎◌, List, [], Option, Some, None, ℤ, eqb, get_or}
use Rattle.types.specs.Kinds as kinds
use Rattle.types.specs.Table.{the_rows}
use Rattle.meaning.specs.Values.{Value, Parts, Values}
use Rattle.meaning.specs.Values.Values.{no_items, item}
use Rattle.sheet.specs.Values.{parts_of}
use Rattle.sheet.specs.Standing.{Stands, part_row, entry_row}
use Rattle.sheet.specs.declared.Listing.{Listing}
use Rattle.messages.specs.Message.{message_frame, map_frame, spat_frame}
use Rattle.signals.specs.Components.{intersections, intersection_id, phases, nodes, in_links, movements, lanes, movement_phase, connects_to, connection_phase}
use Rattle.messages.specs.Taking.{many}
use Rattle.messages.specs.Repeats.{among, first_repeat, repeated, nowhere}
use Rattle.signals.specs.References.{Reference, alone, within, same, reference_at}
use Rattle.signals.specs.Signal.{first_unlisted, listed_in, signal_references}

-- ---- a reference as one number

-- the row of NodeReferenceID in the type table
abbrev pub reference_row : ℕ
reference_row = 111

-- how many ids and how many regions there are
abbrev pub room : ℕ
room = 65536

abbrev pub key_of : Reference → ℕ
key_of (alone i) = i
key_of (within q i) = (q + 1) * room + i

-- both in their range, so that no two references have one number
abbrev pub Small : Reference → Type 0
Small (alone i) = i < room
Small (within q i) = (q < room) × (i < room)

-- component k of a row is a reference
pub record Refers (row k : ℕ) : Type 0 where
  pub sequence : (the_rows row).kind ≡ kinds.sequence
  pub holds : k < (the_rows row).count
  pub refers : part_row row k ≡ reference_row

-- its key, and that it is in its range
pub record Keyed (k : ℕ) (parts : Parts) (r : ℕ) : Type 0 where
  pub is : r ≡ key_of (reference_at k parts)
  pub small : Small (reference_at k parts)

-- ---- the phases that entries list, as flags: 256 for each entry

abbrev pub flags_each : ℕ
flags_each = 256

-- from a place on, the flags say which phases are listed
abbrev pub Flagged : List Bool → ℕ → (ℕ → Bool) → Type 0
Flagged flags from listed = (p : ℕ) → p < flags_each → listed p ≡ get_or flags (from + p) false

-- behind the listing of these phases the flags from a place on say so of each of them, and all others are as they were
pub record Marked (from : ℕ) (listed : List ℕ) (before after : List Bool) : Type 0 where
  pub own : (p : ℕ) → p < flags_each → get_or after (from + p) false ≡ (among eqb p listed || get_or before (from + p) false)
  pub others : (k : ℕ) → (k < from) ⊎ (from + flags_each ≤ k) → get_or after k false ≡ get_or before k false

-- the entries from entry i on: the key of each, and its flags
abbrev pub Filed : List ℕ → List Bool → ℕ → Values → Type 0
Filed keys flags i no_items = Unit {0}
Filed keys flags i (item v more) =
    (get_or keys i 0 ≡ key_of (reference_at intersection_id (parts_of v)))
    × Small (reference_at intersection_id (parts_of v))
    × Flagged flags (flags_each * i) (listed_in (parts_of v))
    × Filed keys flags (suc i) more

-- what is known behind the signal entries: where one repeats an earlier one, which; else the keys and the flags of all
abbrev pub Again : Values → ℕ → Type 0
Again signal i = first_repeat same [] 0 (signal_references signal) ≡ repeated i

pub record Gathered (signal : Values) (count : ℕ) (keys : List ℕ) (flags : List Bool) : Type 0 where
  pub differ : first_repeat same [] 0 (signal_references signal) ≡ nowhere
  pub all : many signal ≡ count
  pub filed : Filed keys flags 0 signal

-- ---- the phases that are used and not listed

-- the flags of one entry say which phases it lists
abbrev pub Flags : List Bool → (ℕ → Bool) → Type 0
Flags flags listed = (p : ℕ) → p < flags_each → listed p ≡ get_or flags p false

-- a phase is what was found; none where it is 0
abbrev pub Found : Option ℕ → ℕ → Type 0
Found (Some phase) n = (n ≡ phase) × ¬ (phase ≡ 0)
Found None n = n ≡ 0

-- what a call answers of the place of an entry is the first phase that the entry uses and that is not listed
abbrev pub Finds : (ℕ → Option ℕ → Type 0) → List ℤ → Listing → ℕ → (ℕ → Bool) → (Parts → List ℕ) → Type 0
Finds answers cells list row listed uses =
    (place : ℕ) (v : Value) (phase : Option ℕ) → list.row ≡ row → Stands cells row place v → answers place phase → Found phase (first_unlisted listed (uses (parts_of v)))

-- ---- the rows of the types

abbrev pub spat_row : ℕ
spat_row = part_row message_frame spat_frame

abbrev pub signal_row : ℕ
signal_row = entry_row (part_row spat_row intersections)

abbrev pub phase_row : ℕ
phase_row = entry_row (part_row signal_row phases)

abbrev pub map_row : ℕ
map_row = part_row message_frame map_frame

abbrev pub node_row : ℕ
node_row = entry_row (part_row map_row nodes)

abbrev pub link_row : ℕ
link_row = entry_row (part_row node_row in_links)

abbrev pub movement_row : ℕ
movement_row = entry_row (part_row link_row movements)

abbrev pub lane_row : ℕ
lane_row = entry_row (part_row link_row lanes)

abbrev pub connection_row : ℕ
connection_row = entry_row (part_row lane_row connects_to)

-- component k of a row is the phase of a movement or of a connection
abbrev pub IsTurn : ℕ → ℕ → Type 0
IsTurn row k = ((row ≡ movement_row) × (k ≡ movement_phase)) ⊎ ((row ≡ connection_row) × (k ≡ connection_phase))
