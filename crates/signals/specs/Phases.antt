-- The phases that a node of a map uses, in map order, which is the order of the cells, and those that a signal entry lists (document 02, A7).
use Rattle.std.specs.Prelude.{ℕ, cond, List, [], ◌∷◌, ◌++◌}
use Rattle.meaning.specs.Values.{Parts, Values}
use Rattle.meaning.specs.Values.Values.{no_items, item}
use Rattle.sheet.specs.Values.{has, part, parts_of, entries}
use Rattle.messages.specs.Message.{number_of, each}
use Rattle.signals.specs.Components.{phases, phase_id, in_links, movements, lanes, movement_phase, connects_to, connection_phase}

-- of each entry of a list several, one behind the other
unfoldable pub gathered : {A : Type 0} → (Parts → List A) → Values → List A
gathered f no_items = []
gathered f (item v more) = f (parts_of v) ++ gathered f more

-- ---- used: "by a movement or a connection of that node's incoming links"

-- the phase of a movement or a connection, which is its component k; none where that is absent
unfoldable pub phase_at : ℕ → Parts → List ℕ
phase_at k turn = cond (has k turn) (number_of (part k turn) ∷ []) []

unfoldable pub lane_phases : Parts → List ℕ
lane_phases lane = gathered (phase_at connection_phase) (entries connects_to lane)

-- the movements stand before the lanes
unfoldable pub link_phases : Parts → List ℕ
link_phases link = gathered (phase_at movement_phase) (entries movements link) ++ gathered lane_phases (entries lanes link)

unfoldable pub node_phases : Parts → List ℕ
node_phases node = gathered link_phases (entries in_links node)

-- ---- listed

abbrev pub listed_phase : Parts → ℕ
listed_phase phase = number_of (part phase_id phase)

unfoldable pub listed_phases : Parts → List ℕ
listed_phases entry = each listed_phase (entries phases entry)
