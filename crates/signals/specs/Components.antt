-- The components that the check of the signal message names, counted from 0 in written order (source 000). crates/signals/src/lib.rt has the same
-- names for the code.
use Rattle.std.specs.Prelude.{ℕ}

-- of SPAT (5.2.2.5), IntersectionState (5.2.3.9) and Phase (5.2.3.30)
abbrev pub intersections : ℕ
intersections = 4

abbrev pub intersection_id : ℕ
intersection_id = 0

abbrev pub phases : ℕ
phases = 5

abbrev pub phase_id : ℕ
phase_id = 0

-- of MapData (5.2.2.2), Node (5.2.3.20) and NodeReferenceID (5.2.3.22)
abbrev pub nodes : ℕ
nodes = 2

abbrev pub node_id : ℕ
node_id = 1

abbrev pub in_links : ℕ
in_links = 3

abbrev pub region : ℕ
region = 0

abbrev pub local_id : ℕ
local_id = 1

-- of Link (5.2.3.15), Movement (5.2.3.18), Lane (5.2.3.11) and Connection (5.2.3.4)
abbrev pub movements : ℕ
movements = 5

abbrev pub lanes : ℕ
lanes = 6

abbrev pub movement_phase : ℕ
movement_phase = 1

abbrev pub connects_to : ℕ
connects_to = 4

abbrev pub connection_phase : ℕ
connection_phase = 2
