-- What the type table says of the types that the check goes through: which components are lists, numbers or references.
-- Assumes nothing.
use Prim.Native.Nat.{ℕ, ◌<◌}
use native.Mathlib.Omega.{arith}
use mathlib.Core.Path.{◌≡◌, refl}
use mathlib.Core.Logic.{inl, inr}
use lib.Dec.{T}
use Rattle.types.specs.Rows.{rows}
use Rattle.types.specs.Table.{the_rows}
use Rattle.sheet.specs.Standing.{part_row}
use Rattle.messages.proofs.Entries.{is_list}
use Rattle.messages.proofs.Figures.{is_figure}
use Rattle.messages.proofs.Few.{most}
use Rattle.signals.specs.Components.{intersections, intersection_id, phases, phase_id, nodes, node_id, in_links, region, local_id, movements, lanes, movement_phase, connects_to, connection_phase}
use Rattle.signals.specs.Steps.{reference_row, Refers, IsTurn, spat_row, signal_row, phase_row, map_row, node_row, link_row, movement_row, lane_row, connection_row}

-- ---- lists

pub intersections_list : T (is_list spat_row intersections)
unfolding rows is_list
intersections_list = tt

pub phases_list : T (is_list signal_row phases)
unfolding rows is_list
phases_list = tt

pub nodes_list : T (is_list map_row nodes)
unfolding rows is_list
nodes_list = tt

pub links_list : T (is_list node_row in_links)
unfolding rows is_list
links_list = tt

pub movements_list : T (is_list link_row movements)
unfolding rows is_list
movements_list = tt

pub lanes_list : T (is_list link_row lanes)
unfolding rows is_list
lanes_list = tt

pub connections_list : T (is_list lane_row connects_to)
unfolding rows is_list
connections_list = tt

-- ---- numbers

pub phase_figure : T (is_figure 255 phase_row phase_id)
unfolding rows is_figure
phase_figure = tt

pub movement_figure : T (is_figure 255 movement_row movement_phase)
unfolding rows is_figure
movement_figure = tt

pub connection_figure : T (is_figure 255 connection_row connection_phase)
unfolding rows is_figure
connection_figure = tt

pub region_figure : T (is_figure 65535 reference_row region)
unfolding rows is_figure
region_figure = tt

pub id_figure : T (is_figure 65535 reference_row local_id)
unfolding rows is_figure
id_figure = tt

-- of a movement or a connection
pub turn_figure : (row k : ℕ) → IsTurn row k → T (is_figure 255 row k)
turn_figure row k (inl (er, ek)) = rw (er, ek) movement_figure
turn_figure row k (inr (er, ek)) = rw (er, ek) connection_figure

-- ---- references

pub signal_refers : Refers signal_row intersection_id
unfolding rows
signal_refers = record { sequence = refl; holds = omega arith; refers = refl }

pub node_refers : Refers node_row node_id
unfolding rows
node_refers = record { sequence = refl; holds = omega arith; refers = refl }

-- ---- rows that the table has

pub phase_known : phase_row < 414
unfolding rows
phase_known = omega arith

pub signal_known : signal_row < 414
unfolding rows
signal_known = omega arith

pub node_known : node_row < 414
unfolding rows
node_known = omega arith

pub link_known : link_row < 414
unfolding rows
link_known = omega arith

pub movement_known : movement_row < 414
unfolding rows
movement_known = omega arith

pub lane_known : lane_row < 414
unfolding rows
lane_known = omega arith

pub connection_known : connection_row < 414
unfolding rows
connection_known = omega arith

-- a signal message has at most 32 entries
pub few_intersections : most (the_rows (part_row spat_row intersections)) ≡ 32
unfolding rows
few_intersections = refl
