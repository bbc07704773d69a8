-- The signal message against the map (document 02, A7; source 004, 6.3.2.2.2 a) 2)), over the values of the two messages.
use Rattle.std.specs.Prelude.{ℕ, suc, Bool, cond, ◌||◌, ◌&&◌, List, [], ◌∷◌, ℤ, eqb}
use Rattle.answers.specs.GivenBack as given
use Rattle.meaning.specs.Values.{Parts, Values}
use Rattle.meaning.specs.Values.Values.{no_items, item}
use Rattle.sheet.specs.Values.{parts_of, entries}
use Rattle.messages.specs.Message.{Message, message, no_message, message_in, map_frame, spat_frame, each}
use Rattle.messages.specs.Taking.{many}
use Rattle.messages.specs.Repeats.{Repeat, repeated, nowhere, among, first_repeat}
use Rattle.signals.specs.Components.{intersections, intersection_id, nodes, node_id}
use Rattle.signals.specs.References.{Reference, same, reference_at}
use Rattle.signals.specs.Phases.{node_phases, listed_phases}
use Rattle.signals.specs.Verdict.{Verdict}
use Rattle.answers.specs.Reasons.{reason_number}

-- number, node and phase, "0 where none is meant"
abbrev pub verdict : ℕ → ℕ → ℕ → Verdict
verdict number node phase = record { number = number; node = node; phase = phase }

abbrev pub agrees : Verdict
agrees = verdict given.done 0 0

-- ---- a node: the first phase that it uses and that is not listed, or 0

-- "every phase number other than 0 .. must be listed": the first of these that is neither 0 nor listed; 0 where there is none
unfoldable pub first_unlisted : (ℕ → Bool) → List ℕ → ℕ
first_unlisted listed [] = 0
first_unlisted listed (p ∷ more) = cond (eqb p 0 || listed p) (first_unlisted listed more) p

-- listed in an entry
abbrev pub listed_in : Parts → ℕ → Bool
listed_in entry p = among eqb p (listed_phases entry)

-- "listed in that entry": of the phases of the node with this reference; 0 where no entry has it, as the node is not judged
unfoldable pub unlisted_in : Reference → List ℕ → Values → ℕ
unlisted_in node used no_items = 0
unlisted_in node used (item v more) = cond (same node (reference_at intersection_id (parts_of v))) (first_unlisted (listed_in (parts_of v)) used) (unlisted_in node used more)

abbrev pub node_unlisted : Values → Parts → ℕ
node_unlisted signal node = unlisted_in (reference_at node_id node) (node_phases node) signal

-- ---- 52: the first node, counted from i, that uses a phase which is not listed, and the first such phase

unfoldable pub first_node : Values → ℕ → Values → Verdict
first_node signal i no_items = agrees
first_node signal i (item v more) = cond (eqb (node_unlisted signal (parts_of v)) 0) (first_node signal (suc i) more) (verdict given.phase_not_listed i (node_unlisted signal (parts_of v)))

-- ---- 51: "the first signal entry that repeats an earlier one"

abbrev pub signal_references : Values → List Reference
signal_references signal = each (reference_at intersection_id) signal

unfoldable pub unless_repeated : Repeat → Verdict → Verdict
unless_repeated (repeated i) behind = verdict given.repeated_signal i 0
unless_repeated nowhere behind = behind

-- the entries of a signal message and the nodes of a map: 51, then 52
unfoldable pub judged : Values → Values → Verdict
judged signal map = unless_repeated (first_repeat same [] 0 (signal_references signal)) (first_node signal 0 map)

-- ---- two sheets of type 0, however long their bytes would be: 7 for the signal sheet (node 0), 7 for the map sheet (node 1), 50

unfoldable pub against : Message → Message → Verdict
against (no_message why) map = verdict (reason_number why.reason) 0 0
against (message kind spat) (no_message why) = verdict (reason_number why.reason) 1 0
against (message kind spat) (message other map) = cond (eqb kind spat_frame && eqb other map_frame) (judged (entries intersections spat) (entries nodes map)) (verdict given.no_spat_and_map 0 0)

unfoldable pub signal_verdict : List ℤ → List ℤ → Verdict
signal_verdict signal map = against (message_in signal) (message_in map)

-- ---- the nodes of a map

unfoldable pub nodes_of : Message → ℕ
nodes_of (no_message why) = 0
nodes_of (message kind parts) = cond (eqb kind map_frame) (many (entries nodes parts)) 0

-- how many there are in a sheet of type 0; 0 where it is no MAP, as every MAP has one
unfoldable pub nodes_in : List ℤ → ℕ
nodes_in sheet = nodes_of (message_in sheet)
