-- What the check of a signal message against a map means, apart from any loop (document 02, A7): sentences with "for all" and "there is".
use Rattle.std.specs.Prelude.{ℕ, ◌<◌, ◌≡◌, true, ◌⊎◌, List, ℤ}
use Rattle.answers.specs.GivenBack as given
use Rattle.answers.specs.declared.Refusal.{Refusal}
use Rattle.meaning.specs.Values.{Value, Parts, Values}
use Rattle.sheet.specs.Values.{has, part, parts_of, entries}
use Rattle.messages.specs.Message.{number_of, message, no_message, message_in, map_frame, spat_frame}
use Rattle.messages.specs.Places.{At, Repeats, Entry}
use Rattle.signals.specs.Components.{intersections, intersection_id, phases, phase_id, nodes, node_id, in_links, movements, lanes, movement_phase, connects_to, connection_phase}
use Rattle.signals.specs.References.{reference_at}
use Rattle.signals.specs.Phases.{node_phases}
use Rattle.signals.specs.Signal.{verdict, agrees, signal_references}
use Rattle.signals.specs.Verdict.{Verdict}

-- component k of a movement or a connection, its phaseId, is there and is p
abbrev pub Names : ℕ → Value → ℕ → Type 0
Names k turn p = (has k (parts_of turn) ≡ true) × (number_of (part k (parts_of turn)) ≡ p)

-- "used by a movement .. of that node's incoming links"
abbrev pub ByMovement : Parts → ℕ → Type 0
ByMovement node p = (l : ℕ) × (link : Value) × Entry l link (entries in_links node)
    × (m : ℕ) × (movement : Value) × Entry m movement (entries movements (parts_of link)) × Names movement_phase movement p

-- "or a connection"
abbrev pub ByConnection : Parts → ℕ → Type 0
ByConnection node p = (l : ℕ) × (link : Value) × Entry l link (entries in_links node)
    × (n : ℕ) × (lane : Value) × Entry n lane (entries lanes (parts_of link))
    × (m : ℕ) × (connection : Value) × Entry m connection (entries connects_to (parts_of lane)) × Names connection_phase connection p

abbrev pub Uses : Parts → ℕ → Type 0
Uses node p = ByMovement node p ⊎ ByConnection node p

-- "listed in that entry"
abbrev pub Lists : Parts → ℕ → Type 0
Lists entry p = (i : ℕ) × (phase : Value) × Entry i phase (entries phases entry) × (number_of (part phase_id (parts_of phase)) ≡ p)

-- an entry of the signal message is that of a node: "equal region and id, a missing region equal only to a missing one"
abbrev pub Belongs : Value → Value → Type 0
Belongs node entry = reference_at node_id (parts_of node) ≡ reference_at intersection_id (parts_of entry)

-- "For each node in the map that has an entry in the signal message .., every phase number other than 0 used .. must be listed in that entry"
abbrev pub Agree : Values → Values → Type 0
Agree signal map =
    (i : ℕ) (node : Value) → Entry i node map → (j : ℕ) (entry : Value) → Entry j entry signal → Belongs node entry
    → (p : ℕ) → ¬ (p ≡ 0) → Uses (parts_of node) p → Lists (parts_of entry) p

-- node n of a map is the first that uses a phase which its entry does not list, and p the first such phase in map order
pub record FirstUnlisted (signal map : Values) (n p : ℕ) : Type 0 where
  pub node : Value
  pub is_node : Entry n node map
  pub at_entry : ℕ
  pub entry : Value
  pub is_entry : Entry at_entry entry signal
  pub belongs : Belongs node entry
  -- where the phase stands among those that the node uses
  pub place : ℕ
  pub used : At place p (node_phases (parts_of node))
  pub some : ¬ (p ≡ 0)
  pub unlisted : Lists (parts_of entry) p → ⊥
  -- no phase before it in that node fails, and no node before it
  pub earlier_phases : (k q : ℕ) → k < place → At k q (node_phases (parts_of node)) → ¬ (q ≡ 0) → Lists (parts_of entry) q
  pub earlier_nodes : (m : ℕ) (other : Value) → m < n → Entry m other map → (j : ℕ) (its : Value) → Entry j its signal → Belongs other its → (q : ℕ) → ¬ (q ≡ 0) → Uses (parts_of other) q → Lists (parts_of its) q

-- no two entries of a signal message have equal region and id
abbrev pub Differ : Values → Type 0
Differ signal = (k : ℕ) → Repeats k (signal_references signal) → ⊥

-- ---- the numbers, exactly when: each verdict with what holds of the two sheets

pub data SignalSays (signal map : List ℤ) : Verdict → Type 0 where
  no_signal : {why : Refusal} → message_in signal ≡ no_message why → SignalSays signal map (verdict given.no_value 0 0)
  no_map : {kind : ℕ} {spat : Parts} {why : Refusal} → message_in signal ≡ message kind spat → message_in map ≡ no_message why → SignalSays signal map (verdict given.no_value 1 0)
  not_the_two : {kind other : ℕ} {spat mapped : Parts} → message_in signal ≡ message kind spat → message_in map ≡ message other mapped → ¬ ((kind ≡ spat_frame) × (other ≡ map_frame)) → SignalSays signal map (verdict given.no_spat_and_map 0 0)
  repeats : {spat mapped : Parts} {n : ℕ} → message_in signal ≡ message spat_frame spat → message_in map ≡ message map_frame mapped
      → Repeats n (signal_references (entries intersections spat)) → ((k : ℕ) → k < n → Repeats k (signal_references (entries intersections spat)) → ⊥)
      → SignalSays signal map (verdict given.repeated_signal n 0)
  fails : {spat mapped : Parts} {n p : ℕ} → message_in signal ≡ message spat_frame spat → message_in map ≡ message map_frame mapped
      → Differ (entries intersections spat) → FirstUnlisted (entries intersections spat) (entries nodes mapped) n p
      → SignalSays signal map (verdict given.phase_not_listed n p)
  passes : {spat mapped : Parts} → message_in signal ≡ message spat_frame spat → message_in map ≡ message map_frame mapped
      → Differ (entries intersections spat) → Agree (entries intersections spat) (entries nodes mapped)
      → SignalSays signal map agrees
