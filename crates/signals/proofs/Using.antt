-- The list of the phases of a node has just those that the node uses, and the list of an entry just those that it lists.
-- Assumes nothing.
use Prim.Native.Nat.{ℕ, zero, suc}
use mathlib.Core.Path.{◌≡◌, refl, sym, subst}
use mathlib.Core.Bool.{Bool, true, false, cond}
use mathlib.Core.Logic.{◌⊎◌, inl, inr}
use mathlib.Core.List.{List, [], ◌∷◌}
use borrow.Author.Tests.{eqb-true, eq-eqb}
use lib.Dec.{eqb}
use Rattle.meaning.specs.Values.{Value, Parts, Values, no_items, item}
use Rattle.sheet.specs.Values.{has, part, parts_of, entries}
use Rattle.messages.specs.Message.{number_of, each}
use Rattle.messages.specs.Places.{At, Somewhere, Entry}
use Rattle.messages.proofs.Places.{in_first, in_second, in_either, entry_at, at_entry}
use Rattle.messages.proofs.Repeats.{among_somewhere, somewhere_among}
use Rattle.signals.specs.Components.{phases, in_links, movements, lanes, movement_phase, connects_to, connection_phase}
use Rattle.signals.specs.Phases.{gathered, phase_at, lane_phases, link_phases, node_phases, listed_phase, listed_phases}
use Rattle.signals.specs.Signal.{listed_in}
use Rattle.signals.specs.Sentences.{Names, Uses, Lists}

-- ---- entries, one by one

abbrev Of : {A : Type 0} → (Parts → List A) → A → Values → Type 0
Of f a vs = (i : ℕ) × (v : Value) × Entry i v vs × Somewhere a (f (parts_of v))

module _ {A : Type 0} (f : Parts → List A) (a : A) where
  pub gathered_of : (vs : Values) → Somewhere a (gathered f vs) → Of f a vs
  unfolding gathered
  gathered_of no_items (i, s) = absurd s
  gathered_of (item v more) s = go (in_either a (f (parts_of v)) (gathered f more) s) (gathered_of more)
    where
      go : Somewhere a (f (parts_of v)) ⊎ Somewhere a (gathered f more) → (Somewhere a (gathered f more) → Of f a more) → Of f a (item v more)
      go (inl t) later = (0, v, refl, t)
      go (inr t) later = let r = later t in (suc r.0, r.1, r.2, r.3)

  pub of_gathered : (vs : Values) → Of f a vs → Somewhere a (gathered f vs)
  unfolding gathered
  of_gathered no_items (i, v, e, s) = absurd e
  of_gathered (item w more) (zero, v, e, s) = in_first a (f (parts_of w)) (gathered f more) (subst (λ (x : Value). Somewhere a (f (parts_of x))) e s)
  of_gathered (item w more) (suc i, v, e, s) = in_second a (f (parts_of w)) (gathered f more) (of_gathered more (i, v, e, s))

-- ---- a movement or a connection

phase_names : (k : ℕ) (turn : Value) (p : ℕ) → Somewhere p (phase_at k (parts_of turn)) → Names k turn p
unfolding phase_at
phase_names k turn p s = go (has k (parts_of turn)) refl s
  where
    go : (b : Bool) → has k (parts_of turn) ≡ b → Somewhere p (cond b (number_of (part k (parts_of turn)) ∷ []) []) → Names k turn p
    go true e (zero, t) = (e, sym t)
    go true e (suc i, t) = absurd t
    go false e (i, t) = absurd t

names_phase : (k : ℕ) (turn : Value) (p : ℕ) → Names k turn p → Somewhere p (phase_at k (parts_of turn))
unfolding phase_at
names_phase k turn p (e, n) = rw e (0, sym n)

-- ---- a node

module _ (node : Parts) (p : ℕ) where
  pub phases_used : Somewhere p (node_phases node) → Uses node p
  unfolding node_phases link_phases lane_phases
  phases_used s = by_link (gathered_of link_phases p (entries in_links node) s)
    where
      by_link : Of link_phases p (entries in_links node) → Uses node p
      by_link (l, link, e, t) = go (in_either p (gathered (phase_at movement_phase) (entries movements (parts_of link))) (gathered lane_phases (entries lanes (parts_of link))) t)
        where
          go : Somewhere p (gathered (phase_at movement_phase) (entries movements (parts_of link))) ⊎ Somewhere p (gathered lane_phases (entries lanes (parts_of link))) → Uses node p
          go (inl u) = let M = gathered_of (phase_at movement_phase) p (entries movements (parts_of link)) u in inl (l, link, e, M.0, M.1, M.2, phase_names movement_phase M.1 p M.3)
          go (inr u) =
              let L = gathered_of lane_phases p (entries lanes (parts_of link)) u in
              let C = gathered_of (phase_at connection_phase) p (entries connects_to (parts_of L.1)) L.3 in
              inr (l, link, e, L.0, L.1, L.2, C.0, C.1, C.2, phase_names connection_phase C.1 p C.3)

  pub used_phases : Uses node p → Somewhere p (node_phases node)
  unfolding node_phases link_phases lane_phases
  used_phases (inl (l, link, e, m, movement, f, n)) =
      of_gathered link_phases p (entries in_links node) (
        l,
        link,
        e,
        in_first p (gathered (phase_at movement_phase) (entries movements (parts_of link))) (gathered lane_phases (entries lanes (parts_of link)))
            (of_gathered (phase_at movement_phase) p (entries movements (parts_of link)) (m, movement, f, names_phase movement_phase movement p n)),
      )
  used_phases (inr (l, link, e, i, lane, g, m, connection, f, n)) =
      of_gathered link_phases p (entries in_links node) (
        l,
        link,
        e,
        in_second p (gathered (phase_at movement_phase) (entries movements (parts_of link))) (gathered lane_phases (entries lanes (parts_of link)))
            (of_gathered lane_phases p (entries lanes (parts_of link))
            (i, lane, g, of_gathered (phase_at connection_phase) p (entries connects_to (parts_of lane)) (m, connection, f, names_phase connection_phase connection p n))),
      )

-- ---- a signal entry

module _ (entry : Parts) (p : ℕ) where
  pub listed_lists : listed_in entry p ≡ true → Lists entry p
  unfolding listed_phases
  listed_lists e =
      let s = among_somewhere eqb eqb-true (λ n. eq-eqb n n refl) p (each listed_phase (entries phases entry)) e in
      let t = at_entry listed_phase s.0 p (entries phases entry) s.1 in
      (s.0, t.0, t.1, t.2)

  pub lists_listed : Lists entry p → listed_in entry p ≡ true
  unfolding listed_phases
  lists_listed (i, phase, e, n) =
      somewhere_among eqb eqb-true (λ n. eq-eqb n n refl) i p (each listed_phase (entries phases entry))
      (subst (λ (q : ℕ). At i q (each listed_phase (entries phases entry))) n (entry_at listed_phase i phase (entries phases entry) e))
