-- The check of a signal message against a map is what the sentences say of it (document 02, A7): of any two sheets the verdict is one of which the
-- sentence holds, and no other verdict has one that holds.
-- Assumes nothing.
use Prim.Native.Nat.{ℕ, ◌+◌, ◌<◌}
use native.Mathlib.Decide.{dec_lt}
use native.Mathlib.Nat.{zero-add}
use native.Mathlib.Omega.{arith}
use mathlib.Core.Path.{◌≡◌, refl, sym, ap, ap₂, subst, ◌∙◌}
use mathlib.Core.Bool.{Bool, true, false, cond, ◌&&◌}
use mathlib.Core.Logic.{◌⊎◌, inl, inr}
use mathlib.Core.List.{List, []}
use borrow.Author.Tests.{eqb-true, eqb-false}
use lib.Dec.{T, eqb}
use lib.IntN.{ℤ}
use Rattle.answers.specs.GivenBack as given
use Rattle.meaning.specs.Values.{Value, Parts, Values}
use Rattle.types.specs.Names.{row_of}
use Rattle.types.specs.Rows.{rows}
use Rattle.types.specs.Rule.{◌&◌}
use Rattle.sheet.specs.Values.{parts_of, entries}
use Rattle.sheet.proofs.Named.{is_called}
use Rattle.messages.specs.Message.{message_frame, map_frame, spat_frame, Message, message, no_message, message_in}
use Rattle.messages.specs.Places.{Repeats, Entry}
use Rattle.messages.specs.Repeats.{Repeat, repeated, nowhere, first_repeat}
use Rattle.messages.proofs.Places.{entry_same}
use Rattle.messages.proofs.Repeats.{first_repeats, none_repeats, only_repeats, only_nowhere}
use Rattle.messages.proofs.Frames.{no_message_number}
use Rattle.signals.specs.Components.{intersections, intersection_id, phases, phase_id, nodes, node_id, in_links, region, local_id, movements, lanes, movement_phase, connects_to, connection_phase}
use Rattle.signals.specs.References.{same, reference_at}
use Rattle.signals.specs.Phases.{node_phases}
use Rattle.signals.specs.Signal.{verdict, agrees, first_unlisted, listed_in, node_unlisted, first_node, signal_references, unless_repeated, judged, against, signal_verdict}
use Rattle.signals.specs.Sentences.{Uses, Lists, Belongs, Agree, FirstUnlisted, Differ, SignalSays}
use Rattle.signals.specs.Sentences.SignalSays.{no_signal, no_map, not_the_two, repeats, fails, passes}
use Rattle.signals.specs.Steps.{reference_row}
use Rattle.signals.specs.Verdict.{Verdict}
use Rattle.signals.proofs.Keys.{same_is, is_same}
use Rattle.signals.proofs.Using.{phases_used, used_phases, listed_lists, lists_listed}
use Rattle.signals.proofs.Judging.{Unlisted, none_unlisted, first_unlisted_lem, only_unlisted, entry_decides, some_entry, Failing, AllListed, FailsFrom, first_node_lem}

-- ---- the entries of a signal message, and one node

module _ (signal : Values) (differ : Differ signal) (node : Value) where
  abbrev used : List ℕ
  used = node_phases (parts_of node)

  decides : (j : ℕ) (entry : Value) → Entry j entry signal → Belongs node entry → node_unlisted signal (parts_of node) ≡ first_unlisted (listed_in (parts_of entry)) used
  decides j entry e is = entry_decides (reference_at node_id (parts_of node)) used signal differ j entry e is

  -- a node that passes has all its phases listed
  node_agrees : node_unlisted signal (parts_of node) ≡ 0 → (j : ℕ) (entry : Value) → Entry j entry signal → Belongs node entry → (p : ℕ) → ¬ (p ≡ 0) → Uses (parts_of node) p → Lists (parts_of entry) p
  node_agrees z j entry e is p some uses =
      let s = used_phases (parts_of node) p uses in
      listed_lists (parts_of entry) p (none_unlisted (listed_in (parts_of entry)) used (sym (decides j entry e is) ∙ z) s.0 p s.1 some)

  -- and one that has, passes
  agrees_node : ((j : ℕ) (entry : Value) → Entry j entry signal → Belongs node entry → (p : ℕ) → ¬ (p ≡ 0) → Uses (parts_of node) p → Lists (parts_of entry) p) → node_unlisted signal (parts_of node) ≡ 0
  agrees_node all = go (eqb (node_unlisted signal (parts_of node)) 0) refl
    where
      go : (b : Bool) → eqb (node_unlisted signal (parts_of node)) 0 ≡ b → node_unlisted signal (parts_of node) ≡ 0
      go true e = eqb-true (node_unlisted signal (parts_of node)) 0 e
      go false e =
          let isnt = eqb-false (node_unlisted signal (parts_of node)) 0 e in
          let E = some_entry (reference_at node_id (parts_of node)) used signal isnt in
          let d = decides E.place E.entry E.there E.belongs in
          let U = first_unlisted_lem (listed_in (parts_of E.entry)) used (λ z. isnt (d ∙ z)) in
          let lists = all E.place E.entry E.there E.belongs (first_unlisted (listed_in (parts_of E.entry)) used) U.some (phases_used (parts_of node) (first_unlisted (listed_in (parts_of E.entry)) used) (U.place, U.there)) in
          absurd (let y : ◌≡◌ true false = sym (lists_listed (parts_of E.entry) (first_unlisted (listed_in (parts_of E.entry)) used) lists) ∙ U.unlisted in let z : ◌≡◌ {A = ℕ} 0 1 = cc in omega arith)

-- ---- the nodes of a map

module _ (signal : Values) (differ : Differ signal) (map : Values) where
  all_agree : AllListed signal map → Agree signal map
  all_agree all i node e = node_agrees signal differ node (all i node e)

  agree_all : Agree signal map → AllListed signal map
  agree_all all i node e = agrees_node signal differ node (all i node e)

  not_listed : (entry : Parts) (p : ℕ) → listed_in entry p ≡ false → Lists entry p → ⊥
  not_listed entry p e lists = let y : ◌≡◌ true false = sym (lists_listed entry p lists) ∙ e in let z : ◌≡◌ {A = ℕ} 0 1 = cc in omega arith

  -- the first that fails
  failing_first : (n p : ℕ) → Failing signal map n p → FirstUnlisted signal map n p
  failing_first n p F =
      let isnt : ¬ (node_unlisted signal (parts_of F.node) ≡ 0) = λ z. F.some (sym F.is ∙ z) in
      let E = some_entry (reference_at node_id (parts_of F.node)) (node_phases (parts_of F.node)) signal isnt in
      let d = decides signal differ F.node E.place E.entry E.there E.belongs in
      let U = subst (Unlisted (listed_in (parts_of E.entry)) (node_phases (parts_of F.node))) (sym d ∙ F.is) (first_unlisted_lem (listed_in (parts_of E.entry)) (node_phases (parts_of F.node)) (λ z. isnt (d ∙ z))) in
      record {
        node = F.node;
        is_node = F.there;
        at_entry = E.place;
        entry = E.entry;
        is_entry = E.there;
        belongs = E.belongs;
        place = U.place;
        used = U.there;
        some = U.some;
        unlisted = not_listed (parts_of E.entry) p U.unlisted;
        earlier_phases = λ k q l there other. listed_lists (parts_of E.entry) q (U.first k q l there other);
        earlier_nodes = λ m other l there. node_agrees signal differ other (F.first m other l there);
      }

  -- ---- and the other way round

  is_unlisted : (entry : Parts) (p : ℕ) → (Lists entry p → ⊥) → listed_in entry p ≡ false
  is_unlisted entry p isnt = go (listed_in entry p) refl
    where
      go : (b : Bool) → listed_in entry p ≡ b → b ≡ false
      go true e = absurd (isnt (listed_lists entry p e))
      go false e = refl

  module _ (n p : ℕ) (F : FirstUnlisted signal map n p) where
    first_value : node_unlisted signal (parts_of F.node) ≡ p
    first_value =
        decides signal differ F.node F.at_entry F.entry F.is_entry F.belongs
        ∙ only_unlisted (listed_in (parts_of F.entry)) (node_phases (parts_of F.node)) p
        (record {
          place = F.place;
          there = F.used;
          some = F.some;
          unlisted = is_unlisted (parts_of F.entry) p F.unlisted;
          first = λ k q l there other. lists_listed (parts_of F.entry) q (F.earlier_phases k q l there other);
        })

    first_only : first_node signal 0 map ≡ verdict given.phase_not_listed n p
    first_only = go (first_node_lem signal 0 map)
      where
        by_place : (G : FailsFrom signal 0 map) → Dec (G.place < n) → Dec (n < G.place) → first_node signal 0 map ≡ verdict given.phase_not_listed n p
        by_place G (yes l) d = absurd (G.failing.some (sym G.failing.is ∙ agrees_node signal differ G.failing.node (F.earlier_nodes G.place G.failing.node l G.failing.there)))
        by_place G (no a) (yes l) = absurd (F.some (sym first_value ∙ G.failing.first n F.node l F.is_node))
        by_place G (no a) (no b) =
            let m : G.place ≡ n = omega arith in
            let one : G.failing.node ≡ F.node = entry_same G.place G.failing.node F.node map G.failing.there (subst (λ (k : ℕ). Entry k F.node map) (sym m) F.is_node) in
            let phase : G.phase ≡ p = sym G.failing.is ∙ ap (λ (v : Value). node_unlisted signal (parts_of v)) one ∙ first_value in
            let at : 0 + G.place ≡ n = omega arith in
            G.is ∙ ap₂ (verdict given.phase_not_listed) at phase

        go : ((first_node signal 0 map ≡ agrees) × AllListed signal map) ⊎ FailsFrom signal 0 map → first_node signal 0 map ≡ verdict given.phase_not_listed n p
        go (inl (e, all)) = absurd (F.some (sym first_value ∙ all n F.node F.is_node))
        go (inr G) = by_place G (dec_lt G.place n) (dec_lt n G.place)

  agree_only : Agree signal map → first_node signal 0 map ≡ agrees
  agree_only A = go (first_node_lem signal 0 map)
    where
      go : ((first_node signal 0 map ≡ agrees) × AllListed signal map) ⊎ FailsFrom signal 0 map → first_node signal 0 map ≡ agrees
      go (inl (e, all)) = e
      go (inr G) = absurd (G.failing.some (sym G.failing.is ∙ agree_all A G.place G.failing.node G.failing.there))

-- ---- entries that repeat an earlier one

module _ (signal map : Values) where
  abbrev met : Repeat
  met = first_repeat same [] 0 (signal_references signal)

  by_repeat : (r : Repeat) → met ≡ r → judged signal map ≡ unless_repeated r (first_node signal 0 map)
  unfolding judged
  by_repeat r e = ap (λ (x : Repeat). unless_repeated x (first_node signal 0 map)) e

  repeats_only : (n : ℕ) → Repeats n (signal_references signal) → ((k : ℕ) → k < n → Repeats k (signal_references signal) → ⊥) → judged signal map ≡ verdict given.repeated_signal n 0
  unfolding unless_repeated
  repeats_only n R none = by_repeat (repeated n) (only_repeats same same_is is_same (signal_references signal) n R none)

  differ_only : Differ signal → judged signal map ≡ first_node signal 0 map
  unfolding unless_repeated
  differ_only differ = by_repeat nowhere (only_nowhere same same_is is_same (signal_references signal) differ)

-- ---- two sheets

module _ (signal map : List ℤ) where
  -- a SPAT and a MAP
  module _ {spat mapped : Parts} (S : message_in signal ≡ message spat_frame spat) (M : message_in map ≡ message map_frame mapped) where
    abbrev vs : Values
    vs = entries intersections spat

    abbrev ws : Values
    ws = entries nodes mapped

    are_judged : signal_verdict signal map ≡ judged vs ws
    unfolding signal_verdict against
    are_judged = ap₂ against S M

    -- which of the last three it is
    judged_says : SignalSays signal map (judged vs ws)
    unfolding unless_repeated
    judged_says = by_met (met vs ws) refl
      where
        by_nodes : (differ : Differ vs) → ((first_node vs 0 ws ≡ agrees) × AllListed vs ws) ⊎ FailsFrom vs 0 ws → SignalSays signal map (first_node vs 0 ws)
        by_nodes differ (inl (e, all)) = rw e (passes S M differ (all_agree vs differ ws all))
        by_nodes differ (inr G) = rw (G.is ∙ ap (λ (k : ℕ). verdict given.phase_not_listed k G.phase) (zero-add G.place)) (fails S M differ (failing_first vs differ ws G.place G.phase G.failing))

        by_met : (r : Repeat) → met vs ws ≡ r → SignalSays signal map (judged vs ws)
        by_met (repeated n) e =
            let R = first_repeats same same_is is_same (signal_references vs) n e in
            rw (by_repeat vs ws (repeated n) e) (repeats S M R.0 R.1)
        by_met nowhere e =
            let differ : Differ vs = none_repeats same same_is is_same (signal_references vs) e in
            rw (by_repeat vs ws nowhere e) (by_nodes differ (first_node_lem vs 0 ws))

  -- the verdict of two messages
  against_says : (s m : Message) → message_in signal ≡ s → message_in map ≡ m → SignalSays signal map (against s m)
  unfolding against
  against_says (no_message why) m es em = rw (no_message_number signal es) (no_signal es)
  against_says (message kind spat) (no_message why) es em = rw (no_message_number map em) (no_map es em)
  against_says (message kind spat) (message other mapped) es em = go (eqb kind spat_frame) refl (eqb other map_frame) refl
    where
      go : (a : Bool) → eqb kind spat_frame ≡ a → (b : Bool) → eqb other map_frame ≡ b → SignalSays signal map (cond (a && b) (judged (entries intersections spat) (entries nodes mapped)) (verdict given.no_spat_and_map 0 0))
      go true a true b = judged_says (es ∙ ap (λ (k : ℕ). message k spat) (eqb-true kind spat_frame a)) (em ∙ ap (λ (k : ℕ). message k mapped) (eqb-true other map_frame b))
      go true a false b = not_the_two es em (λ h. eqb-false other map_frame b h.1)
      go false a b e = not_the_two es em (λ h. eqb-false kind spat_frame a h.0)

  -- the verdict has what it says: a failure that is named is one, and no earlier one is
  pub signal_says : SignalSays signal map (signal_verdict signal map)
  unfolding signal_verdict
  signal_says = against_says (message_in signal) (message_in map) refl refl

  -- and no other verdict has: so each is given exactly when its sentence holds
  pub signal_only : (v : Verdict) → SignalSays signal map v → v ≡ signal_verdict signal map
  unfolding signal_verdict against
  signal_only v (no_signal es) = ap (λ (n : ℕ). verdict n 0 0) (sym (no_message_number signal es)) ∙ sym (ap (λ (m : Message). against m (message_in map)) es)
  signal_only v (no_map es em) = ap (λ (n : ℕ). verdict n 1 0) (sym (no_message_number map em)) ∙ sym (ap₂ against es em)
  signal_only v (not_the_two {kind} {other} {spat} {mapped} es em isnt) = sym (ap₂ against es em ∙ go (eqb kind spat_frame) refl (eqb other map_frame) refl)
    where
      go : (a : Bool) → eqb kind spat_frame ≡ a → (b : Bool) → eqb other map_frame ≡ b → cond (a && b) (judged (entries intersections spat) (entries nodes mapped)) (verdict given.no_spat_and_map 0 0) ≡ verdict given.no_spat_and_map 0 0
      go true a true b = absurd (isnt (eqb-true kind spat_frame a, eqb-true other map_frame b))
      go true a false b = refl
      go false a b e = refl
  signal_only v (repeats {spat} {mapped} {n} es em R none) = sym (are_judged es em ∙ repeats_only (entries intersections spat) (entries nodes mapped) n R none)
  signal_only v (fails {spat} {mapped} {n} {p} es em differ F) = sym (are_judged es em ∙ differ_only (entries intersections spat) (entries nodes mapped) differ ∙ first_only (entries intersections spat) differ (entries nodes mapped) n p F)
  signal_only v (passes {spat} {mapped} es em differ A) = sym (are_judged es em ∙ differ_only (entries intersections spat) (entries nodes mapped) differ ∙ agree_only (entries intersections spat) differ (entries nodes mapped) A)

-- ---- a SPAT and a MAP come to 0, 51 or 52

abbrev pub Number : ℕ → Type 0
Number n = (n ≡ given.done) ⊎ ((n ≡ given.repeated_signal) ⊎ (n ≡ given.phase_not_listed))

module _ (signal map : List ℤ) {spat mapped : Parts} (S : message_in signal ≡ message spat_frame spat) (M : message_in map ≡ message map_frame mapped) where
  number_of : (v : Verdict) → SignalSays signal map v → Number v.number
  number_of v (no_signal {why} es) = absurd (let both : message spat_frame spat ≡ no_message why = sym S ∙ es in let z : ◌≡◌ {A = ℕ} 0 1 = cc in omega arith)
  number_of v (no_map {why = why} es em) = absurd (let both : message map_frame mapped ≡ no_message why = sym M ∙ em in let z : ◌≡◌ {A = ℕ} 0 1 = cc in omega arith)
  number_of v (not_the_two {kind} {other} {spat = s} {mapped = m} es em isnt) =
      absurd (let first : message spat_frame spat ≡ message kind s = sym S ∙ es in
      let second : message map_frame mapped ≡ message other m = sym M ∙ em in
      let a : spat_frame ≡ kind = cc in
      let b : map_frame ≡ other = cc in
      isnt (sym a, sym b))
  number_of v (repeats es em R none) = inr (inl refl)
  number_of v (fails es em differ F) = inr (inr refl)
  number_of v (passes es em differ A) = inl refl

  pub the_two_numbers : Number (signal_verdict signal map).number
  the_two_numbers = number_of (signal_verdict signal map) (signal_says signal map)

-- ---- the components that the check names are those of these names in source 000

pub components_named : T (
    eqb message_frame (row_of "MessageFrame")
    & is_called "MessageFrame" map_frame "mapFrame"
    & is_called "MessageFrame" spat_frame "spatFrame"
    & is_called "SPAT" intersections "intersections"
    & is_called "IntersectionState" intersection_id "intersectionId"
    & is_called "IntersectionState" phases "phases"
    & is_called "Phase" phase_id "id"
    & is_called "MapData" nodes "nodes"
    & is_called "Node" node_id "id"
    & is_called "Node" in_links "inLinks"
    & is_called "NodeReferenceID" region "region"
    & is_called "NodeReferenceID" local_id "id"
    & is_called "Link" movements "movements"
    & is_called "Link" lanes "lanes"
    & is_called "Movement" movement_phase "phaseId"
    & is_called "Lane" connects_to "connectsTo"
    & is_called "Connection" connection_phase "phaseId"
    & eqb reference_row (row_of "NodeReferenceID"))
unfolding rows is_called
components_named = tt
