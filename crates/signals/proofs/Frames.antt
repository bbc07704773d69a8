-- Two sheets, by the messages in their frames: which number comes first.
-- Assumes nothing.
use Prim.Native.Nat.{ℕ, ◌≤◌}
use native.Mathlib.Omega.{arith}
use mathlib.Core.Path.{◌≡◌, refl, sym, ap, ◌∙◌}
use mathlib.Core.List.{List}
use borrow.Author.Tests.{eq-eqb, ne_eqb}
use lib.IntN.{ℤ}
use Rattle.answers.specs.GivenBack as given
use Rattle.answers.specs.declared.Refusal.{Refusal}
use Rattle.types.specs.Rows.{rows}
use Rattle.types.specs.Table.{numbers}
use Rattle.sheet.specs.Values.{parts_of, entries}
use Rattle.messages.specs.Message.{Message, message, no_message, message_in, map_frame, spat_frame}
use Rattle.messages.specs.Taking.{Framed, listing_at}
use Rattle.sheet.specs.declared.Listing.{Listing}
use Rattle.messages.proofs.Entries.{entries_many, message_entries}
use Rattle.messages.proofs.Few.{few_known}
use Rattle.signals.specs.Components.{intersections, nodes}
use Rattle.signals.specs.Signal.{verdict, judged, against, signal_verdict, nodes_of, nodes_in}
use Rattle.signals.specs.Steps.{spat_row}
use Rattle.signals.specs.Verdict.{Verdict}
use Rattle.signals.proofs.Types.{nodes_list, few_intersections}
use Rattle.answers.specs.Reasons.{reason_number}

module _ (signal map : List ℤ) where
  pub signal_refused : {why : Refusal} → message_in signal ≡ no_message why → verdict (reason_number why.reason) 0 0 ≡ signal_verdict signal map
  unfolding signal_verdict against
  signal_refused e = sym (ap (λ (m : Message). against m (message_in map)) e)

  module _ {kind row place : ℕ} (F : Framed signal kind row place) where
    by_signal : signal_verdict signal map ≡ against (message kind (parts_of F.held)) (message_in map)
    unfolding signal_verdict
    by_signal = ap (λ (m : Message). against m (message_in map)) F.is

    pub map_refused : {why : Refusal} → message_in map ≡ no_message why → verdict (reason_number why.reason) 1 0 ≡ signal_verdict signal map
    unfolding against
    map_refused e = sym (by_signal ∙ ap (against (message kind (parts_of F.held))) e)

    module _ {other map_row map-place : ℕ} (G : Framed map other map_row map-place) where
      by_both : signal_verdict signal map ≡ against (message kind (parts_of F.held)) (message other (parts_of G.held))
      by_both = by_signal ∙ ap (against (message kind (parts_of F.held))) G.is

      pub not_spat : ¬ (kind ≡ spat_frame) → verdict given.no_spat_and_map 0 0 ≡ signal_verdict signal map
      unfolding against
      not_spat isnt = sym (by_both ∙ rw (ne_eqb kind spat_frame isnt) refl)

      module _ (is : kind ≡ spat_frame) where
        pub not_map : ¬ (other ≡ map_frame) → verdict given.no_spat_and_map 0 0 ≡ signal_verdict signal map
        unfolding against
        not_map isnt = sym (by_both ∙ rw (eq-eqb kind spat_frame is, ne_eqb other map_frame isnt) refl)

        pub the_two : other ≡ map_frame → {r : Verdict} → r ≡ judged (entries intersections (parts_of F.held)) (entries nodes (parts_of G.held)) → r ≡ signal_verdict signal map
        unfolding against
        the_two are e = e ∙ sym (by_both ∙ rw (eq-eqb kind spat_frame is, eq-eqb other map_frame are) refl)

-- a signal message has few entries, whatever the sheet
pub few_signal : {tb : List ℕ} → tb ≡ numbers rows → (cells : List ℤ) (row place : ℕ) → row ≡ spat_row → {l : Listing} → l ≡ listing_at tb row intersections cells place → l.count ≤ 32
few_signal table cells row place er e = omega (arith, few_known table cells row intersections place er e, few_intersections)

-- ---- the nodes of a map

module _ (cells : List ℤ) {kind row place : ℕ} (F : Framed cells kind row place) where
  by_message : nodes_in cells ≡ nodes_of (message kind (parts_of F.held))
  unfolding nodes_in
  by_message = ap nodes_of F.is

  pub no_map_nodes : ¬ (kind ≡ map_frame) → 0 ≡ nodes_in cells
  unfolding nodes_of
  no_map_nodes isnt = sym (by_message ∙ rw (ne_eqb kind map_frame isnt) refl)

pub map_nodes : (cells : List ℤ) {tb : List ℕ} → tb ≡ numbers rows → {kind row place : ℕ} (F : Framed cells kind row place) → kind ≡ map_frame → {l : Listing} → l ≡ listing_at tb row nodes cells place → l.count ≡ nodes_in cells
unfolding nodes_of
map_nodes cells table {kind} F is {l} e =
    let R = message_entries cells table F is nodes nodes_list e in
    sym (by_message cells F ∙ rw (eq-eqb kind map_frame is) (entries_many cells l.row l.place l.count R.are))
