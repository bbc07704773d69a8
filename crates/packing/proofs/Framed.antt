-- Whether a sheet is a header, by the message in its frame.
-- Assumes nothing.
use Prim.Native.Nat.{ℕ, ◌<◌}
use native.Mathlib.Omega.{arith}
use mathlib.Core.Path.{◌≡◌, refl, sym, ap, subst, ◌∙◌}
use mathlib.Core.Bool.{Bool, true, false, not, ◌&&◌}
use mathlib.Core.List.{List}
use borrow.Author.Tests.{eq-eqb, ne_eqb}
use lib.IntN.{ℤ}
use Rattle.answers.specs.declared.Refusal.{Refusal}
use Rattle.types.specs.Kinds as kinds
use Rattle.types.specs.Rows.{rows}
use Rattle.types.specs.Table.{numbers, the_rows}
use Rattle.sheet.specs.Values.{has, parts_of}
use Rattle.sheet.specs.Standing.{part_row}
use Rattle.sheet.specs.Moving.{has_at}
use Rattle.sheet.proofs.Standing.{has_told}
use Rattle.messages.specs.Message.{message_frame, message_in, no_message, rsi_frame}
use Rattle.messages.specs.Taking.{Framed}
use Rattle.rules.specs.Components.{rtes, rtss}
use Rattle.rules.specs.Lists.{rsi_row}
use Rattle.packing.specs.Entries.{header_in}

rsi_sequence : (the_rows rsi_row).kind ≡ kinds.sequence
unfolding rows
rsi_sequence = refl

lists_among : rtss < (the_rows rsi_row).count
unfolding rows
lists_among = omega arith

module _ (cells : List ℤ) where
  pub frame_none : {why : Refusal} → message_in cells ≡ no_message why → false ≡ header_in (message_in cells)
  unfolding header_in
  frame_none e = sym (ap header_in e)

  pub frame_other : {kind row place : ℕ} → Framed cells kind row place → (kind ≡ rsi_frame → ⊥) → false ≡ header_in (message_in cells)
  unfolding header_in
  frame_other {kind} F isnt = sym (ap header_in F.is ∙ rw (ne_eqb kind rsi_frame isnt) refl)

  module _ {tb : List ℕ} (table : tb ≡ numbers rows) {kind row place : ℕ} (F : Framed cells kind row place) (is : kind ≡ rsi_frame) where
    at_rsi : row ≡ rsi_row
    at_rsi = F.of_row ∙ ap (part_row message_frame) is

    told : (k : ℕ) → k < (the_rows rsi_row).count → {b : Bool} → b ≡ has_at tb row k cells place → b ≡ has k (parts_of F.held)
    told k among e = e ∙ has_told cells row place F.stands table (ap (λ (r : ℕ). (the_rows r).kind) at_rsi ∙ rsi_sequence) k (subst (λ (r : ℕ). k < (the_rows r).count) (sym at_rsi) among)

    by_lists : {b c : Bool} → b ≡ has rtes (parts_of F.held) → c ≡ has rtss (parts_of F.held) → header_in (message_in cells) ≡ (not b && not c)
    unfolding header_in
    by_lists {b} {c} eb ec = ap header_in F.is ∙ rw (eq-eqb kind rsi_frame is, ← eb, ← ec) refl

    pub events_there : has_at tb row rtes cells place ≡ true → false ≡ header_in (message_in cells)
    events_there e = sym (by_lists (sym e ∙ told rtes (omega (arith, lists_among)) refl) refl)

    pub by_signs : {b c : Bool} → b ≡ has_at tb row rtes cells place → b ≡ false → c ≡ has_at tb row rtss cells place → not c ≡ header_in (message_in cells)
    by_signs {b} {c} eb none ec = sym (by_lists (told rtes (omega (arith, lists_among)) eb) (told rtss lists_among ec) ∙ ap (λ (x : Bool). not x && not c) none)
