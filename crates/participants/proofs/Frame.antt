-- What the check answers of a sheet, by the message in its frame and by the ids of its participants.
-- Assumes nothing.
use Prim.Native.Nat.{ℕ, ◌≤◌}
use native.Mathlib.Omega.{arith}
use mathlib.Core.Path.{◌≡◌, refl, sym, ap, ◌∙◌}
use mathlib.Core.Bool.{Bool, true, false, cond}
use mathlib.Core.List.{List, []}
use borrow.Author.Tests.{eq-eqb, ne_eqb}
use lib.Dec.{eqb}
use lib.IntN.{ℤ}
use Rattle.answers.specs.declared.Refusal.{Refusal}
use Rattle.answers.specs.GivenBack as given
use Rattle.types.specs.Rows.{rows}
use Rattle.types.specs.Table.{numbers}
use Rattle.meaning.specs.Values.{Values}
use Rattle.sheet.specs.Values.{parts_of, entries}
use Rattle.messages.specs.Message.{message_in, no_message, rsm_frame}
use Rattle.messages.specs.Repeats.{Repeat, repeated, nowhere, among, first_repeat}
use Rattle.messages.specs.Taking.{Framed, listing_at}
use Rattle.sheet.specs.declared.Listing.{Listing}
use Rattle.messages.proofs.Few.{few_known}
use Rattle.rules.specs.Rsi.{ruling, passes, first_broken}
use Rattle.rules.specs.Ruling.{Ruling}
use Rattle.participants.specs.Components.{participants}
use Rattle.participants.specs.Rsm.{unit_id, ids_of, field_rule, unless_repeated, unit_there, profiled, message_profile, rsm_ruled}
use Rattle.participants.specs.Steps.{rsm_row}
use Rattle.participants.proofs.Types.{few_participants}
use Rattle.answers.specs.Reasons.{reason_number}

module _ (cells : List ℤ) where
  pub frame_refused : {why : Refusal} → message_in cells ≡ no_message why → ruling (reason_number why.reason) why.place ≡ rsm_ruled cells
  unfolding rsm_ruled message_profile
  frame_refused e = sym (ap message_profile e)

  pub frame_other : {kind row place : ℕ} → Framed cells kind row place → (kind ≡ rsm_frame → ⊥) → ruling given.no_rsm 0 ≡ rsm_ruled cells
  unfolding rsm_ruled message_profile
  frame_other {kind} F isnt = sym (ap message_profile F.is ∙ rw (ne_eqb kind rsm_frame isnt) refl)

  pub frame_rsm : {kind row place : ℕ} (F : Framed cells kind row place) → kind ≡ rsm_frame → {r : Ruling} → r ≡ profiled (entries participants (parts_of F.held)) → r ≡ rsm_ruled cells
  unfolding rsm_ruled message_profile
  frame_rsm {kind} F is e = e ∙ sym (ap message_profile F.is ∙ rw (eq-eqb kind rsm_frame is) refl)

-- an RSM has few participants, whatever the sheet
pub few : {tb : List ℕ} → tb ≡ numbers rows → (cells : List ℤ) (row place : ℕ) → row ≡ rsm_row → {l : Listing} → l ≡ listing_at tb row participants cells place → l.count ≤ 16
few table cells row place er e = omega (arith, few_known table cells row participants place er e, few_participants)

-- ---- by the ids

module _ (vs : Values) where
  by_repeat : {r : Repeat} → first_repeat eqb [] 0 (ids_of vs) ≡ r → profiled vs ≡ unless_repeated r (unit_there vs)
  unfolding profiled
  by_repeat {r} e = ap (λ (x : Repeat). unless_repeated x (unit_there vs)) e

  pub some_repeats : {n : ℕ} → first_repeat eqb [] 0 (ids_of vs) ≡ repeated n → ruling given.repeated_id n ≡ profiled vs
  unfolding unless_repeated
  some_repeats e = sym (by_repeat e)

  module _ (e : first_repeat eqb [] 0 (ids_of vs) ≡ nowhere) where
    by_unit : {b : Bool} → among eqb unit_id (ids_of vs) ≡ b → profiled vs ≡ cond b (first_broken field_rule 0 vs passes) (ruling given.unit_missing 0)
    unfolding unless_repeated unit_there
    by_unit {b} u = by_repeat e ∙ ap (λ (x : Bool). cond x (first_broken field_rule 0 vs passes) (ruling given.unit_missing 0)) u

    pub no_unit : among eqb unit_id (ids_of vs) ≡ false → ruling given.unit_missing 0 ≡ profiled vs
    no_unit u = sym (by_unit u)

    pub the_fields : among eqb unit_id (ids_of vs) ≡ true → {r : Ruling} → r ≡ first_broken field_rule 0 vs passes → r ≡ profiled vs
    the_fields u er = er ∙ sym (by_unit u)
