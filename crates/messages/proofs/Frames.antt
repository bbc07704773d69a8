-- The message of a sheet that is a frame: which alternative it is, and where it stands.
-- Assumes nothing.
use Prim.Native.Nat.{ℕ}
use native.Mathlib.Omega.{arith}
use mathlib.Core.Path.{◌≡◌, refl, sym, ap, subst, ◌∙◌}
use mathlib.Core.Bool.{Bool, true, false, cond}
use mathlib.Core.List.{List}
use lib.Dec.{ltb}
use lib.IntN.{ℤ}
use lib.ListN.{length}
use Rattle.std.specs.Prelude.{Result, Ok, Err}
use Rattle.answers.specs.GivenBack as given
use Rattle.answers.specs.Refusals.{refusal}
use Rattle.answers.specs.declared.Refusal.{Refusal}
use Rattle.types.specs.Rows.{rows}
use Rattle.types.specs.Kinds as kinds
use Rattle.types.specs.Table.{numbers, the_rows}
use Rattle.meaning.specs.Values.{Value, whole, sequence, chosen, items, beyond, extended, added, picked, kept}
use Rattle.meaning.specs.Steps.{Got}
use Rattle.meaning.specs.Steps.Got.{ok, refused}
use Rattle.meaning.proofs.Numbers.{write_number_lem}
use Rattle.sheet.specs.Standing.{value_at, Picks}
use Rattle.sheet.specs.Sole.{value, none, sole_by, sole_at}
use Rattle.sheet.specs.Moving.{chosen_at}
use Rattle.sheet.specs.declared.Choice.{Choice}
use Rattle.sheet.proofs.Alone.{sole_none, sole_value_lem, Only}
use Rattle.sheet.proofs.Standing.{chosen_picks}
use Rattle.messages.specs.Message.{message_frame, no_message, message_of, sole_message, message_in}
use Rattle.messages.specs.Taking.{framed_by, framed_at, Framed}
use Rattle.answers.specs.declared.reasons.Reason.TheVariants as reason
use Rattle.answers.specs.Reasons.{reason_number}

frame_kind : (the_rows message_frame).kind ≡ kinds.choice
unfolding rows
frame_kind = refl

module _ (cells : List ℤ) {tb : List ℕ} (table : tb ≡ numbers rows) {c : Result Choice Refusal} (e : c ≡ framed_at tb cells) where
  by_sole : (p : Result ℕ Refusal) → sole_at tb message_frame cells ≡ p → c ≡ framed_by p (chosen_at tb message_frame cells 0)
  by_sole p ep = e ∙ ap (λ (x : Result ℕ Refusal). framed_by x (chosen_at tb message_frame cells 0)) ep

  framed_by_lem : (O : Only message_frame (omega arith) cells table {r = sole_at tb message_frame cells} refl) {choice : Choice} → chosen_at tb message_frame cells 0 ≡ Ok choice → Framed cells choice.index choice.row choice.place
  unfolding message_in sole_message message_of
  framed_by_lem O u =
      let P = subst (λ (x : Result Choice Refusal). Picks cells message_frame O.only x) u (chosen_picks cells message_frame 0 O.stands table frame_kind) in
      record { held = P.1; is = ap sole_message O.is_value ∙ ap message_of P.2; of_row = P.0; stands = P.3 }

  pub framed_of : {choice : Choice} → c ≡ Ok choice → Framed cells choice.index choice.row choice.place
  unfolding framed_by
  framed_of {choice} u = go (sole_at tb message_frame cells) refl
    where
      go : (p : Result ℕ Refusal) → sole_at tb message_frame cells ≡ p → Framed cells choice.index choice.row choice.place
      go (Ok next) ep = framed_by_lem (sole_value_lem message_frame (omega arith) cells table refl ep) (sym (by_sole (Ok next) ep) ∙ u)
      go (Err why) ep = absurd (let both : Err why ≡ Ok choice = sym (by_sole (Err why) ep) ∙ u in let z : ◌≡◌ {A = ℕ} 0 1 = cc in omega arith)

  pub framed_no : {why : Refusal} → c ≡ Err why → message_in cells ≡ no_message why
  unfolding framed_by message_in sole_message
  framed_no {why} u = go (sole_at tb message_frame cells) refl
    where
      go : (p : Result ℕ Refusal) → sole_at tb message_frame cells ≡ p → message_in cells ≡ no_message why
      go (Ok next) ep =
          let O = sole_value_lem message_frame (omega arith) cells table refl ep in
          absurd (subst (λ (x : Result Choice Refusal). Picks cells message_frame O.only x) (sym (by_sole (Ok next) ep) ∙ u) (chosen_picks cells message_frame 0 O.stands table frame_kind))
      go (Err w) ep =
          let both : Err w ≡ Err why = sym (by_sole (Err w) ep) ∙ u in
          let same : w ≡ why = cc in
          ap sole_message (sole_none message_frame (omega arith) cells table refl ep) ∙ ap no_message same

-- a sheet that is no value is 7
pub no_message_number : (cells : List ℤ) {why : Refusal} → message_in cells ≡ no_message why → reason_number why.reason ≡ given.no_value
unfolding message_in sole_message message_of sole_by
no_message_number cells {why} e = go (value_at cells message_frame 0) refl e
  where
    of_value : (v : Value) → message_of v ≡ no_message why → reason_number why.reason ≡ given.no_value
    of_value (whole n) u = absurd (let z : ◌≡◌ {A = ℕ} 0 1 = cc in omega arith)
    of_value (sequence parts) u = absurd (let z : ◌≡◌ {A = ℕ} 0 1 = cc in omega arith)
    of_value (chosen n v) u = absurd (let z : ◌≡◌ {A = ℕ} 0 1 = cc in omega arith)
    of_value (items vs) u = absurd (let z : ◌≡◌ {A = ℕ} 0 1 = cc in omega arith)
    of_value (beyond n) u = absurd (let z : ◌≡◌ {A = ℕ} 0 1 = cc in omega arith)
    of_value (extended parts more) u = absurd (let z : ◌≡◌ {A = ℕ} 0 1 = cc in omega arith)
    of_value (added n v) u = absurd (let z : ◌≡◌ {A = ℕ} 0 1 = cc in omega arith)
    of_value (picked n v) u = absurd (let z : ◌≡◌ {A = ℕ} 0 1 = cc in omega arith)
    of_value (kept vs) u = absurd (let z : ◌≡◌ {A = ℕ} 0 1 = cc in omega arith)

    go : (g : Got ℕ Value) → value_at cells message_frame 0 ≡ g → sole_message (sole_by (length cells) g) ≡ no_message why → reason_number why.reason ≡ given.no_value
    go (refused w) eg u = let same : w ≡ why = cc in ap (λ (r : Refusal). reason_number r.reason) (sym same) ∙ write_number_lem _ cells 0 w eg
    go (ok v bits next) eg u = by_end (ltb next (length cells)) u
      where
        by_end : (b : Bool) → sole_message (cond b (none (refusal reason.NoValue next)) (value v)) ≡ no_message why → reason_number why.reason ≡ given.no_value
        by_end true u = let same : refusal reason.NoValue next ≡ why = cc in ap (λ (r : Refusal). reason_number r.reason) (sym same)
        by_end false u = of_value v u
