-- The first record of a batch for reading, as the code finds it.
-- Assumes nothing.
use Prim.Native.Nat.{ℕ, ◌-◌, ◌≤◌}
use mathlib.Core.Bool.{Bool, true, false, cond}
use mathlib.Core.List.{List}
use mathlib.Core.Path.{◌≡◌, refl, sym, ap, ◌∙◌}
use native.Mathlib.Omega.{arith}
use lib.Dec.{leb}
use lib.IntN.{ℤ, pos}
use lib.ListN.{length, take, drop}
use Rattle.std.specs.Prelude.{Option, Some, None, Result, Ok, Err, IsErrAnd}
use Rattle.answers.specs.Said as said
use Rattle.basics.specs.Counts.{capped}
use Rattle.printing.specs.Buffers.{printed, no_room, after_printing, buffer_after}
use Rattle.printing.specs.declared.NoRoom.{NoRoom}
use Rattle.printing.proofs.Printing.{put_length}
use Rattle.records.specs.Records.{record_length, first_record, whole, is_whole, record_of}
use Rattle.records.specs.declared.Cut.{Cut}
use Rattle.records.specs.declared.Record.{Record}
use Rattle.records.proofs.Records.{is_whole_lem, whole_ends, its_record}
use Rattle.programs.specs.Inputs.{input_text}
use Rattle.programs.specs.Batches.{Turn, answering, turn_printed, turn_by, turn_of, turn_says, turn_answer, after_turn, turn_buffer}
use Rattle.programs.specs.declared.Answered.{Answered}
use Rattle.programs.specs.declared.TurnError.{TurnError}
use Rattle.programs.specs.declared.TurnError.TheVariants as turn
use Rattle.answers.specs.declared.reasons.Reason.TheVariants as reason

-- ---- what a turn says

-- an answer that is the definition's says what document 01 says
pub turn_says_lem : {t : Turn} (held : List ℕ) (sheet : List ℤ) (room : ℕ) → t ≡ turn_of held sheet room → turn_says t ≡ turn_answer held sheet room
unfolding turn_by turn_printed printed turn_says turn_answer whole
turn_says_lem held sheet room e = ap turn_says e ∙ by (first_record held) refl
  where
    text : List ℕ
    text = input_text (record_of held) sheet

    fits : (end : ℕ) → end ≡ record_length held → (b : Bool) → turn_says (turn_printed end (cond b (Ok (length text)) (Err (no_room (capped (length text))))))
        ≡ cond b (said.done (pos 0) (record_length held) (length text)) (said.no_room (capped (length text)))
    fits end n true = ap (λ (k : ℕ). said.done (pos 0) k (length text)) n
    fits end n false = refl

    by : (r : Result (Option Record) Cut) → first_record held ≡ r
        → turn_says (turn_by r text room) ≡ cond (whole r) (cond (leb (length text) room) (said.done (pos 0) (record_length held) (length text)) (said.no_room (capped (length text)))) (said.refused reason.Short 0)
    by (Ok (Some r)) u = fits r.end (whole_ends held u).1 (leb (length text) room)
    by (Err why) u = refl
    by (Ok None) u = refl

-- ---- a turn, as the code finds it

-- an error that `?` turned into this one
pub turned_error : {t : Turn} {why : TurnError} → IsErrAnd t (λ e. e ≡ why) → t ≡ Err why
turned_error {t = Err e} h = ap Err h
turned_error {t = Ok a} h = absurd h

module _ (held : List ℕ) (sheet : List ℤ) (out : List ℕ) where
  -- what is promised of an answer and of the buffer
  abbrev pub Turned : Turn → List ℕ → Type 0
  Turned t out' = (t ≡ turn_of held sheet (length out)) × ((out' ≡ turn_buffer held sheet out) × (turn_says t ≡ turn_answer held sheet (length out)))

  turned : {t : Turn} {out' : List ℕ} → t ≡ turn_of held sheet (length out) → out' ≡ after_turn t (input_text (record_of held) sheet) out → Turned t out'
  turned e b = (e, (b ∙ ap (λ (x : Turn). after_turn x (input_text (record_of held) sheet) out) e, turn_says_lem held sheet (length out) e))

  module _ {r : Result (Option Record) Cut} (er : r ≡ first_record held) where
    at_record : {q : Result (Option Record) Cut} → r ≡ q → turn_by q (input_text (record_of held) sheet) (length out) ≡ turn_of held sheet (length out)
    at_record u = ap (λ (x : Result (Option Record) Cut). turn_by x (input_text (record_of held) sheet) (length out)) (sym u ∙ er)

    pub turn_cut : {t : Turn} {why : Cut} → r ≡ Err why → t ≡ Err turn.RecordCut → Turned t out
    unfolding turn_by after_turn
    turn_cut u e = turned (e ∙ at_record u) (sym (ap (λ (x : Turn). after_turn x (input_text (record_of held) sheet) out) e))

    pub turn_none : r ≡ Ok None → Turned (Err turn.RecordCut) out
    unfolding turn_by after_turn
    turn_none u = turned (at_record u) refl

    module _ {found : Record} (u : r ≡ Ok (Some found)) {p : Result ℕ NoRoom} {out' : List ℕ}
        (ep : p ≡ printed (input_text (take (found.end - found.start) (drop found.start held)) sheet) (length out))
        (eb : out' ≡ buffer_after (input_text (take (found.end - found.start) (drop found.start held)) sheet) out) where
      its_text : input_text (take (found.end - found.start) (drop found.start held)) sheet ≡ input_text (record_of held) sheet
      its_text = ap (λ (l : List ℕ). input_text l sheet) (its_record held (sym er ∙ u))

      is_printed : p ≡ printed (input_text (record_of held) sheet) (length out)
      is_printed = ep ∙ ap (λ (t : List ℕ). printed t (length out)) its_text

      is_turn : {q : Result ℕ NoRoom} → p ≡ q → turn_printed found.end q ≡ turn_of held sheet (length out)
      unfolding turn_by
      is_turn v = ap (turn_printed found.end) (sym v ∙ is_printed) ∙ at_record u

      is_buffer : {q : Result ℕ NoRoom} → p ≡ q → out' ≡ after_printing q (input_text (record_of held) sheet) out
      is_buffer v =
          eb ∙ ap (λ (t : List ℕ). buffer_after t out) its_text
          ∙ ap (λ (x : Result ℕ NoRoom). after_printing x (input_text (record_of held) sheet) out) (sym is_printed ∙ v)

      pub turn_put : {k : ℕ} → p ≡ Ok k → Turned (Ok (answering found.end k)) out'
      unfolding turn_printed after_turn after_printing
      turn_put v = turned (is_turn v) (is_buffer v)

      pub turn_no_room : {t : Turn} {lack : NoRoom} → p ≡ Err lack → t ≡ Err (turn.NoRoom lack.needed) → Turned t out'
      unfolding turn_printed after_turn after_printing
      turn_no_room v e = turned (e ∙ is_turn v) (is_buffer v ∙ sym (ap (λ (x : Turn). after_turn x (input_text (record_of held) sheet) out) e))

-- ---- what is known of a record that was answered

-- the record is whole, and its text was put
pub record Whole (held : List ℕ) (sheet : List ℤ) (room used n : ℕ) : Type 0 where
  pub all_there : is_whole held ≡ true
  pub is_used : (used ≡ record_length held) × (used ≤ length held)
  pub is_put : printed (input_text (record_of held) sheet) room ≡ Ok n

module _ (held : List ℕ) (sheet : List ℤ) (room used n : ℕ) (e : turn_of held sheet room ≡ Ok (answering used n)) where
  pub answered : Whole held sheet room used n
  unfolding turn_by turn_printed
  answered = go (first_record held) refl
    where
      by : (end : ℕ) (p : Result ℕ NoRoom) → turn_printed end p ≡ Ok (answering used n) → (used ≡ end) × (p ≡ Ok n)
      by end (Ok k) u =
          let same : answering end k ≡ answering used n = cc in
          (sym (ap (λ (a : Answered). a.used) same), ap (λ (a : Answered). Ok a.length) same)
      by end (Err lack) u = absurd (let z : ◌≡◌ {A = ℕ} 0 1 = cc in omega arith)

      go : (r : Result (Option Record) Cut) → first_record held ≡ r → Whole held sheet room used n
      go (Ok (Some found)) w =
          let u = by found.end (printed (input_text (record_of held) sheet) room) (rw w at e) in
          let l = whole_ends held w in
          record { all_there = is_whole_lem held w; is_used = (u.0 ∙ l.1, omega (arith, u.0, l.2)); is_put = u.1 }
      go (Err why) w = absurd (let both : ◌≡◌ {A = Turn} (Err turn.RecordCut) (Ok (answering used n)) = rw w at e in let z : ◌≡◌ {A = ℕ} 0 1 = cc in omega arith)
      go (Ok None) w = absurd (let both : ◌≡◌ {A = Turn} (Err turn.RecordCut) (Ok (answering used n)) = rw w at e in let z : ◌≡◌ {A = ℕ} 0 1 = cc in omega arith)

  -- it lies in the held bytes, its text in the buffer, and it takes at least its two bytes of length
  pub turn_inside : (used ≤ length held) × (n ≤ room) × (2 ≤ used)
  turn_inside =
      let w = answered in
      (w.is_used.1, (put_length (input_text (record_of held) sheet) room n w.is_put).1, omega (arith, w.is_used.0))
