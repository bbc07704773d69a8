-- The two ways of an input: too short for a type number, or read by its type number. And a text in a buffer that has room for it.
-- Assumes nothing.
use Prim.Native.Nat.{ℕ, ◌-◌, ◌<◌, ◌≤◌, ◌^◌}
use mathlib.Core.List.{List, [], ◌++◌}
use mathlib.Core.Path.{◌≡◌, sym, ap, ap₂, subst, ◌∙◌}
use native.Mathlib.Nat.{zero-add}
use native.Mathlib.Omega.{arith}
use borrow.Author.Tests.{lt-ltb, le-ltb}
use lib.IntN.{ℤ}
use lib.ListN.{length, take, drop, length-drop}
use lib.Seq.{take_all, sets-eq}
use Rattle.std.specs.Prelude.{Result, Ok, Err}
use Rattle.answers.specs.Refusals.{unknown_type}
use Rattle.answers.specs.declared.Refusal.{Refusal}
use Rattle.answers.specs.declared.Answer.{Answer}
use Rattle.answers.specs.Answers.{ReadAnswer}
use Rattle.answers.specs.Answers.{refused_by}
use Rattle.types.specs.Named.{first_edition}
use Rattle.meaning.specs.Messages.{told_reading, sheet_after}
use Rattle.basics.specs.Lists.{filled}
use Rattle.printing.specs.Texts.{read_text, read_room}
use Rattle.printing.specs.Buffers.{printed, buffer_after, Appended}
use Rattle.printing.specs.declared.NoRoom.{NoRoom}
use Rattle.printing.proofs.Printing.{room_put, room_bytes}
use Rattle.records.specs.Records.{two_bytes}
use Rattle.programs.specs.Inputs.{type_bytes, message_text, input_text}

-- what is lent from a place on
pub rest : (bytes : List ℕ) (at : ℕ) → take (length bytes - at) (drop at bytes) ≡ drop at bytes
rest bytes at = take_all (length bytes - at) (drop at bytes) (omega (arith, length-drop at bytes))

-- ---- the two ways

module _ (input : List ℕ) (sheet : List ℤ) where
  pub untyped : length input < type_bytes → input_text input sheet ≡ read_text first_edition (refused_by unknown_type) []
  unfolding input_text
  untyped h = rw (lt-ltb (length input) type_bytes h)

  pub typed : type_bytes ≤ length input → input_text input sheet ≡ message_text (two_bytes input) (drop type_bytes input) sheet
  unfolding input_text
  typed h = rw (le-ltb (length input) type_bytes h)

  -- in the code's terms
  module _ (out : List ℕ) where
    -- what is promised
    abbrev Answers : Result ℕ NoRoom → List ℕ → Type 0
    Answers r out' = (r ≡ printed (input_text input sheet) (length out)) × ((out' ≡ buffer_after (input_text input sheet) out) × (length (input_text input sheet) ≤ read_room (length sheet)))

    of_text : {text : List ℕ} → text ≡ input_text input sheet → {r : Result ℕ NoRoom} {out' : List ℕ}
        → r ≡ printed text (length out) → out' ≡ buffer_after text out → length text ≤ read_room (length sheet) → Answers r out'
    of_text e {r} {out'} a b l =
        subst (λ (t : List ℕ). (r ≡ printed t (length out)) × ((out' ≡ buffer_after t out) × (length t ≤ read_room (length sheet)))) e (a, (b, l))

    pub no_type : length input < type_bytes → {why : Refusal} {a : Answer} → why ≡ unknown_type → a ≡ refused_by why → {r : Result ℕ NoRoom} {out' : List ℕ}
        → r ≡ printed (read_text first_edition a []) (length out) → out' ≡ buffer_after (read_text first_edition a []) out → length (read_text first_edition a []) ≤ read_room 0 → Answers r out'
    no_type h ew ea er eo l = of_text (ap (λ (x : Answer). read_text first_edition x []) (ea ∙ ap refused_by ew) ∙ sym (untyped h)) er eo (omega arith)

    pub by_type : type_bytes ≤ length input → {number : ℕ} {a : ReadAnswer} {s : List ℤ} → number ≡ two_bytes input
        → (a ≡ told_reading number (take (length input - type_bytes) (drop type_bytes input)) sheet) × (s ≡ sheet_after number (take (length input - type_bytes) (drop type_bytes input)) sheet)
        → {shown : Answer} → shown ≡ a.answer → {r : Result ℕ NoRoom} {out' : List ℕ}
        → r ≡ printed (read_text a.edition shown s) (length out) → out' ≡ buffer_after (read_text a.edition shown s) out → length (read_text a.edition shown s) ≤ read_room (length sheet) → Answers r out'
    by_type h {number} {a} {s} en e {shown} es er eo l =
        let same = ap₂ (λ (n : ℕ) (m : List ℕ). message_text n m sheet) en (rest input type_bytes) in
        of_text (ap (λ (x : Answer). read_text a.edition x s) es ∙ ap₂ (λ (x : ReadAnswer) (y : List ℤ). read_text x.edition x.answer y) e.0 e.1 ∙ same ∙ sym (typed h)) er eo l

-- ---- a buffer that has room

module _ (text out : List ℕ) (enough : length text ≤ length out) {r : Result ℕ NoRoom} {out' : List ℕ} (e : r ≡ printed text (length out)) (b : out' ≡ buffer_after text out) where
  pub text_put : {n : ℕ} → r ≡ Ok n → (n ≡ length text) × (out' ≡ filled text out)
  text_put {n} p =
      let both : ◌≡◌ {A = Result ℕ NoRoom} (Ok n) (Ok (length text)) = sym p ∙ e ∙ room_put text out enough in
      (cc, b ∙ room_bytes text out enough)

  pub text_room : {lack : NoRoom} → r ≡ Err lack → ⊥
  text_room {lack} p =
      let both : ◌≡◌ {A = Result ℕ NoRoom} (Err lack) (Ok (length text)) = sym p ∙ e ∙ room_put text out enough in
      let z : ◌≡◌ {A = ℕ} 0 1 = cc in
      omega arith

-- ---- a text at the front of a buffer

-- how many bytes it has, and that the buffer has it in front
abbrev pub InFront : List ℕ → List ℕ → ℕ → List ℕ → Type 0
InFront text out n out' = (n ≡ length text) × (out' ≡ filled text out)

pub same_front : {s t : List ℕ} → s ≡ t → (out : List ℕ) {n : ℕ} {out' : List ℕ} → InFront s out n out' → InFront t out n out'
same_front e out {n} {out'} l = subst (λ (x : List ℕ). InFront x out n out') e l

pub appended_front : {text out : List ℕ} {n : ℕ} {out' : List ℕ} → length text ≤ length out → length out < 2 ^ 64 → Appended text out 0 n out' → InFront text out n out'
appended_front {text} {out} h few a =
    (omega (arith, a.place), a.bytes ∙ sets-eq text out 0 (omega arith) ∙ ap (λ (k : ℕ). text ++ drop k out) (zero-add (length text)))
