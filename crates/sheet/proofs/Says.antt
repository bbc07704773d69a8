-- What the answers of this crate say is what document 01 says, for every table, row, sheet and place: by the tests in their order.
-- Assumes nothing.
use Prim.Native.Nat.{ℕ, zero, suc, ◌+◌}
use mathlib.Core.Path.{◌≡◌, refl, ap, ◌∙◌}
use mathlib.Core.Bool.{Bool, true, false, cond}
use mathlib.Core.List.{List}
use native.Mathlib.Omega.{arith}
use borrow.Author.Tests.{ne_eqb}
use lib.Dec.{eqb, ltb}
use lib.IntN.{ℤ, pos}
use lib.ListN.{length}
use Rattle.std.specs.Prelude.{Result, Ok, Err, Option}
use Rattle.basics.specs.Lists.{natural}
use Rattle.answers.specs.declared.Refusal.{Refusal}
use Rattle.answers.specs.Refusals.{unknown_type, no_value}
use Rattle.answers.specs.Said as said
use Rattle.answers.specs.Said.{refusal_says}
use Rattle.types.specs.Row.{span_of}
use Rattle.types.specs.Shape.{Field, field}
use Rattle.types.specs.Shape.Ty.{num}
use Rattle.types.specs.Kinds as kinds
use Rattle.types.specs.Table.{row_at}
use Rattle.meaning.specs.Steps.{Got, and_then, ◌>>=◌}
use Rattle.meaning.specs.Steps.Got.{ok, refused}
use Rattle.meaning.specs.Walk.{walk}
use Rattle.meaning.specs.Writing.{write_whole}
use Rattle.meaning.proofs.Numbers.{write_refusal}
use Rattle.walking.specs.Walked.{sized}
use Rattle.sheet.specs.Moving.{is_sequence, here_at, front_at, part_by, component_at, index_at, choice_by, chosen_at, size_at, listed_by, entries_at}
use Rattle.sheet.specs.Says.{part_says, place_answer, component_answer, choice_says, index_answer, chosen_answer, listed_says, size_answer, entries_answer}
use Rattle.sheet.specs.declared.Part.{Part}
use Rattle.sheet.specs.declared.Choice.{Choice}
use Rattle.sheet.specs.declared.Listing.{Listing}
use Rattle.answers.specs.declared.reasons.Reason.TheVariants as reason

-- a cell that is no number of a range is told by 7, with no row
whole_number : (cells : List ℤ) (f : Field) (place : ℕ) (why : Refusal) → write_whole f cells place ≡ refused why → refusal_says why ≡ said.refused reason.NoValue why.place
unfolding walk ◌>>=◌ and_then
whole_number cells f place why e = ap refusal_says (write_refusal (num f) cells place why (rw e refl))

size_number : (cells : List ℤ) (f : Field) (span place : ℕ) (why : Refusal) → sized span (write_whole f cells) place ≡ refused why → refusal_says why ≡ said.refused reason.NoValue why.place
unfolding sized
size_number cells f zero place why e = absurd (let z : ◌≡◌ {A = ℕ} 0 1 = cc in omega arith)
size_number cells f (suc n) place why e = whole_number cells f place why (rw (ne_eqb (suc n) 0 (λ z. omega arith)) at e)

module _ (tb : List ℕ) (cells : List ℤ) (place : ℕ) where
  -- ---- a component

  place_says : (t here : ℕ) (r : Result ℕ Refusal) → part_says (part_by t here r) ≡ place_answer t here r
  unfolding part_says part_by place_answer
  place_says t zero (Ok q) = refl
  place_says t (suc n) (Ok q) = rw (ne_eqb (suc n) 0 (λ z. omega arith)) refl
  place_says t zero (Err why) = refl
  place_says t (suc n) (Err why) = refl

  component_says : (row k : ℕ) → part_says (component_at tb row k cells place) ≡ component_answer tb row k cells place
  unfolding component_at component_answer part_says
  component_says row k = by (is_sequence tb row k) (ltb (length cells) place)
    where
      t : ℕ
      t = (row_at tb ((row_at tb row).first + k)).first

      by : (b c : Bool) → part_says (cond b (cond c (Err (no_value (length cells))) (part_by t (here_at tb row k cells place) (front_at tb row k cells place))) (Err unknown_type)) ≡ cond b (cond c (said.refused reason.NoValue (length cells)) (place_answer t (here_at tb row k cells place) (front_at tb row k cells place))) (said.refused reason.UnknownType 0)
      by false c = refl
      by true true = refl
      by true false = place_says t (here_at tb row k cells place) (front_at tb row k cells place)

  -- an answer that is the definition's says what document 01 says
  pub component_told : (row k : ℕ) {r : Result (Option Part) Refusal} → r ≡ component_at tb row k cells place → (r ≡ component_at tb row k cells place) × (part_says r ≡ component_answer tb row k cells place)
  component_told row k e = (e, ap part_says e ∙ component_says row k)

  -- ---- an alternative

  index_says : (row f : ℕ) → choice_says (choice_by tb f (index_at tb row cells place)) ≡ index_answer tb f (index_at tb row cells place)
  unfolding choice_says choice_by index_answer
  index_says row f = by (index_at tb row cells place) refl
    where
      by : (g : Got ℕ ℕ) → index_at tb row cells place ≡ g → choice_says (choice_by tb f g) ≡ index_answer tb f g
      by (ok n bits next) e = refl
      by (refused why) e = whole_number cells (field (pos 0) (span_of (row_at tb row))) place why e

  chosen_says : (row : ℕ) → choice_says (chosen_at tb row cells place) ≡ chosen_answer tb row cells place
  unfolding chosen_at chosen_answer choice_says
  chosen_says row = by (eqb (row_at tb row).kind kinds.choice)
    where
      by : (b : Bool) → choice_says (cond b (choice_by tb (row_at tb row).first (index_at tb row cells place)) (Err unknown_type)) ≡ cond b (index_answer tb (row_at tb row).first (index_at tb row cells place)) (said.refused reason.UnknownType 0)
      by true = index_says row (row_at tb row).first
      by false = refl

  pub chosen_told : (row : ℕ) {r : Result Choice Refusal} → r ≡ chosen_at tb row cells place → (r ≡ chosen_at tb row cells place) × (choice_says r ≡ chosen_answer tb row cells place)
  chosen_told row e = (e, ap choice_says e ∙ chosen_says row)

  -- ---- entries

  size_says : (row item least : ℕ) → listed_says (listed_by item least (size_at tb row cells place)) ≡ size_answer item least (size_at tb row cells place)
  unfolding listed_says listed_by size_answer
  size_says row item least = by (size_at tb row cells place) refl
    where
      by : (g : Got ℕ ℕ) → size_at tb row cells place ≡ g → listed_says (listed_by item least g) ≡ size_answer item least g
      by (ok n bits next) e = refl
      by (refused why) e = size_number cells (field (pos (natural (row_at tb row).lowest)) (span_of (row_at tb row))) (span_of (row_at tb row)) place why e

  entries_says : (row : ℕ) → listed_says (entries_at tb row cells place) ≡ entries_answer tb row cells place
  unfolding entries_at entries_answer listed_says
  entries_says row = by (eqb (row_at tb row).kind kinds.list) (ltb (length cells) place)
    where
      item : ℕ
      item = (row_at tb row).first

      least : ℕ
      least = natural (row_at tb row).lowest

      by : (b c : Bool) → listed_says (cond b (cond c (Err (no_value (length cells))) (listed_by item least (size_at tb row cells place))) (Err unknown_type)) ≡ cond b (cond c (said.refused reason.NoValue (length cells)) (size_answer item least (size_at tb row cells place))) (said.refused reason.UnknownType 0)
      by false c = refl
      by true true = refl
      by true false = size_says row item least

  pub entries_told : (row : ℕ) {r : Result Listing Refusal} → r ≡ entries_at tb row cells place → (r ≡ entries_at tb row cells place) × (listed_says r ≡ entries_answer tb row cells place)
  entries_told row e = (e, ap listed_says e ∙ entries_says row)
