-- What passing over a value answers is what document 01 says, for every table, row, sheet and place: by the tests in their order.
-- Assumes nothing.
use mathlib.Core.Path.{◌≡◌, refl, ap, ◌∙◌}
use mathlib.Core.List.{List}
use mathlib.Core.Bool.{Bool, true, false, cond}
use Prim.Native.Nat.{ℕ, ◌<◌, ◌≤◌}
use borrow.Author.Tests.{le-leb, lt-leb, lt-ltb, le-ltb}
use lib.Dec.{leb, ltb}
use lib.IntN.{ℤ}
use lib.ListN.{length}
use Rattle.std.specs.Prelude.{Result, Err}
use Rattle.answers.specs.Said as said
use Rattle.answers.specs.Said.{refusal_says}
use Rattle.answers.specs.Refusals.{refusal, unknown_type}
use Rattle.answers.specs.declared.Refusal.{Refusal}
use Rattle.types.specs.Shape.{Ty}
use Rattle.types.specs.Table.{root_at, type_of}
use Rattle.meaning.specs.Values.{Value}
use Rattle.meaning.specs.Steps.{Got}
use Rattle.meaning.specs.Steps.Got.{ok, refused}
use Rattle.meaning.specs.Writing.{write}
use Rattle.meaning.proofs.Numbers.{write_refusal}
use Rattle.passing.specs.Passing.{passed_by, passed, passed_says, value_answer, pass_answer}
use Rattle.passing.specs.Ended.{Ended, EndedBy}
use Rattle.answers.specs.declared.reasons.Reason.TheVariants as reason

-- writing refuses with 7 alone, and names no row
value_says : (t : Ty) (cells : List ℤ) (place : ℕ) → passed_says (passed_by (write t cells place)) ≡ value_answer (write t cells place)
unfolding passed_says passed_by value_answer
value_says t cells place = by (write t cells place) refl
  where
    by : (g : Got ℕ Value) → write t cells place ≡ g → passed_says (passed_by g) ≡ value_answer g
    by (ok v bits next) e = refl
    by (refused why) e = ap refusal_says (write_refusal t cells place why e)

module _ (tb : List ℕ) (row : ℕ) (cells : List ℤ) (place : ℕ) where
  pub pass_says : passed_says (passed tb row cells place) ≡ pass_answer tb row cells place
  unfolding passed pass_answer passed_says
  pass_says = by (leb 414 row) (ltb (length cells) place)
    where
      type : Ty
      type = type_of (root_at tb) row

      by : (b c : Bool) → passed_says (cond b (Err unknown_type) (cond c (Err (refusal reason.NoValue (length cells))) (passed_by (write type cells place)))) ≡ cond b (said.refused reason.UnknownType 0) (cond c (said.refused reason.NoValue (length cells)) (value_answer (write type cells place)))
      by true c = refl
      by false true = refl
      by false false = value_says type cells place

  -- an answer that is the definition's says what document 01 says
  pub pass_told : {r : Result ℕ Refusal} → r ≡ passed tb row cells place → (r ≡ passed tb row cells place) × (passed_says r ≡ pass_answer tb row cells place)
  pass_told e = (e, ap passed_says e ∙ pass_says)

-- ---- what `pass` answers

pub pass_row : (tb : List ℕ) (row : ℕ) (cells : List ℤ) (place : ℕ) {why : Refusal} → 414 ≤ row → why ≡ unknown_type → Err why ≡ passed tb row cells place
unfolding passed
pass_row tb row cells place h ew = rw (le-leb 414 row h) (ap Err ew)

module _ (tb : List ℕ) (row : ℕ) (cells : List ℤ) (place : ℕ) (known : row < 414) where
  pub pass_behind : {r : Result ℕ Refusal} → length cells < place → r ≡ Err (refusal reason.NoValue (length cells)) → r ≡ passed tb row cells place
  unfolding passed
  pass_behind h e = rw (lt-leb 414 row known, lt-ltb (length cells) place h) e

  pub pass_ended : {r : Result ℕ Refusal} → place ≤ length cells → Ended (length cells) (write (type_of (root_at tb) row) cells place) r → r ≡ passed tb row cells place
  unfolding passed EndedBy passed_by
  pass_ended {r} h t = rw (lt-leb 414 row known, le-ltb (length cells) place h) (go (write (type_of (root_at tb) row) cells place) t.told)
    where
      go : (g : Got ℕ Value) → EndedBy (length cells) g r → r ≡ passed_by g
      go (ok v bits next) u = u.0
      go (refused why) u = u
