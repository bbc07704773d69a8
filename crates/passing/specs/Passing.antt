-- Where a value of a row's type ends in a sheet: what writing it would answer, without its bits.
use Rattle.std.specs.Prelude.{ℕ, List, cond, ℤ, pos, length, leb, ltb, Result, Ok, Err}
use Rattle.answers.specs.declared.Refusal.{Refusal}
use Rattle.answers.specs.Said.{Said, refusal_says}
use Rattle.answers.specs.Said as said
use Rattle.answers.specs.Refusals.{refusal}
use Rattle.types.specs.Rows.{row_count}
use Rattle.types.specs.Table.{root_at, type_of}
use Rattle.meaning.specs.Values as values
use Rattle.meaning.specs.Steps.{Got}
use Rattle.meaning.specs.Steps.Got.{ok, refused}
use Rattle.meaning.specs.Writing.{write}
use Rattle.answers.specs.declared.reasons.Reason.TheVariants as reason

unfoldable pub passed_by : Got ℕ values.Value → Result ℕ Refusal
passed_by (ok v bits next) = Ok next
passed_by (refused why) = Err why

-- 2 for a row number that the table of source 000 does not have, 7 at the sheet's length for a place behind it, else as writing answers
unfoldable pub passed : List ℕ → ℕ → List ℤ → ℕ → Result ℕ Refusal
passed tb row cells place =
    cond (leb row_count row) (Err (refusal reason.UnknownType 0))
    (cond (ltb (length cells) place) (Err (refusal reason.NoValue (length cells)))
    (passed_by (write (type_of (root_at tb) row) cells place)))

-- ---- document 01's number, place and values for each case ("Forms for each place", the last paragraph)

unfoldable pub passed_says : Result ℕ Refusal → Said
passed_says (Ok next) = said.done (pos 0) next 0
passed_says (Err why) = refusal_says why

-- 7: the first wrong cell, or the sheet's length where cells lack, as writing finds it; else the place after the value
unfoldable pub value_answer : Got ℕ values.Value → Said
value_answer (ok v bits next) = said.done (pos 0) next 0
value_answer (refused why) = said.refused reason.NoValue why.place

-- the numbers in their order ("Numbers given back"). 2: a row number that the table does not have; 7: a place behind the sheet
unfoldable pub pass_answer : List ℕ → ℕ → List ℤ → ℕ → Said
pass_answer tb row cells place =
    cond (leb row_count row) (said.refused reason.UnknownType 0)
    (cond (ltb (length cells) place) (said.refused reason.NoValue (length cells))
    (value_answer (write (type_of (root_at tb) row) cells place)))
