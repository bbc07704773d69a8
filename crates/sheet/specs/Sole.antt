-- A sheet that is one value and nothing besides (document 01, "The sheet": "exactly the value, with no spare cell"; "Numbers given back", 7).
use Rattle.std.specs.Prelude.{ℕ, List, cond, ℤ, length, ltb, Result, Ok, Err}
use Rattle.answers.specs.declared.Refusal.{Refusal}
use Rattle.answers.specs.Refusals.{refusal}
use Rattle.meaning.specs.Values.{Value}
use Rattle.meaning.specs.Steps.{Got}
use Rattle.meaning.specs.Steps.Got.{ok, refused}
use Rattle.passing.specs.Passing.{passed}
use Rattle.sheet.specs.Standing.{value_at}
use Rattle.answers.specs.declared.reasons.Reason.TheVariants as reason

-- ---- over the value

pub data Sole : Type 0 where
  value : Value → Sole
  none : Refusal → Sole

-- 7, however long its bytes would be: the first wrong cell, or the sheet's length where cells lack, as writing finds it; else the first spare cell
unfoldable pub sole_by : ℕ → Got ℕ Value → Sole
sole_by cells (ok v bits next) = cond (ltb next cells) (none (refusal reason.NoValue next)) (value v)
sole_by cells (refused why) = none why

-- the value of the type of a row of source 000 that a sheet is
abbrev pub sole_value : ℕ → List ℤ → Sole
sole_value row cells = sole_by (length cells) (value_at cells row 0)

-- ---- over the sheet

-- where the value ends, which is the sheet's end
unfoldable pub sole_end : ℕ → Result ℕ Refusal → Result ℕ Refusal
sole_end cells (Ok next) = cond (ltb next cells) (Err (refusal reason.NoValue next)) (Ok next)
sole_end cells (Err why) = Err why

abbrev pub sole_at : List ℕ → ℕ → List ℤ → Result ℕ Refusal
sole_at tb row cells = sole_end (length cells) (passed tb row cells 0)
