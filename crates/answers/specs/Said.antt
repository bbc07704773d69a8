-- What an answer says: the number of document 01, "Numbers given back", with its place and the values that go with it.
use Rattle.std.specs.Prelude.{ℕ, ℤ, pos}
use Rattle.answers.specs.GivenBack as number
use Rattle.answers.specs.Reasons.{reason_number}
use Rattle.answers.specs.Refusals as refusals
use Rattle.answers.specs.declared.reasons.Reason.{Reason}
use Rattle.answers.specs.declared.Refusal.{Refusal}

-- "Every count not named in a row is 0", and so are the other values
pub record Said : Type 0 where
  pub number : ℕ
  pub place : ℕ
  pub row : ℕ  -- with 41 to 44, the row of the type whose range the code is outside of (document 02, A2)
  pub lacking : ℕ  -- with 3, how many bits of the field are not there (document 02, A6)
  pub value : ℤ  -- the value, code or row that was asked for
  pub next : ℕ  -- the place after it
  pub count : ℕ  -- how many cells or bytes; with 8, how many are needed

-- 0: done
abbrev pub done : ℤ → ℕ → ℕ → Said
done value next count = record { number = number.done; place = 0; row = 0; lacking = 0; value = value; next = next; count = count }

-- what a refusal says: all that it carries
abbrev pub refusal_says : Refusal → Said
refusal_says why = record { number = reason_number why.reason; place = why.place; row = why.row; lacking = why.lacking; value = pos 0; next = 0; count = 0 }

-- a reason with its place, and nothing else
abbrev pub refused : Reason → ℕ → Said
refused reason place = refusal_says (refusals.refusal reason place)

-- 8: no room, "0; with the cells or bytes needed"
abbrev pub no_room : ℕ → Said
no_room needed = record { number = number.no_room; place = 0; row = 0; lacking = 0; value = pos 0; next = 0; count = needed }

-- a reason with its place and the row that it names, and nothing else
abbrev pub naming : Reason → ℕ → ℕ → Said
naming reason row place = refusal_says (refusals.naming reason row place)

-- 3, with how many bits of the field are not there
abbrev pub short_by : ℕ → ℕ → Said
short_by lacking place = refusal_says (refusals.short_by lacking place)
