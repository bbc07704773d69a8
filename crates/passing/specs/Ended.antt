-- What a walk over cells answers, of what writing means: the contract of each function that walks.
use Rattle.std.specs.Prelude.{ℕ, ◌≤◌, Bool, false, ◌≡◌, leb, ℤ, pos, negsuc, Result, Ok, Err}
use Rattle.answers.specs.declared.Refusal.{Refusal}
use Rattle.meaning.specs.Steps.{Got}
use Rattle.meaning.specs.Steps.Got.{ok, refused}

-- end: the sheet's length, which no value passes. What is told and the bits are not asked for
unfoldable pub EndedBy : {X : Type 0} → ℕ → Got ℕ X → Result ℕ Refusal → Type 0
EndedBy end (ok x bits next) r = (r ≡ Ok next) × (next ≤ end)
EndedBy end (refused why) r = r ≡ Err why

-- `EndedBy` as a record, so that a law's arguments are found
pub record Ended {X : Type 0} (end : ℕ) (g : Got ℕ X) (r : Result ℕ Refusal) : Type 0 where
  pub told : EndedBy end g r

-- a number so far above the lowest of a range is in it
abbrev pub in_range : ℕ → ℤ → Bool
in_range span (pos n) = leb n span
in_range span (negsuc n) = false
