-- What a walk answers, said apart from the one number that the code hands on.
use Rattle.std.specs.Prelude.{ℕ}
use Rattle.answers.specs.declared.Refusal.{Refusal}

-- where it went: what it tells, the next place in the source and the next in the target; or why it stopped
pub data Went : Type 0 where
  On : ℕ → ℕ → ℕ → Went
  No : Refusal → Went
