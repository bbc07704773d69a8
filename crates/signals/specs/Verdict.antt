-- What the check of a signal message against a map says.
use Rattle.std.specs.Prelude.{ℕ}

-- the first failure: its number, the node or the signal entry, and the phase; all 0 where there is none
pub record Verdict : Type 0 where
  pub number : ℕ
  pub node : ℕ
  pub phase : ℕ
