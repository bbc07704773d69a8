-- What the rules say of a sheet.
use Rattle.std.specs.Prelude.{ℕ}

-- the first rule that is broken, by its number, with the entry that breaks it; 0 and 0 where none is
pub record Ruling : Type 0 where
  pub number : ℕ
  pub place : ℕ
