-- What is measured of header and entries.
use Rattle.std.specs.Prelude.{ℕ, Bool, List}

-- whether they are of their form; how many entries there are; how many bits a message has besides those of its entries; and how many bits each entry has,
-- which stop at one more than every message has room for. All are 0 where they are not of their form
pub record Lengths : Type 0 where
  pub formed : Bool
  pub count : ℕ
  pub base : ℕ
  pub sizes : List ℕ
