-- Whole numbers on a ring.
use Rattle.std.specs.Prelude.{ℕ, ◌-◌, ◌%◌, ℤ, pos, negsuc}

-- a whole number taken round the ring of n: 0 to n − 1 are themselves, n is 0 again, −1 is n − 1. (`negsuc a` is −1 − a)
abbrev pub around : ℕ → ℤ → ℕ
around n (pos a) = a % n
around n (negsuc a) = n - 1 - a % n
