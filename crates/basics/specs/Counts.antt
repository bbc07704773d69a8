-- Numbers of 64 bits: counts that stop at the largest one, so that no count wraps, and the powers of 2 that fit.
use Rattle.std.specs.Prelude.{ℕ, min, ◌^◌, cond, ltb}

-- the largest number of 64 bits
abbrev pub largest : ℕ
largest = 18446744073709551615

-- a number, and the largest one of 64 bits where it is larger
abbrev pub capped : ℕ → ℕ
capped n = min n largest

-- 2 to the power of a number, where 64 bits hold it; else 0
unfoldable pub power_in : ℕ → ℕ
power_in n = cond (ltb n 64) (2 ^ n) 0
