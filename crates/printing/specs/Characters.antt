-- The ASCII codes of the characters that the programs read and print one by one, by name.
use Rattle.std.specs.Prelude.{ℕ}

-- the end of a line
abbrev pub line_end : ℕ
line_end = 10

-- `-`
abbrev pub minus_sign : ℕ
minus_sign = 45

-- `0`; the other digits follow it
abbrev pub digit_zero : ℕ
digit_zero = 48

-- `9`
abbrev pub digit_nine : ℕ
digit_nine = 57

-- `a`, which stands for 10 in hexadecimal; the other letters follow it
abbrev pub letter_a : ℕ
letter_a = 97
