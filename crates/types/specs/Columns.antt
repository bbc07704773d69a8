-- The columns of a row in a table of numbers, by name (document 01, "The type table").
use Rattle.std.specs.Prelude.{ℕ}

abbrev pub kind : ℕ
kind = 0

abbrev pub mark : ℕ
mark = 1

-- the lowest plus `bias`
abbrev pub lowest : ℕ
lowest = 2

-- the highest minus the lowest
abbrev pub span : ℕ
span = 3

abbrev pub first : ℕ
first = 4

abbrev pub count : ℕ
count = 5
