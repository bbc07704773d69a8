-- The kinds of rows of a type table, by name: the number that stands in a row's column `kind`. A kind before `sequence` is coded as one number.
use Rattle.std.specs.Prelude.{ℕ}

-- INTEGER, and an item of a string (X.691, 13)
abbrev pub whole_number : ℕ
whole_number = 0

-- ENUMERATED (X.691, 14)
abbrev pub enumeration : ℕ
enumeration = 1

-- SEQUENCE (X.691, 19)
abbrev pub sequence : ℕ
sequence = 2

-- CHOICE (X.691, 23)
abbrev pub choice : ℕ
choice = 3

-- SEQUENCE OF and the strings (X.691, 16, 17, 20, 30)
abbrev pub list : ℕ
list = 4

-- a component of a sequence or an alternative of a choice, which is no type
abbrev pub component : ℕ
component = 5

-- a whole number with the open value whose type it chooses (X.691, 11.2; edition 2)
abbrev pub selector : ℕ
selector = 6

-- an open value of a known type, by its number: an addition of a sequence or a choice, or one that a selector chooses (edition 2)
abbrev pub known : ℕ
known = 7
