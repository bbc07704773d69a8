-- The edition of the table, and the types that have a type number, and their rows (document 01, "The type table"; docs/TYPES.md names no others).
use Rattle.std.specs.Prelude.{ℕ, List, [], ◌∷◌, cond, length, get_or, ltb, pos, Option, Some, None}
use Rattle.answers.specs.Said.{Said}
use Rattle.answers.specs.Said as said
use Rattle.answers.specs.declared.reasons.Reason.TheVariants as reason

-- the edition that is known: YD/T 3709-2020, source 000 (document 02, A11)
abbrev pub first_edition : ℕ
first_edition = 1

-- the rows by type number, from 0 on: MessageFrame, Description, PositionOffsetLLV (`named-are` holds them against these names)
abbrev pub named : List ℕ
named = 413 ∷ 129 ∷ 236 ∷ []

-- the row of a type number, where it is named
unfoldable pub named_row : ℕ → Option ℕ
named_row type = cond (ltb type (length named)) (Some (get_or named type 0)) None

-- document 01's number, and the row as its value, for each case ("Forms for each place", the last paragraph)
unfoldable pub named_says : Option ℕ → Said
named_says (Some row) = said.done (pos row) 0 0
named_says None = said.refused reason.UnknownType 0

-- the row of a type number, or that it is not named (document 01, "Numbers given back")
unfoldable pub named_answer : ℕ → Said
named_answer type = cond (ltb type (length named)) (said.done (pos (get_or named type 0)) 0 0) (said.refused reason.UnknownType 0)
