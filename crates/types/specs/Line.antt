-- A line of the auditor's table: a row with its name, and with the name of the row that it refers to.
use Prim.Native.String.{String}
use Rattle.std.specs.Prelude.{List, [], ◌∷◌}
use Rattle.types.specs.Row.{Row}

pub record Line : Type 0 where
  pub name : String  -- a type's name in source 000; of a component or an alternative `Type.component`
  pub row : Row
  pub refers_to : String  -- the name of a list's item, and of the type of a component; else no text

infixl 70 ◌is◌ ◌of◌
-- a row that refers to no other, or that refers to its components
abbrev pub ◌is◌ : String → Row → Line
name is row = record { name = name; row = row; refers_to = "" }

-- a row that refers to another: a list of items, or a component of a type
abbrev pub ◌of◌ : Line → String → Line
line of other = record { name = line.name; row = line.row; refers_to = other }

abbrev pub rows_of : List Line → List Row
rows_of [] = []
rows_of (line ∷ lines) = line.row ∷ rows_of lines

abbrev pub names_of : List Line → List String
names_of [] = []
names_of (line ∷ lines) = line.name ∷ names_of lines
