-- Rows by name: the row of a name and the name of a row, and the tests that hold the names of a table against its rows.
use Rattle.std.specs.Prelude.{ℕ, zero, suc, ◌+◌, List, [], ◌∷◌, Bool, true, false, cond, get_or}
use Prim.Native.String.{String, ◌++◌}
use lib.Text.{eqt}
use text.Mathlib.Text.{starts_with}
use Rattle.types.specs.Row.{Row}
use Rattle.types.specs.Line.{Line, names_of}
use Rattle.types.specs.Rows.{table}
use Rattle.types.specs.Rule.{◌&◌, parts, has_type}

abbrev pub names : List String
names = names_of table

-- where a text stands in a list; its length where it does not
abbrev pub place_in : List String → String → ℕ
place_in [] text = 0
place_in (t ∷ ts) text = cond (eqt text t) 0 (suc (place_in ts text))

-- the row of a name; the count of rows where no row has the name
abbrev pub row_of : String → ℕ
row_of = place_in names

-- the name of a row; no text past the end
abbrev pub name_of : ℕ → String
name_of row = get_or names row ""

-- the rows of several names, in their order
abbrev pub rows_named : List String → List ℕ
rows_named [] = []
rows_named (text ∷ texts) = row_of text ∷ rows_named texts

-- ---- the test that all names differ

-- whether a text is one of a list
unfoldable pub among : List String → String → Bool
among [] text = false
among (t ∷ ts) text = cond (eqt t text) true (among ts text)

unfoldable pub differ : List String → Bool
differ [] = true
differ (t ∷ ts) = cond (among ts t) false (differ ts)

-- ---- the test that names fit rows: a component or an alternative has the name of its type in front, and the row that a list or a component refers to has the name that the line says

-- n rows from row f have names that begin with the type's name and a point
unfoldable pub parts_named : String → ℕ → ℕ → Bool
parts_named type f zero = true
parts_named type f (suc n) = starts_with (name_of f) (type ++ ".") & parts_named type (f + 1) n

-- the name of the row that a list, a component or an open value refers to
unfoldable pub referred_to : Row → String
referred_to r = cond (has_type r) (name_of r.first) ""

unfoldable pub fit : List Line → Bool
fit [] = true
fit (line ∷ lines) = parts_named line.name line.row.first (parts line.row) & eqt (referred_to line.row) line.refers_to & fit lines
