-- What a text says as a sheet: document 01's number and values where it has one, else the line that is wrong.
use Rattle.std.specs.Prelude.{ℕ, List, [], ◌∷◌, cond, pos, length, leb, Ok, Err}
use Rattle.answers.specs.Said.{Said}
use Rattle.answers.specs.Said as said
use Rattle.parsing.specs.Lines.{lines}
use Rattle.parsing.specs.Numbers.{Whole, whole_of, edition_of}
use Rattle.parsing.specs.Sheets.{Fault, no_number, out_of_range, Cells, cells, wrong, cells_of, edition_at, type_at, cells_at, label, Parsed}
use Rattle.parsing.specs.declared.Label.{Label}
use Rattle.parsing.specs.declared.NumberError.TheVariants as kind
use Rattle.parsing.specs.declared.ParseError.TheVariants.{NoEdition, NoNumber, OutOfRange, NoRoom}

-- document 01 numbers what is wrong with a sheet, and says nothing of texts: a line that is no cell has no number there. A sheet has what stands beside it besides
pub data Report : Type 0 where
  sheet_of : Label → Said → Report
  numbered : Said → Report
  no_edition : Report
  wrong_line : Fault → ℕ → Report

-- ---- case by case (document 01, "Forms for each place", the last paragraph): the cells are the count

unfoldable pub parsed_says : Parsed → Report
parsed_says (Ok (of, count)) = sheet_of of (said.done (pos 0) 0 count)
parsed_says (Err NoEdition) = no_edition
parsed_says (Err (NoNumber line)) = wrong_line no_number line
parsed_says (Err (OutOfRange line)) = wrong_line out_of_range line
parsed_says (Err (NoRoom needed)) = numbered (said.no_room needed)

-- ---- the first wrong line; then 8: fewer cells are lent (document 01, "Numbers given back"); else edition, type number and cells

-- the cells of the lines behind the second
unfoldable pub cells_answer : Label → ℕ → Cells → Report
cells_answer of room (cells zs) = cond (leb (length zs) room) (sheet_of of (said.done (pos 0) 0 (length zs))) (numbered (said.no_room (length zs)))
cells_answer of room (wrong why line) = wrong_line why line

-- the type number of the second line
unfoldable pub type_answer : ℕ → Whole → ℕ → Cells → Report
type_answer edition (Ok number) room rest = cells_answer (label edition number) room rest
type_answer edition (Err kind.NoNumber) room rest = wrong_line no_number type_at
type_answer edition (Err kind.OutOfRange) room rest = wrong_line out_of_range type_at

-- the lines behind the first; where there is none, the second is no number
unfoldable pub rest_answer : ℕ → List (List ℕ) → ℕ → Report
rest_answer edition [] room = wrong_line no_number type_at
rest_answer edition (l ∷ ls) room = type_answer edition (whole_of l) room (cells_of cells_at ls)

-- the edition of the first line
unfoldable pub edition_answer : Whole → List (List ℕ) → ℕ → Report
edition_answer (Ok edition) rest room = rest_answer edition rest room
edition_answer (Err kind.NoNumber) rest room = no_edition
edition_answer (Err kind.OutOfRange) rest room = wrong_line out_of_range edition_at

-- lines; where there is none, the first is no edition
unfoldable pub lines_answer : List (List ℕ) → ℕ → Report
lines_answer [] room = no_edition
lines_answer (l ∷ ls) room = edition_answer (edition_of l) ls room

-- a text, where so many cells are lent
abbrev pub parse_answer : List ℕ → ℕ → Report
parse_answer text room = lines_answer (lines text) room
