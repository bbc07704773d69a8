-- A sheet as text: its edition on the first line, the type number on the second, then a cell on each line (document 02, A11: a stored sheet carries both).
use Rattle.std.specs.Prelude.{ℕ, suc, List, [], ◌∷◌, ◌++◌, cond, ◌≡◌, ℤ, length, leb, Result, Ok, Err}
use Rattle.std.proofs.lemmas.List.Edits.{sets}
use Rattle.basics.specs.Lists.{filled}
use Rattle.printing.specs.Digits.{decimal}
use Rattle.printing.specs.Texts.{ascii, edition_line, cell_lines}
use Rattle.parsing.specs.Lines.{lines}
use Rattle.parsing.specs.Numbers.{Cell, Whole, cell_of, whole_of, edition_of}
use Rattle.parsing.specs.declared.Label.{Label}
use Rattle.parsing.specs.declared.NumberError.{NumberError}
use Rattle.parsing.specs.declared.NumberError.TheVariants as kind
use Rattle.parsing.specs.declared.ParseError.{ParseError}
use Rattle.parsing.specs.declared.ParseError.TheVariants.{NoEdition, NoNumber, OutOfRange, NoRoom}

-- the text of a sheet: what the reading program prints, but for its second line, which is the type number
abbrev pub sheet_text : ℕ → ℕ → List ℤ → List ℕ
sheet_text edition number zs = edition_line edition ++ decimal number ++ ascii "\n" ++ cell_lines zs

-- the lines of a text, counted from 1: the edition, the type number, and where the cells begin
abbrev pub edition_at : ℕ
edition_at = 1

abbrev pub type_at : ℕ
type_at = 2

abbrev pub cells_at : ℕ
cells_at = 3

-- what stands beside a sheet
abbrev pub label : ℕ → ℕ → Label
label edition number = record { edition = edition; type_number = number }

-- what a text gives as a sheet, with how many cells, or why it gives none
abbrev pub Parsed : Type 0
Parsed = Result (Label × ℕ) ParseError

-- why a text is no sheet, by why a line of it is no number
unfoldable pub error_at : NumberError → ℕ → ParseError
error_at kind.NoNumber line = NoNumber line
error_at kind.OutOfRange line = OutOfRange line

-- ---- the cells of lines

-- why a line is wrong
pub data Fault : Type 0 where
  no_number : Fault
  out_of_range : Fault

-- the answer for a wrong line
unfoldable pub answer_for : Fault → ℕ → Parsed
answer_for no_number line = Err (NoNumber line)
answer_for out_of_range line = Err (OutOfRange line)

-- what lines give: cells, or the first line that is wrong
pub data Cells : Type 0 where
  cells : List ℤ → Cells
  wrong : Fault → ℕ → Cells

-- a cell in front of others
unfoldable pub before : ℤ → Cells → Cells
before z (cells zs) = cells (z ∷ zs)
before z (wrong why line) = wrong why line

-- what a line gives, which has this number, in front of what the lines behind it give
unfoldable pub cell_then : ℕ → Cell → Cells → Cells
cell_then line (Ok z) rest = before z rest
cell_then line (Err kind.NoNumber) rest = wrong no_number line
cell_then line (Err kind.OutOfRange) rest = wrong out_of_range line

-- the cells of lines, the first of which has this number
unfoldable pub cells_of : ℕ → List (List ℕ) → Cells
cells_of line [] = cells []
cells_of line (l ∷ ls) = cell_then line (cell_of l) (cells_of (suc line) ls)

-- ---- the whole

-- a label and cells, where so many cells are lent
unfoldable pub placed : Label → ℕ → Cells → Parsed
placed of room (cells zs) = cond (leb (length zs) room) (Ok (of, length zs)) (Err (NoRoom (length zs)))
placed of room (wrong why line) = answer_for why line

-- by what the second line gives as a type number, and by the cells of those behind it
unfoldable pub typed : ℕ → Whole → ℕ → Cells → Parsed
typed edition (Ok number) room rest = placed (label edition number) room rest
typed edition (Err kind.NoNumber) room rest = Err (NoNumber type_at)
typed edition (Err kind.OutOfRange) room rest = Err (OutOfRange type_at)

-- where there is no second line, it is no number
unfoldable pub typed_lines : ℕ → List (List ℕ) → ℕ → Parsed
typed_lines edition [] room = Err (NoNumber type_at)
typed_lines edition (l ∷ ls) room = typed edition (whole_of l) room (cells_of cells_at ls)

-- by what the first line gives as an edition
unfoldable pub edited : Whole → List (List ℕ) → ℕ → Parsed
edited (Ok edition) rest room = typed_lines edition rest room
edited (Err kind.NoNumber) rest room = Err NoEdition
edited (Err kind.OutOfRange) rest room = Err (OutOfRange edition_at)

-- where there is no line, the first is no edition
unfoldable pub parsed_lines : List (List ℕ) → ℕ → Parsed
parsed_lines [] room = Err NoEdition
parsed_lines (l ∷ ls) room = edited (edition_of l) ls room

-- what a text gives as a sheet, where so many cells are lent
abbrev pub parsed : List ℕ → ℕ → Parsed
parsed text room = parsed_lines (lines text) room

-- the cells that lines give: none where one is wrong
unfoldable pub listed : Cells → List ℤ
listed (cells zs) = zs
listed (wrong why line) = []

-- the lines behind the first
unfoldable pub behind_first : List (List ℕ) → List (List ℕ)
behind_first [] = []
behind_first (l ∷ ls) = ls

-- the cells of a text
abbrev pub cells_in : List ℕ → List ℤ
cells_in text = listed (cells_of cells_at (behind_first (behind_first (lines text))))

-- the lent cells behind an answer: with a sheet its cells and then what was there, else as they were
unfoldable pub after_parsing : Parsed → List ℤ → List ℤ → List ℤ
after_parsing (Ok (of, count)) zs lent = filled zs lent
after_parsing (Err why) zs lent = lent

-- the lent cells after a text was taken
abbrev pub cells_after : List ℕ → List ℤ → List ℤ
cells_after text lent = after_parsing (parsed text (length lent)) (cells_in text) lent

-- ---- for the pass that fills: what it answers where there is room for all cells
unfoldable pub unplaced : Label → Cells → Parsed
unplaced of (cells zs) = Ok (of, length zs)
unplaced of (wrong why line) = answer_for why line

-- what the pass answers, and that it stores the cells where the lines give cells
pub record Filled (of : Label) (rest : Cells) (lent : List ℤ) (answer : Parsed) (lent' : List ℤ) : Type 0 where
  pub told : answer ≡ unplaced of rest
  pub stored : (zs : List ℤ) → rest ≡ cells zs → lent' ≡ sets lent 0 zs
