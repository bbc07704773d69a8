-- The program's output, whole (document 01): the text for each answer of reading and of writing.
use Rattle.std.specs.Prelude.{ℕ, ◌+◌, ◌*◌, List, [], ◌∷◌, ◌++◌, cond, ℤ, take, eqb}
use Prim.Native.Char.{code}
use Prim.Native.String.{String, [] as empty, ◌∷◌ as ◌then◌}
use Rattle.answers.specs.declared.Answer.{Answer}
use Rattle.printing.specs.Digits.{decimal, signed, hex_byte}

-- the bytes of a text whose characters are all ASCII
unfoldable pub ascii : String → List ℕ
ascii empty = []
ascii (c then s) = code c ∷ ascii s

-- the texts of items, one behind the other
unfoldable pub each : {A : Type 0} → (A → List ℕ) → List A → List ℕ
each text [] = []
each text (x ∷ xs) = text x ++ each text xs

-- each byte in two hexadecimal digits
abbrev pub hexadecimal : List ℕ → List ℕ
hexadecimal bytes = each hex_byte bytes

-- a refusal, with the unit in which its place is counted
abbrev pub refused_text : List ℕ → Answer → List ℕ
refused_text unit a = ascii "refused " ++ decimal a.number ++ ascii " at " ++ unit ++ ascii " " ++ decimal a.place ++ ascii "\n"

-- each cell on a line of its own
abbrev pub cell_line : ℤ → List ℕ
cell_line z = signed z ++ ascii "\n"

abbrev pub cell_lines : List ℤ → List ℕ
cell_lines cells = each cell_line cells

-- the line of an edition
abbrev pub edition_line : ℕ → List ℕ
edition_line edition = ascii "edition " ++ decimal edition ++ ascii "\n"

-- reading: the edition (document 02, A11), the counts, then the cells that were read, which are the first of the sheet. Where an answer counts more cells than the sheet has, those that are there.
unfoldable pub read_text : ℕ → Answer → List ℤ → List ℕ
read_text edition a sheet =
    cond (eqb a.number 0)
    (edition_line edition ++ ascii "accepted " ++ decimal a.bits ++ ascii " bits " ++ decimal a.count ++ ascii " cells\n" ++ cell_lines (take a.count sheet))
    (refused_text (ascii "bit") a)

-- writing: the message, which is the first of the bytes. Where an answer counts more bytes than there are, those that are there.
unfoldable pub written_text : Answer → List ℕ → List ℕ
written_text a bytes =
    cond (eqb a.number 0)
    (hexadecimal (take a.count bytes) ++ ascii "\n")
    (refused_text (ascii "cell") a)

-- ---- how many bytes are always enough: a number of 64 bits has at most 20 digits

-- `edition N` and `accepted N bits M cells`, with their ends of line
abbrev pub longest_first_lines : ℕ
longest_first_lines = 91

-- a cell with its end of line: a minus sign and 19 digits
abbrev pub longest_cell_line : ℕ
longest_cell_line = 21

-- `refused N at cell P` with its end of line
abbrev pub longest_refusal : ℕ
longest_refusal = 58

-- for what reading answers, with a sheet of so many cells
abbrev pub read_room : ℕ → ℕ
read_room cells = longest_first_lines + longest_cell_line * cells

-- for what writing answers, with so many bytes: two digits for each
abbrev pub written_room : ℕ → ℕ
written_room bytes = longest_refusal + 2 * bytes
