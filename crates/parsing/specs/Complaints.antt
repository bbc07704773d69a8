-- What is printed for a text that is no sheet.
use Rattle.std.specs.Prelude.{ℕ, List, [], ◌++◌, Ok, Err}
use Rattle.printing.specs.Digits.{decimal}
use Rattle.printing.specs.Texts.{ascii}
use Rattle.parsing.specs.Sheets.{Parsed}
use Rattle.parsing.specs.declared.ParseError.TheVariants.{NoEdition, NoNumber, OutOfRange, NoRoom}

-- for a sheet nothing
unfoldable pub complaint : Parsed → List ℕ
complaint (Ok (of, count)) = []
complaint (Err NoEdition) = ascii "line 1 is no edition\n"
complaint (Err (NoNumber line)) = ascii "line " ++ decimal line ++ ascii " is no number\n"
complaint (Err (OutOfRange line)) = ascii "line " ++ decimal line ++ ascii " is no 64-bit number\n"
complaint (Err (NoRoom needed)) = ascii "no room for " ++ decimal needed ++ ascii " cells\n"

-- a complaint has at most 46 bytes: `line N is no 64-bit number` with its end of line, and a number of 64 bits has at most 20 digits
abbrev pub longest_complaint : ℕ
longest_complaint = 46
