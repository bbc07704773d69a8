-- What the reading program prints for its standard input (document 01, "The program's output, whole").
use Rattle.std.specs.Prelude.{ℕ, List, [], cond, ℤ, pos, length, drop, replicate, ltb}
use Rattle.answers.specs.Refusals.{refusal}
use Rattle.answers.specs.Answers.{refused_by}
use Rattle.types.specs.Named.{first_edition}
use Rattle.meaning.specs.Messages.{told_reading, sheet_after}
use Rattle.printing.specs.Texts.{ascii, read_text}
use Rattle.records.specs.Records.{two_bytes}
use Rattle.answers.specs.declared.reasons.Reason.TheVariants as reason

-- the bytes of a type number in front of a message
abbrev pub type_bytes : ℕ
type_bytes = 2

-- how many cells the program lends
abbrev pub read_cells : ℕ
read_cells = 8192

-- the text for a message, read by its type number, where this sheet is lent
abbrev pub message_text : ℕ → List ℕ → List ℤ → List ℕ
message_text number message sheet = read_text (told_reading number message sheet).edition (told_reading number message sheet).answer (sheet_after number message sheet)

-- the text for an input: two bytes of type number, then the message; with fewer than two bytes no type is named
unfoldable pub input_text : List ℕ → List ℤ → List ℕ
input_text input sheet = cond (ltb (length input) type_bytes) (read_text first_edition (refused_by (refusal reason.UnknownType 0)) []) (message_text (two_bytes input) (drop type_bytes input) sheet)

-- what the program prints
abbrev pub program_text : List ℕ → List ℕ
program_text input = input_text input (replicate read_cells (pos 0))

-- what it prints where it has an argument
unfoldable pub read_usage : List ℕ
read_usage = ascii "use: knotsaffron_read < INPUT\nINPUT is two bytes of type number, high byte first, and then the message.\nIts edition, counts and cells are printed, or the refusal: docs/PROGRAMS.md says more.\n"
