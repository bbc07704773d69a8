-- What the writing program prints for its standard input, a sheet as text, the edition on the first line, the type number on the second and then a cell on each;
-- and what the batches of sheets print for a record, an edition, a type number and cells in bytes.
use Rattle.std.specs.Prelude.{ℕ, ◌+◌, List, [], cond, ℤ, pos, length, take, drop, replicate, ltb, Option, Some, None, Result, Ok, Err}
use Rattle.answers.specs.Refusals.{refusal}
use Rattle.answers.specs.Answers.{refused_by}
use Rattle.bits.specs.Limits.{most_bytes, most_bits}
use Rattle.meaning.specs.Messages.{write_message, bytes_after}
use Rattle.printing.specs.Texts.{ascii, written_text}
use Rattle.parsing.specs.Complaints.{complaint}
use Rattle.parsing.specs.Sheets.{Parsed, parsed, cells_after}
use Rattle.records.specs.Records.{two_bytes, first_record, record_of}
use Rattle.records.specs.declared.Cut.{Cut}
use Rattle.records.specs.declared.Record.{Record}
use Rattle.programs.specs.Inputs.{type_bytes}
use Rattle.programs_writing.specs.Cells.{cells_in}
use Rattle.answers.specs.declared.reasons.Reason.TheVariants as reason

-- how many bytes are lent: no message has more (document 01, "Numbers given back", row 1)
abbrev pub written_bytes : ℕ
written_bytes = most_bytes

-- how many cells are lent: as many as 2,048 bytes have bits, and no message has more cells than bits
abbrev pub written_cells : ℕ
written_cells = most_bits

-- the message of a sheet in hexadecimal, or the refusal, where these bytes are lent
abbrev pub message_of : ℕ → ℕ → List ℤ → List ℕ → List ℕ
message_of edition number sheet lent = written_text (write_message edition number sheet lent) (bytes_after edition number sheet lent)

-- ---- a sheet as text

-- the message, where the text is a sheet; else what is wrong with the text
unfoldable pub parsed_text : Parsed → List ℤ → List ℕ → List ℕ
parsed_text (Ok (of, count)) cells lent = message_of of.edition of.type_number (take count cells) lent
parsed_text (Err why) cells lent = complaint (Err why)

-- the text, where these cells and these bytes are lent
abbrev pub sheet_text : List ℕ → List ℤ → List ℕ → List ℕ
sheet_text input cells lent = parsed_text (parsed input (length cells)) (cells_after input cells) lent

-- the longest text that is taken: an edition, a type number and 16,384 cells, each with its end of line, have at most 344,114 bytes, and the rest is for needless zeros
abbrev pub most_text : ℕ
most_text = 393215

-- what the program prints: a longer text is not taken for its beginning
unfoldable pub write_text : List ℕ → List ℕ
write_text input =
    cond (ltb most_text (length input)) (ascii "text of more than 393215 bytes\n") (sheet_text input (replicate written_cells (pos 0)) (replicate written_bytes 0))

-- what it prints where it has an argument
unfoldable pub write_usage : List ℕ
write_usage = ascii "use: knotsaffron_write < INPUT\nINPUT is a sheet as text: a line edition 1, the type number, then a cell on each line.\nIts message is printed in hexadecimal, or what is wrong: docs/PROGRAMS.md says more.\n"

-- ---- a sheet in bytes

-- the bytes of an edition in front of a type number
abbrev pub edition_bytes : ℕ
edition_bytes = 2

abbrev pub label_bytes : ℕ
label_bytes = edition_bytes + type_bytes

-- two bytes of edition and two of type number, then the cells; with fewer bytes no type is named
unfoldable pub content_text : List ℕ → List ℕ
content_text content =
    cond (ltb (length content) label_bytes) (written_text (refused_by (refusal reason.UnknownType 0)) [])
    (message_of (two_bytes content) (two_bytes (drop edition_bytes content)) (cells_in (drop label_bytes content)) (replicate written_bytes 0))

-- what is printed for a record of a batch; for one that is not whole nothing
unfoldable pub sheet_line : Result (Option Record) Cut → List ℕ → List ℕ
sheet_line (Ok (Some r)) content = content_text content
sheet_line (Err why) content = []
sheet_line (Ok None) content = []

abbrev pub written_record : List ℕ → List ℕ
written_record held = sheet_line (first_record held) (record_of held)
