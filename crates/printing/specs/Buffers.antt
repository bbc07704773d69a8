-- A text in a lent buffer: put there from the first byte on, or not at all.
use Rattle.std.specs.Prelude.{ℕ, ◌+◌, List, cond, ◌≡◌, pos, length, leb, Result, Ok, Err}
use Rattle.std.proofs.lemmas.List.Edits.{sets}
use Rattle.answers.specs.Said.{Said}
use Rattle.answers.specs.Said as said
use Rattle.basics.specs.Lists.{filled}
use Rattle.basics.specs.Counts.{capped}
use Rattle.printing.specs.declared.NoRoom.{NoRoom}

-- there is no room for so many bytes
abbrev pub no_room : ℕ → NoRoom
no_room needed = record { needed = needed }

-- how long the text is, and whether it was put there; a length of more than 64 bits is told as the largest number of 64 bits
unfoldable pub printed : List ℕ → ℕ → Result ℕ NoRoom
printed text room = cond (leb (length text) room) (Ok (length text)) (Err (no_room (capped (length text))))

-- document 01's number, and the bytes as its count, for each case ("Forms for each place", the last paragraph)
abbrev pub printed_says : Result ℕ NoRoom → Said
printed_says (Ok n) = said.done (pos 0) 0 n
printed_says (Err why) = said.no_room why.needed

-- 8: fewer bytes are lent than the text has, with those needed (document 01, "Numbers given back"); else how long it is
unfoldable pub print_answer : List ℕ → ℕ → Said
print_answer text room = cond (leb (length text) room) (said.done (pos 0) 0 (length text)) (said.no_room (capped (length text)))

-- the buffer behind an answer: with the text in front where it was put there, else as it was
unfoldable pub after_printing : Result ℕ NoRoom → List ℕ → List ℕ → List ℕ
after_printing (Ok n) text out = filled text out
after_printing (Err why) text out = out

-- the buffer after a text was printed
abbrev pub buffer_after : List ℕ → List ℕ → List ℕ
buffer_after text out = after_printing (printed text (length out)) text out

-- a piece of text was appended at a place: the bytes that the buffer has there are the piece's, and the next place is behind it, whether the buffer has it or not
pub record Appended (piece : List ℕ) (out : List ℕ) (at : ℕ) (next : ℕ) (out' : List ℕ) : Type 0 where
  pub place : next ≡ capped (at + length piece)
  pub bytes : out' ≡ sets out at piece
