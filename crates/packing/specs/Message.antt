-- The sheet of one message of a plan, and its length (document 02, A9: "measured by the writer's own length").
use Rattle.std.specs.Prelude.{ℕ, Bool, true, false, List, [], ◌∷◌, ◌++◌, ℤ, pos, length, set}
use Rattle.bits.specs.Bytes.{octets_for}
use Rattle.types.specs.Table.{type_of, the_rows}
use Rattle.meaning.specs.Steps.{out_of}
use Rattle.meaning.specs.Writing.{write}
use Rattle.messages.specs.Message.{message_frame}

-- where the sheet of a frame has the presence cell of the list of events, and of that of signs: behind the index of the alternative and the presence cell of moy
abbrev pub flag_at : Bool → ℕ
flag_at false = 2
flag_at true = 3

-- cells one behind the other
unfoldable pub joined : List (List ℤ) → List ℤ
joined [] = []
joined (piece ∷ more) = piece ++ joined more

-- "each with the same header fields": the cells of a header, an RSI with neither list, with the one list present; how many entries there are; and their cells
unfoldable pub message_sheet : Bool → List ℤ → List (List ℤ) → List ℤ
message_sheet signs header entries = set header (flag_at signs) (pos 1) ++ pos (length entries) ∷ joined entries

-- its octets
unfoldable pub message_octets : Bool → List ℤ → List (List ℤ) → ℕ
message_octets signs header entries = octets_for (length (out_of (write (type_of the_rows message_frame) (message_sheet signs header entries) 0)))
