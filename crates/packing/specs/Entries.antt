-- The header of the messages of a plan and the entries that are packed into them (document 02, A9: "Input is one list at a time, events or signs, each with
-- the same header fields, at most 64 entries"). No type of the table holds 64 entries, so they have a form of their own (docs/PLANS.md).
use Rattle.std.specs.Prelude.{ℕ, zero, suc, ◌-◌, Bool, true, false, cond, not, ◌&&◌, List, [], ◌∷◌, ℤ, pos, negsuc, length, take, drop, eqb, leb, ltb}
use Rattle.meaning.specs.Values.{Value}
use Rattle.meaning.specs.Steps.{Got}
use Rattle.meaning.specs.Steps.Got.{ok, refused}
use Rattle.sheet.specs.Values.{has}
use Rattle.sheet.specs.Standing.{value_at}
use Rattle.messages.specs.Message.{Message, message, no_message, rsi_frame}
use Rattle.rules.specs.Components.{rtes, rtss}
use Rattle.rules.specs.Lists.{item_row}

-- the number of a cell where it is below a bound, else the bound
unfoldable pub below : ℕ → ℤ → ℕ
below bound (pos n) = cond (ltb n bound) n bound
below bound (negsuc n) = bound

-- ---- the header: a sheet of type 0, "an RSI with neither list"

unfoldable pub header_in : Message → Bool
header_in (message kind rsi) = eqb kind rsi_frame && not (has rtes rsi) && not (has rtss rsi)
header_in (no_message why) = false

-- ---- the entries: a cell with their count, "at most 64 entries", then the entries one behind the other, and nothing behind

pub data Pieces : Type 0 where
  pieces : List (List ℤ) → Pieces  -- the cells of each entry
  no_pieces : Pieces

abbrev pub most_entries : ℕ
most_entries = 64

unfoldable pub with_piece : List ℤ → Pieces → Pieces
with_piece cells (pieces more) = pieces (cells ∷ more)
with_piece cells no_pieces = no_pieces

-- so many values of the type of a row, from a place on up to the end
unfoldable pub pieces_by : List ℤ → ℕ → Got ℕ Value → (ℕ → Pieces) → Pieces
pieces_by cells p (ok v bits next) behind = with_piece (take (next - p) (drop p cells)) (behind next)
pieces_by cells p (refused why) behind = no_pieces

unfoldable pub pieces_from : ℕ → ℕ → List ℤ → ℕ → Pieces
pieces_from row zero cells p = cond (eqb p (length cells)) (pieces []) no_pieces
pieces_from row (suc n) cells p = pieces_by cells p (value_at cells row p) (pieces_from row n cells)

unfoldable pub entries_of : Bool → List ℤ → Pieces
entries_of signs [] = no_pieces
entries_of signs (pos n ∷ cells) = cond (leb n most_entries) (pieces_from (item_row signs) n (pos n ∷ cells) 1) no_pieces
entries_of signs (negsuc n ∷ cells) = no_pieces

-- ---- the list that they stand in: RTEList has at most 8 entries, RTSList 16 (source 000, 5.2.3.54 and 5.2.3.56)

abbrev pub most_in : Bool → ℕ
most_in false = 8
most_in true = 16
