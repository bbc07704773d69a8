-- How many bits the parts of a message have, each measured alone by the writer: its header, and each of its entries. What they come to is the message's length
-- (`message-length` in proofs/Length.antt).
use Rattle.std.specs.Prelude.{ℕ, ◌+◌, ◌-◌, min, Bool, true, false, cond, ◌&&◌, List, [], ◌∷◌, ℤ, length, replicate, eqb, ltb}
use Rattle.basics.specs.Lists.{filled}
use Rattle.bits.specs.Numbers.{width}
use Rattle.types.specs.Table.{type_of, the_rows}
use Rattle.meaning.specs.Steps.{out_of}
use Rattle.meaning.specs.Writing.{write}
use Rattle.messages.specs.Message.{message_frame, message_in}
use Rattle.rules.specs.Lists.{item_row}
use Rattle.packing.specs.Entries.{header_in, Pieces, pieces, no_pieces, most_entries, entries_of, most_in}
use Rattle.packing.specs.Lengths.{Lengths}

-- one bit more than 2,048 bytes have: a size stops there, since no message has room for more
abbrev pub stop : ℕ
stop = 16385

-- the bits of a value of the type of a row, whose cells these are
unfoldable pub size_of : ℕ → List ℤ → ℕ
size_of row cells = min (length (out_of (write (type_of the_rows row) cells 0))) stop

unfoldable pub sizes_of : ℕ → List (List ℤ) → List ℕ
sizes_of row [] = []
sizes_of row (cells ∷ more) = size_of row cells ∷ sizes_of row more

-- the input is not of its form
abbrev pub unmeasured : Lengths
unmeasured = record { formed = false; count = 0; base = 0; sizes = replicate most_entries 0 }

-- a message has the bits of the header, those of the size of its list, and those of its entries
unfoldable pub lengths_by : Bool → List ℤ → Pieces → Lengths
lengths_by signs header (pieces held) =
    record {
      formed = true;
      count = length held;
      base = size_of message_frame header + width (most_in signs - 1);
      sizes = filled (sizes_of (item_row signs) held) (replicate most_entries 0);
    }
lengths_by signs header no_pieces = unmeasured

-- kind 0 is events, 1 signs
unfoldable pub lengths_of : ℕ → List ℤ → List ℤ → Lengths
lengths_of kind header entries =
    cond (ltb kind 2 && header_in (message_in header)) (lengths_by (eqb kind 1) header (entries_of (eqb kind 1) entries)) unmeasured
