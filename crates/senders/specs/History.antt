-- The table over its history (document 02, A4): "After any calls each number equals what its accepted reports since its entry say". In a
-- history the latest call stands first, and in the counts of a sender the latest count.
use Rattle.std.specs.Prelude.{ℕ, suc, ◌+◌, Bool, cond, ◌&&◌, List, [], ◌∷◌, length, ◌==◌}
use Rattle.loss.specs.Ring.{ring_formula}
use Rattle.answers.specs.GivenBack as number
use Rattle.senders.specs.declared.Sender.{Sender}
use Rattle.senders.specs.declared.Table.{Table}
use Rattle.senders.specs.Rows.{same_bytes}
use Rattle.senders.specs.Table.{Changed, nobody, empty_table, reported, dropped}

-- ---- calls, and the table after them

-- a report has the kind, the id and the count; a drop the kind and the id
pub data Call : Type 0 where
  report : ℕ → List ℕ → ℕ → Call
  drop : ℕ → List ℕ → Call

abbrev pub answered : Table → Call → Changed
answered table (report kind id count) = reported table kind id count
answered table (drop kind id) = dropped table kind id

unfoldable pub table_after : List Call → Table
table_after [] = empty_table
table_after (call ∷ earlier) = (answered (table_after earlier) call).table

-- what a call is answered behind these calls
abbrev pub answer_to : List Call → Call → Changed
answer_to calls call = answered (table_after calls) call

-- ---- the counts of a sender

-- whether this is the sender
abbrev pub is_sender : ℕ → List ℕ → ℕ → List ℕ → Bool
is_sender kind id ofKind ofId = ofKind == kind && same_bytes ofId id

-- with an accepted call: a report of the sender adds its count, a drop ends its stay
abbrev pub noted : ℕ → List ℕ → Call → List ℕ → List ℕ
noted kind id (report ofKind ofId count) counts = cond (is_sender kind id ofKind ofId) (count ∷ counts) counts
noted kind id (drop ofKind ofId) counts = cond (is_sender kind id ofKind ofId) [] counts

-- the counts of the accepted reports of a sender since its entry
unfoldable pub counts_of : ℕ → List ℕ → List Call → List ℕ
counts_of kind id [] = []
counts_of kind id (call ∷ earlier) =
    cond ((answer_to earlier call).number == number.done) (noted kind id call (counts_of kind id earlier)) (counts_of kind id earlier)

-- ---- what counts say

-- the first count, with the latest one and those before it
unfoldable pub first_count : ℕ → List ℕ → ℕ
first_count latest [] = latest
first_count latest (one ∷ earlier) = first_count one earlier

-- "01's loss count" between neighbours, added up
unfoldable pub losses : ℕ → List ℕ → ℕ
losses latest [] = 0
losses latest (one ∷ earlier) = losses one earlier + ring_formula one latest

-- the row of a sender with these counts; a sender without any is not held
abbrev pub row_of : ℕ → List ℕ → List ℕ → Sender
row_of kind id [] = nobody
row_of kind id (latest ∷ earlier) =
    record { id = id; kind = kind; first = first_count latest earlier; last = latest; received = suc (length earlier); missed = losses latest earlier }
