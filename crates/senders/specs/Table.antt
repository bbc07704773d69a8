-- The loss table, and what each call makes of it (document 02, A4).
use Rattle.std.specs.Prelude.{ℕ, ◌+◌, ◌%◌, ◌^◌, Bool, cond, ◌||◌, List, [], replicate, ◌==◌, nat_le, nat_lt, slice_index_or, slice_set, Result, Ok, Err}
use Rattle.loss.specs.Ring.{missed_between}
use Rattle.answers.specs.GivenBack as number
use Rattle.answers.specs.Reasons.{reason_number}
use Rattle.answers.specs.declared.reasons.Reason.{Reason}
use Rattle.senders.specs.declared.Sender.{Sender}
use Rattle.senders.specs.declared.Table.{Table}
use Rattle.senders.specs.Rows.{Spot, free, spot_in}

-- what a call makes of a table: the table after it, the number of document 02, and the row, which is 0 with any number but 0
pub record Changed : Type 0 where
  pub table : Table
  pub number : ℕ
  pub row : ℕ

-- a row of a table: 0 with the sender that stands there, else 28 with none
pub record Shown : Type 0 where
  pub number : ℕ
  pub sender : Sender

-- a free row
abbrev pub nobody : Sender
nobody = record { id = replicate 8 0; kind = 0; first = 0; last = 0; received = 0; missed = 0 }

-- "Each party has 32 of the 64 rows" (document 02, A10)
abbrev pub empty_table : Table
empty_table = record { senders = replicate 32 nobody }

-- what stands behind the last row. No row is asked for that is not there
abbrev pub no_row : Sender
no_row = record { id = []; kind = 0; first = 0; last = 0; received = 0; missed = 0 }

abbrev pub sender_at : Table → ℕ → Sender
sender_at table row = slice_index_or table.senders row no_row

-- ---- answers

-- any number but 0 changes nothing and has no row
abbrev pub unchanged : ℕ → Table → Changed
unchanged n table = record { table = table; number = n; row = 0 }

-- a sender in a row, which the answer tells
abbrev pub placed : Table → ℕ → Sender → Changed
placed table row sender = record { table = record { senders = slice_set table.senders row sender }; number = number.done; row = row }

-- ---- reports

-- "MAP and SPAT have no sender id": BSM, RSM and RSI have, by the frame's index
abbrev pub has_sender : ℕ → Bool
has_sender kind = kind == 0 || (kind == 2 || kind == 4)

-- "a new sender takes the lowest free row with received 1 and missed 0"
abbrev pub entered : ℕ → List ℕ → ℕ → Sender
entered kind id count = record { id = id; kind = kind; first = count; last = count; received = 1; missed = 0 }

-- "adds one to received and adds 01's loss count to missed". No table that calls make comes near the end of 64 bits
abbrev pub counted : Sender → ℕ → Sender
counted s count =
    record { id = s.id; kind = s.kind; first = s.first; last = count; received = s.received + 1; missed = (s.missed + (missed_between s.last count).missed) % 2 ^ 64 }

-- "Received at 4,294,967,295 refuses with 21 and changes nothing."
abbrev pub most_received : ℕ
most_received = 4294967295

abbrev pub recounted : Table → ℕ → ℕ → Changed
recounted table row count =
    cond ((sender_at table row).received == most_received) (unchanged number.count_full table) (placed table row (counted (sender_at table row) count))

abbrev pub at_spot : Table → ℕ → List ℕ → ℕ → Spot → Changed
at_spot table kind id count (Spot.Known row) = recounted table row count
at_spot table kind id count (Spot.Free row) = placed table row (entered kind id count)
at_spot table kind id count Spot.Full = unchanged number.table_full table

-- "A count above 127 is 4, before all others"; "25, after 4 and before the rest"
unfoldable pub reported : Table → ℕ → List ℕ → ℕ → Changed
reported table kind id count =
    cond (nat_le count 127)
    (cond (has_sender kind) (at_spot table kind id count (spot_in table.senders kind id)) (unchanged number.no_sender table))
    (unchanged number.outside table)

-- ---- drops

-- "A sender can be dropped, and its row is used again; dropping one that isn't held is 28 and changes nothing."
abbrev pub dropped_at : Table → Spot → Changed
dropped_at table (Spot.Known row) = placed table row nobody
dropped_at table (Spot.Free row) = unchanged number.not_held table
dropped_at table Spot.Full = unchanged number.not_held table

-- a kind that has no senders has none that is held
unfoldable pub dropped : Table → ℕ → List ℕ → Changed
dropped table kind id = cond (has_sender kind) (dropped_at table (spot_in table.senders kind id)) (unchanged number.not_held table)

-- ---- a row

-- no sender stands there: 28, as for a drop of one that isn't held
abbrev pub nothing_shown : Shown
nothing_shown = record { number = number.not_held; sender = nobody }

abbrev pub shown_sender : Sender → Shown
shown_sender s = cond (free s) nothing_shown (record { number = number.done; sender = s })

unfoldable pub shown : Table → ℕ → Shown
shown table row = cond (nat_lt row 32) (shown_sender (sender_at table row)) nothing_shown

-- ---- what the code's answers tell

-- of a call: with the table after it, the row, or the number of the reason
abbrev pub changed : Table → Result ℕ Reason → Changed
changed table (Ok row) = record { table = table; number = number.done; row = row }
changed table (Err why) = record { table = table; number = reason_number why; row = 0 }

-- of a row: the sender, or the number of the reason with none
abbrev pub showing : Result Sender Reason → Shown
showing (Ok sender) = record { number = number.done; sender = sender }
showing (Err why) = record { number = reason_number why; sender = nobody }
