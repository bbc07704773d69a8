-- Batches of cases: records one behind the other, and in each an input of the reading program. And what a program shows for one record.
use Rattle.std.specs.Prelude.{ℕ, zero, suc, List, [], ◌++◌, cond, ℤ, pos, length, drop, replicate, leb, Option, Some, None, Result, Ok, Err}
use Rattle.answers.specs.Said.{Said}
use Rattle.answers.specs.Said as said
use Rattle.basics.specs.Counts.{capped}
use Rattle.basics.specs.Lists.{filled}
use Rattle.printing.specs.Buffers.{printed}
use Rattle.printing.specs.declared.NoRoom.{NoRoom}
use Rattle.records.specs.Records.{record_length, first_record, is_whole, record_of}
use Rattle.records.specs.declared.Cut.{Cut}
use Rattle.records.specs.declared.Record.{Record}
use Rattle.programs.specs.Inputs.{read_cells, input_text, program_text}
use Rattle.programs.specs.declared.Answered.{Answered}
use Rattle.programs.specs.declared.TurnError.{TurnError}
use Rattle.programs.specs.declared.TurnError.TheVariants as turn
use Rattle.answers.specs.declared.reasons.Reason.TheVariants as reason

-- what is printed for a batch of at most so many records: for each what the program prints; a record that is cut ends the batch
unfoldable pub batch_text : ℕ → List ℕ → List ℕ
batch_text zero input = []
batch_text (suc most) input = cond (is_whole input) (program_text (record_of input) ++ batch_text most (drop (record_length input) input)) []

-- ---- one record

-- what the first record gives: the bytes of the record and of its text, or why there is no text
abbrev pub Turn : Type 0
Turn = Result Answered TurnError

abbrev pub answering : ℕ → ℕ → Answered
answering used n = record { used = used; length = n }

-- by what printing its text answered: the bytes used and the length of the text, or that there is no room for it
unfoldable pub turn_printed : ℕ → Result ℕ NoRoom → Turn
turn_printed used (Ok n) = Ok (answering used n)
turn_printed used (Err lack) = Err (turn.NoRoom lack.needed)

-- by the first record, with the text for it, where so many bytes are lent; where none is whole, it is cut
unfoldable pub turn_by : Result (Option Record) Cut → List ℕ → ℕ → Turn
turn_by (Ok (Some r)) text room = turn_printed r.end (printed text room)
turn_by (Err why) text room = Err turn.RecordCut
turn_by (Ok None) text room = Err turn.RecordCut

abbrev pub turn_of : List ℕ → List ℤ → ℕ → Turn
turn_of input sheet room = turn_by (first_record input) (input_text (record_of input) sheet) room

-- document 01's number and values for each case ("Forms for each place", the last paragraph): the bytes of the record are the place after it, those of its text the count
unfoldable pub turn_says : Turn → Said
turn_says (Ok a) = said.done (pos 0) a.used a.length
turn_says (Err turn.RecordCut) = said.refused reason.Short 0
turn_says (Err (turn.NoRoom needed)) = said.no_room needed

-- 3: the record is not all there; 8: fewer bytes are lent than its text has (document 01, "Numbers given back"); else both lengths
unfoldable pub turn_answer : List ℕ → List ℤ → ℕ → Said
turn_answer input sheet room =
    cond (is_whole input)
    (cond (leb (length (input_text (record_of input) sheet)) room)
    (said.done (pos 0) (record_length input) (length (input_text (record_of input) sheet)))
    (said.no_room (capped (length (input_text (record_of input) sheet)))))
    (said.refused reason.Short 0)

-- the buffer behind a turn: the text in front where the record was answered, else as it was
unfoldable pub after_turn : Turn → List ℕ → List ℕ → List ℕ
after_turn (Ok a) text out = filled text out
after_turn (Err why) text out = out

abbrev pub turn_buffer : List ℕ → List ℤ → List ℕ → List ℕ
turn_buffer input sheet out = after_turn (turn_of input sheet (length out)) (input_text (record_of input) sheet) out

-- ---- with as many cells as the program lends

abbrev pub record_turn : List ℕ → ℕ → Turn
record_turn input room = turn_of input (replicate read_cells (pos 0)) room

abbrev pub record_buffer : List ℕ → List ℕ → List ℕ
record_buffer input out = turn_buffer input (replicate read_cells (pos 0)) out

abbrev pub record_told : List ℕ → ℕ → Said
record_told input room = turn_answer input (replicate read_cells (pos 0)) room

-- ---- what a program shows for the first record of held bytes

-- how long the text for it is; nothing for a record that is not whole, behind which no other follows
abbrev pub shown : List ℕ → List ℕ → Option ℕ
shown text held = cond (is_whole held) (Some (length text)) None
