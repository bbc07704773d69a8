-- The lines that the losses program prints (document 02, A4; docs/PROGRAMS.md).
use Rattle.std.specs.Prelude.{ℕ, List, [], ◌++◌, cond, eqb}
use Rattle.answers.specs.GivenBack as number
use Rattle.answers.specs.declared.Answer.{Answer}
use Rattle.printing.specs.Digits.{decimal}
use Rattle.printing.specs.Texts.{ascii, hexadecimal}
use Rattle.senders.specs.declared.Sender.{Sender}
use Rattle.senders.specs.Table.{Shown}

-- the bytes that every line fits into
abbrev pub longest_line : ℕ
longest_line = 128

-- words and a number behind them
abbrev pub labelled : List ℕ → ℕ → List ℕ
labelled words n = words ++ decimal n

-- ---- a frame that is not counted, in a record by its number from 0 on

-- "record R refused N at bit P": it can't be read
abbrev pub unread_line : ℕ → Answer → List ℕ
unread_line at a = labelled (ascii "record ") at ++ labelled (ascii " refused ") a.number ++ labelled (ascii " at bit ") a.place ++ ascii "\n"

-- "record R refused N": the table refuses it
abbrev pub uncounted_line : ℕ → ℕ → List ℕ
uncounted_line at n = labelled (ascii "record ") at ++ labelled (ascii " refused ") n ++ ascii "\n"

-- by the table's number; one that is counted has no line
unfoldable pub report_line : ℕ → ℕ → List ℕ
report_line at n = cond (eqb n number.done) [] (uncounted_line at n)

-- ---- a row

-- the kinds of message that have a sender; no row holds another
unfoldable pub kind_word : ℕ → List ℕ
kind_word kind = cond (eqb kind 0) (ascii " BSM ") (cond (eqb kind 2) (ascii " RSM ") (ascii " RSI "))

abbrev pub counts_text : Sender → List ℕ
counts_text s = labelled (ascii " first ") s.first ++ labelled (ascii " last ") s.last ++ labelled (ascii " received ") s.received ++ labelled (ascii " missed ") s.missed ++ ascii "\n"

-- "row W KIND ID first F last L received X missed Y"
abbrev pub sender_line : ℕ → Sender → List ℕ
sender_line row s = labelled (ascii "row ") row ++ kind_word s.kind ++ hexadecimal s.id ++ counts_text s

-- a row that holds no sender has no line
unfoldable pub shown_line : ℕ → Shown → List ℕ
shown_line row s = cond (eqb s.number number.done) (sender_line row s.sender) []

-- ---- the last line

-- "N records, M counted"
abbrev pub totals_line : ℕ → ℕ → List ℕ
totals_line records counted = decimal records ++ labelled (ascii " records, ") counted ++ ascii " counted\n"
