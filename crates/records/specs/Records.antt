-- Records one behind the other, each two bytes of length, high byte first, and then so many bytes (document 02, A4; docs/PROGRAMS.md).
use Rattle.std.specs.Prelude.{ℕ, ◌+◌, ◌-◌, ◌*◌, List, Bool, true, false, cond, pos, length, get_or, take, drop, leb, ltb, eqb, Option, Some, None, Result, Ok, Err}
use Rattle.answers.specs.Said.{Said}
use Rattle.answers.specs.Said as said
use Rattle.records.specs.declared.Cut.{Cut}
use Rattle.records.specs.declared.Record.{Record}
use Rattle.answers.specs.declared.reasons.Reason.TheVariants as reason

-- what is held ends inside a record
abbrev pub cut : Cut
cut = record {}

-- a record by where it starts behind its length and where it ends
abbrev pub from_to : ℕ → ℕ → Record
from_to start end = record { start = start; end = end }

-- the number in the first two bytes, high byte first; a byte that is not there counts as 0
abbrev pub two_bytes : List ℕ → ℕ
two_bytes bytes = get_or bytes 0 0 * 256 + get_or bytes 1 0

-- the bytes of a record's length
abbrev pub head_bytes : ℕ
head_bytes = 2

-- the largest number in two bytes: no record has more bytes behind its length
abbrev pub longest : ℕ
longest = 65535

-- the longest record with its length
abbrev pub longest_record : ℕ
longest_record = head_bytes + longest

-- ---- the head of a record, as far as it is held

-- no byte: no record; one byte of two: a record that is cut; else how many bytes follow
unfoldable pub head_of : List ℕ → Result (Option ℕ) Cut
head_of held = cond (eqb (length held) 0) (Ok None) (cond (ltb (length held) head_bytes) (Err cut) (Ok (Some (two_bytes held))))

-- how many bytes a head asks for
unfoldable pub asked : Result (Option ℕ) Cut → ℕ
asked (Ok None) = 0
asked (Err why) = 0
asked (Ok (Some n)) = n

-- ---- the first record of held bytes

-- with its length
abbrev pub record_length : List ℕ → ℕ
record_length held = head_bytes + two_bytes held

-- by its head and the bytes that are held: where it starts behind its length, and where it ends
unfoldable pub record_by : Result (Option ℕ) Cut → ℕ → Result (Option Record) Cut
record_by (Ok None) held = Ok None
record_by (Err why) held = Err why
record_by (Ok (Some n)) held = cond (leb (head_bytes + n) held) (Ok (Some (from_to head_bytes (head_bytes + n)))) (Err cut)

abbrev pub first_record : List ℕ → Result (Option Record) Cut
first_record held = record_by (head_of held) (length held)

-- how many bytes are in it behind its length
unfoldable pub inside : Result (Option Record) Cut → ℕ
inside (Ok (Some r)) = r.end - r.start
inside (Err why) = 0
inside (Ok None) = 0

-- whether a record is all there
unfoldable pub whole : Result (Option Record) Cut → Bool
whole (Ok (Some r)) = true
whole (Err why) = false
whole (Ok None) = false

abbrev pub is_whole : List ℕ → Bool
is_whole held = whole (first_record held)

-- what is in the first record, where it is whole
abbrev pub record_of : List ℕ → List ℕ
record_of held = take (two_bytes held) (drop head_bytes held)

-- ---- document 01's number and values for each case ("Forms for each place", the last paragraph): 3 for what is cut (document 02, A4: "a cut last
-- record is 3"). That no record follows is no fault: 0 with nothing.

-- the bytes that follow are the value, and the place after a head is behind its two bytes
unfoldable pub head_says : Result (Option ℕ) Cut → Said
head_says (Ok None) = said.done (pos 0) 0 0
head_says (Err why) = said.refused reason.Short 0
head_says (Ok (Some n)) = said.done (pos n) head_bytes 0

unfoldable pub head_answer : List ℕ → Said
head_answer held =
    cond (eqb (length held) 0) (said.done (pos 0) 0 0)
    (cond (ltb (length held) head_bytes) (said.refused reason.Short 0)
    (said.done (pos (two_bytes held)) head_bytes 0))

-- where the record starts behind its length is the value, its end is the place after it, and its bytes are the count
unfoldable pub record_says : Result (Option Record) Cut → Said
record_says (Ok (Some r)) = said.done (pos r.start) r.end (r.end - r.start)
record_says (Err why) = said.refused reason.Short 0
record_says (Ok None) = said.done (pos 0) 0 0

unfoldable pub record_answer : List ℕ → Said
record_answer held =
    cond (eqb (length held) 0) (said.done (pos 0) 0 0)
    (cond (ltb (length held) head_bytes) (said.refused reason.Short 0)
    (cond (leb (record_length held) (length held)) (said.done (pos head_bytes) (record_length held) (two_bytes held)) (said.refused reason.Short 0)))
