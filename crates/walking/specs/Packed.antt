-- The answer of a walk in one number of 64 bits, as the code hands it on: where it went on, the next place of the target above the next place of the source;
-- where it stopped, a mark, the bits that a field lacks, the refusal's row, its number and its place.
use Rattle.std.specs.Prelude.{ℕ, ◌+◌, ◌*◌, ◌/◌, ◌%◌, min, cond, leb, unwrap_or}
use Rattle.answers.specs.Reasons.{reason_number, reason_with}
use Rattle.answers.specs.Refusals.{carrying}
use Rattle.answers.specs.declared.reasons.Reason.{Reason}
use Rattle.answers.specs.declared.reasons.Reason.TheVariants as reason
use Rattle.answers.specs.declared.Refusal.{Refusal}
use Rattle.walking.specs.Went.{Went}
use Rattle.walking.specs.Went.Went.{On, No}

-- a place of the source is below this
abbrev pub place_room : ℕ
place_room = 4294967296

-- a number of a refusal is below this
abbrev pub number_room : ℕ
number_room = 128

-- a row of a refusal is below this, and multiplied by the one after it
abbrev pub row_room : ℕ
row_room = 1024

abbrev pub row_from : ℕ
row_from = place_room * number_room

-- so are the bits that a field lacks, of which it has at most 32
abbrev pub lacking_room : ℕ
lacking_room = 64

abbrev pub lacking_from : ℕ
lacking_from = row_from * row_room

-- an answer from here on is a refusal
abbrev pub refused_from : ℕ
refused_from = 9223372036854775808

-- a count of cells or bits of the target stops here
abbrev pub farthest : ℕ
farthest = 2147483647

abbrev pub up_to : ℕ → ℕ
up_to n = min n farthest

abbrev pub packed_on : ℕ → ℕ → ℕ
packed_on at next = next * place_room + at

abbrev pub packed_no : Refusal → ℕ
packed_no why = refused_from + why.lacking * lacking_from + why.row * row_from + reason_number why.reason * place_room + why.place

-- the reason that a number tells; no walk packs a number that tells none
unfoldable pub reason_in : ℕ → Reason
reason_in number = unwrap_or (reason_with number) reason.UnknownType

-- the refusal in an answer
abbrev pub refusal_in : ℕ → Refusal
refusal_in r = carrying (reason_in (r / place_room % number_room)) (r / row_from % row_room) (r / lacking_from % lacking_room) (r % place_room)

-- what an answer stands for
unfoldable pub went_by : ℕ → Went
went_by r = cond (leb refused_from r) (No (refusal_in r)) (On 0 (r % place_room) (r / place_room))
