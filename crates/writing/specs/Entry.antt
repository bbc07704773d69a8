-- A message that was made apart, and how it is handed over.
use Rattle.std.specs.Prelude.{ℕ, ◌≤◌, cond, List, ◌≡◌, ltb, leb, length}
use Rattle.answers.specs.Answers.{done, refused_by, no_room, lent_after}
use Rattle.answers.specs.Refusals.{no_value, too_long}
use Rattle.answers.specs.declared.Answer.{Answer}
use Rattle.answers.specs.declared.Refusal.{Refusal}
use Rattle.bits.specs.Numbers.{Binary}
use Rattle.bits.specs.Bytes.{octets_for, message}
use Rattle.bits.specs.Limits.{most_bits, most_bytes}
use Rattle.meaning.specs.Values.{Value}
use Rattle.meaning.specs.Steps.{Got, out_of}
use Rattle.meaning.specs.Steps.Got.{ok, refused}
use Rattle.meaning.specs.Messages.{write_answer}
use Rattle.walking.specs.Packed.{went_by}
use Rattle.walking.specs.Went.{Went}
use Rattle.walking.specs.Went.Went.{On, No}
use Rattle.walking.specs.Walked.{Walked, silent}
use Rattle.writing.specs.Target.{target, Clean}
use Rattle.answers.specs.Reasons.{reason_number}

-- a walk over so many cells answered r, and made the bytes of zeros
pub record Made (got : Got ℕ Value) (cells r : ℕ) (made : List ℕ) : Type 0 where
  pub before : List ℕ
  pub clean : Clean before 0
  pub walked : Walked silent cells got before 0 (went_by r) (target made)
  pub sevens : (why : Refusal) → got ≡ refused why → reason_number why.reason ≡ 7  -- a refusal of writing
  pub binary : (v : Value) (bits : List ℕ) (q : ℕ) → got ≡ ok v bits q → octets_for (length bits) ≤ most_bytes → Binary bits

-- the answer, and the lent bytes by that answer
pub record Handed (got : Got ℕ Value) (cells : ℕ) (lent : List ℕ) (a : Answer) (after : List ℕ) : Type 0 where
  pub answer : a ≡ write_answer cells (length lent) got
  pub bytes : after ≡ lent_after (write_answer cells (length lent) got) (message (out_of got)) lent

-- the answer where a walk over a sheet of so many cells went so, and so many bytes are lent
unfoldable pub judged_by : Went → ℕ → ℕ → Answer
judged_by (On n k next) cells room =
    cond (ltb k cells) (refused_by (no_value k))
    (cond (ltb most_bits next) (refused_by too_long)
    (cond (leb (octets_for next) room) (done next (octets_for next)) (no_room (octets_for next))))
judged_by (No why) cells room = refused_by why
