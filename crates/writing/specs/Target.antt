-- What is written to: bytes of which the last four are spare, with zeros from the place of writing on.
use Rattle.std.specs.Prelude.{ℕ, ◌+◌, ◌-◌, ◌*◌, ◌/◌, ◌%◌, ◌≤◌, ◌<◌, ◌^◌, List, cond, ◌≡◌, eqb, ℤ, length, take, get_or, set}
use Rattle.bits.specs.Bytes.{bits_of}
use Rattle.bits.specs.Limits.{most_bits}
use Rattle.bits.specs.Storing.{splice}
use Rattle.meaning.specs.Steps.{Got}
use Rattle.walking.specs.Packed.{place_room, farthest, up_to, went_by}
use Rattle.walking.specs.Walked.{Walked, silent}

-- a store takes five bytes, so that four are spare
abbrev pub spare : ℕ
spare = 4

-- the bits that can be written
abbrev pub target : List ℕ → List ℕ
target out = bits_of (take (length out - spare) out)

-- the five bytes of v stored from byte i on: the first is added to the one that is there
unfoldable pub with_five : List ℕ → ℕ → ℕ → List ℕ
with_five out i v = set (set (set (set (set out (i + 1) (v / 2 ^ 24 % 256)) (i + 2) (v / 2 ^ 16 % 256)) (i + 3) (v / 2 ^ 8 % 256)) (i + 4) (v % 256)) i (get_or out i 0 + v / 2 ^ 32)

-- bits of which every one from a place on is 0
pub record Clean (s : List ℕ) (at : ℕ) : Type 0 where
  pub few : length s ≤ 2 * most_bits
  pub zeros : (i : ℕ) → at ≤ i → get_or s i 0 ≡ 0

-- more bits were stored at a place, as far as there is room for all of them
pub record Stored (s : List ℕ) (at : ℕ) (more s' : List ℕ) : Type 0 where
  pub kept : length s' ≡ length s
  pub stored : at + length more ≤ length s → s' ≡ splice s at more

-- the place behind the extension bit of a row with this mark
abbrev pub begun_by : ℕ → ℕ → ℕ
begun_by mark at = cond (eqb mark 0) at (up_to (at + 1))

-- where a writer stands: at a place in the cells and at one in what is written
pub record Stands (cells : List ℤ) (k : ℕ) (out : List ℕ) (at : ℕ) : Type 0 where
  pub few : length cells < place_room
  pub place : k ≤ length cells
  pub near : at ≤ farthest
  pub clean : Clean (target out) at

-- what a step of writing says from a place on, the packed answer of the code, and what was written
abbrev pub Wrote : {X : Type 0} → List ℤ → Got ℕ X → List ℕ → ℕ → ℕ → List ℕ → Type 0
Wrote cells g out at r after = Walked silent (length cells) g (target out) at (went_by r) (target after)
