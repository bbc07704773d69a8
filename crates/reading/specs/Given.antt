-- What a walk is given: the padded bytes with how many bits of them are the message, the place in them, the sheet and the next cell.
use Rattle.std.specs.Prelude.{ℕ, ◌+◌, ◌*◌, ◌≤◌, ◌<◌, ◌^◌, List, ◌≡◌, ℤ, length, take}
use Rattle.std.proofs.lemmas.List.Edits.{sets}
use Rattle.bits.specs.Bytes.{bits_of}
use Rattle.bits.specs.Limits.{most_bits}
use Rattle.meaning.specs.Reading.{Source, source, free}
use Rattle.meaning.specs.Steps.{Got}
use Rattle.walking.specs.Went.{Went}
use Rattle.walking.specs.Walked.{Walked, silent}
use Rattle.walking.specs.Packed.{farthest, up_to}

-- the bits of the message, in no open value
abbrev pub message_in : List ℕ → ℕ → Source
message_in b total = source (take total (bits_of b)) free

-- a place of the message
pub record Placed (b : List ℕ) (total at : ℕ) : Type 0 where
  pub place : at ≤ total
  pub few : total ≤ most_bits
  pub padded : total + 64 ≤ 8 * length b  -- a window's eight bytes stand behind them

-- a sheet and its next cell, which is behind the last where the sheet has no room
pub record Counted (sheet : List ℤ) (cell : ℕ) : Type 0 where
  pub room : length sheet ≤ farthest
  pub next : cell ≤ farthest

-- a sheet with more cells stored, as far as it has room for all; and the next cell
pub record Filled (more sheet : List ℤ) (cell next : ℕ) (after : List ℤ) : Type 0 where
  pub counted : next ≡ up_to (cell + length more)
  pub kept : length after ≡ length sheet
  pub stored : cell + length more ≤ length sheet → after ≡ sets sheet cell more

-- what is still to be read answers the whole
abbrev pub Onward : {X : Type 0} → ℕ → Got ℤ X → List ℤ → ℕ → Got ℤ X → List ℤ → ℕ → Type 0
Onward total g s c whole s₀ c₀ = (r : Went) (after : List ℤ) → Walked silent total g s c r after → Walked silent total whole s₀ c₀ r after

-- so many groups of four of n numbers can be stored at once: the bits are there, and where there are groups every code of w bits is in its range and the cells are there
pub record Grouped (span w n total at room cell groups : ℕ) : Type 0 where
  pub few : 4 * groups ≤ n
  pub bits : at + groups * (4 * w) ≤ total
  pub narrow : 0 < groups → w ≤ 8
  pub full : 0 < groups → span + 1 ≡ 2 ^ w
  pub cells : 0 < groups → cell + 4 * groups ≤ room
