-- Cells as the code of writing gathers them: into one number, or the packed refusal.
use Rattle.std.specs.Prelude.{ℕ, ◌+◌, ◌<◌, ◌≤◌, ◌^◌, min, Bool, List, ◌≡◌, ltb, ℤ, pos, negsuc, length}
use Rattle.basics.specs.Lists.{cell_at}
use Rattle.bits.specs.Numbers.{to_bits, width}
use Rattle.types.specs.Shape.{Field}
use Rattle.meaning.specs.Steps.{Got}
use Rattle.meaning.specs.Steps.Got.{ok, refused}
use Rattle.meaning.specs.Writing.{write_whole}
use Rattle.walking.specs.Packed.{refused_from, went_by}
use Rattle.walking.specs.Walked.{present_of}
use Rattle.walking.specs.Went.{Went}
use Rattle.walking.specs.Went.Went.{On, No}

-- how far a number is above the lowest of a range, where that is the difference; one more than the span where it is outside
abbrev pub height_in : ℕ → ℤ → ℕ
height_in span (pos n) = min n (span + 1)
height_in span (negsuc n) = span + 1

-- whether a component with this mark is there, by its presence cell
abbrev pub is_present : ℕ → List ℤ → ℕ → Bool
is_present mark cells p = ltb 0 (present_of mark (cell_at cells p))

-- what a step puts out and where it ends, or why it stopped; what it tells is not wanted
unfoldable pub silenced : {X : Type 0} → Got ℕ X → Got ℕ (Unit {0})
silenced (ok x out q) = ok tt out q
silenced (refused why) = refused why

abbrev pub by_went : ℕ → ℕ → ℕ → Went → Got ℕ (Unit {0})
by_went w q r (On n at next) = ok tt (to_bits w r) q
by_went w q r (No why) = refused why

-- a step puts out the w bits of the number r and ends at q; or r is its refusal
pub record Gathered {X : Type 0} (cells : List ℤ) (g : Got ℕ X) (w q r : ℕ) : Type 0 where
  pub is : silenced g ≡ by_went w q r (went_by r)
  pub held : r < refused_from → r < 2 ^ w
  pub within : r < refused_from → q ≤ length cells

-- a whole number, which is told besides
pub record Taken (cells : List ℤ) (f : Field) (k r : ℕ) : Type 0 where
  pub gathered : Gathered cells (write_whole f cells k) (width f.span) (k + 1) r
  pub told : r < refused_from → write_whole f cells k ≡ ok r (to_bits (width f.span) r) (k + 1)
  pub small : r < refused_from → r ≤ f.span
