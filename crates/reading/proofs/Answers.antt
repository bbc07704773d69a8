-- An answer in one number that is a refusal, or else is taken for a code or a place.
-- Assumes nothing.
use Prim.Native.Nat.{ℕ, ◌<◌}
use mathlib.Core.Path.{◌≡◌}
use lib.IntN.{ℤ}
use Rattle.answers.specs.declared.Refusal.{Refusal}
use Rattle.meaning.specs.Steps.{Got, refused}
use Rattle.walking.specs.Went.{Went}
use Rattle.walking.specs.Went.Went.{No}
use Rattle.walking.specs.Packed.{refused_from, went_by}
use Rattle.walking.proofs.Packed.{went_on}
use Rattle.reading.specs.Taken.{unless}

module _ {X : Type 0} (g : Got ℤ X) where
  pub unless_no : {w : Went} {why : Refusal} → w ≡ No why → unless w g ≡ refused why
  unfolding unless
  unless_no e = rw e

  pub unless_on : (r : ℕ) → r < refused_from → unless (went_by r) g ≡ g
  unfolding unless
  unless_on r h = rw (went_on r h)
