-- Laws of ids, byte by byte. Assumes nothing.
use Rattle.std.proofs.Common.{◌≡◌, ℕ, ◌&&◌, eqb, List, [], ◌∷◌, refl, ap}
use lib.Pointwise.{pointwise}
use Rattle.senders.specs.Rows.{same_bytes}

-- arrays are compared byte by byte too
pub same_pointwise : (a b : List ℕ) → pointwise eqb a b ≡ same_bytes a b
unfolding same_bytes
same_pointwise [] [] = refl
same_pointwise (x ∷ a) (y ∷ b) = ap (λ same. eqb x y && same) (same_pointwise a b)
same_pointwise [] (y ∷ b) = refl
same_pointwise (x ∷ a) [] = refl
