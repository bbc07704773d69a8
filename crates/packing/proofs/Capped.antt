-- Sizes that stop at a number of bits that no message has room for: to compare their sum with a limit is to compare the sum of the sizes themselves.
-- Assumes nothing.
use Prim.Native.Nat.{ℕ, ◌+◌, ◌≤◌, ◌<◌, min}
use native.Mathlib.Omega.{arith}
use mathlib.Core.Path.{◌≡◌, refl}
use mathlib.Core.List.{List, [], ◌∷◌}
use Rattle.bits.specs.Bytes.{octets_for}
use Rattle.packing.specs.Sizes.{stop}
use Rattle.packing.proofs.Pieces.{total}

-- the sizes, each stopped
abbrev pub capped : List ℕ → List ℕ
capped [] = []
capped (n ∷ ns) = min n stop ∷ capped ns

pub capped_below : (ns : List ℕ) → total (capped ns) ≤ total ns
capped_below [] = omega arith
capped_below (n ∷ ns) = omega (arith, capped_below ns)

-- a sum that is small is as it was
pub capped_same : (ns : List ℕ) → total (capped ns) < stop → total (capped ns) ≡ total ns
capped_same [] h = refl
capped_same (n ∷ ns) h = omega (arith, capped_same ns (omega arith))

module _ (base more : ℕ) (sizes : List ℕ) (limit : ℕ) (few : limit ≤ 2048) where
  abbrev stopped : ℕ
  stopped = min base stop + (more + total (capped sizes))

  abbrev whole : ℕ
  whole = base + (more + total sizes)

  pub fits_so : octets_for stopped ≤ limit → octets_for whole ≤ limit
  fits_so h = let same : total (capped sizes) ≡ total sizes = capped_same sizes (omega arith) in omega (arith, same)

  pub so_fits : octets_for whole ≤ limit → octets_for stopped ≤ limit
  so_fits h = omega (arith, capped_below sizes)
