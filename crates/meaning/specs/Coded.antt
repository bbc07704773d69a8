-- Edition 2: the numbers of X.691's extension parts, in their shortest form: how each is read, step by step, and how it is written (document 02, A12).
-- An index (normally small number, 11.6), the count of a presence list (normally small length, 11.9.3.4), a count of octets (11.9.3.5 to 11.9.3.7).
use Rattle.std.specs.Prelude.{ℕ, ◌+◌, ◌-◌, ◌*◌, List, [], ◌∷◌, ◌++◌, Bool, cond, false, leb, ltb, eqb}
use Rattle.bits.specs.Numbers.{to_bits}

-- how a number is read: so many bits, and by the number in them, how to go on
pub data Tree : Type 0 where
  found : ℕ → Tree
  wrong : Tree  -- not in its shortest form, or too large: 27 at its first bit
  ask : ℕ → (ℕ → Tree) → Tree

-- a number in a long form: where a shorter form holds it, it is wrong
abbrev pub from : ℕ → ℕ → Tree
from least n = cond (leb least n) (found n) wrong

-- a length in one or two bytes, of at least `least`, and how to go on from it
unfoldable pub length_then : ℕ → (ℕ → Tree) → Tree
length_then least k = ask 8 (λ b.
    cond (ltb b 128) (cond (leb least b) (k b) wrong)
    (cond (ltb b 192) (ask 8 (λ c. cond (leb 128 ((b - 128) * 256 + c)) (k ((b - 128) * 256 + c)) wrong)) wrong))

-- the octets of an index in the long form: it is above 63, in the fewest octets, and below 65,536
unfoldable pub index_octets : ℕ → Tree
index_octets k = ask (8 * k) (λ n. cond (eqb k 1) (from 64 n) (cond (eqb k 2) (from 256 n) wrong))

pub data Coded : Type 0 where
  an_index : Coded  -- of an enumeration's or a choice's addition: 0 to 65,535
  a_count : Coded  -- of a presence list: 1 to 16,383
  an_extent : Coded  -- of an open value that is kept: 1 to 16,383

-- the smallest count that has the long form: the short one holds 1 to 64
abbrev pub long_count : ℕ
long_count = 65

unfoldable pub tree : Coded → Tree
tree an_index = ask 1 (λ f. cond (eqb f 0) (ask 6 found) (length_then 1 index_octets))
tree a_count = ask 1 (λ f. cond (eqb f 0) (ask 6 (λ n. found (n + 1))) (length_then long_count found))
tree an_extent = length_then 1 found

-- the numbers that it holds
unfoldable pub holds : Coded → ℕ → Bool
holds an_index n = ltb n 65536
holds a_count n = cond (leb 1 n) (ltb n 16384) false
holds an_extent n = cond (leb 1 n) (ltb n 16384) false

-- a length in one byte or two. A length that two bytes do not hold has no bits: it is told by a mark that is no bit
unfoldable pub length_bits : ℕ → List ℕ
length_bits n = cond (ltb n 128) (to_bits 8 n) (cond (ltb n 16384) (to_bits 16 (32768 + n)) (2 ∷ []))

-- the bits of a number
unfoldable pub coded : Coded → ℕ → List ℕ
coded an_index n = cond (ltb n 64) (0 ∷ to_bits 6 n) (cond (ltb n 256) (1 ∷ to_bits 8 1 ++ to_bits 8 n) (1 ∷ to_bits 8 2 ++ to_bits 16 n))
coded a_count n = cond (leb n 64) (0 ∷ to_bits 6 (n - 1)) (1 ∷ length_bits n)
coded an_extent n = length_bits n
