-- Cells in bytes, as a batch of sheets has them: eight bytes for each cell, the most significant first, and a number below 0 as its two's complement.
use Rattle.std.specs.Prelude.{ℕ, zero, suc, ◌+◌, ◌-◌, ◌*◌, ◌/◌, ◌^◌, List, [], ◌∷◌, cond, ℤ, pos, negsuc, length, drop, ltb}
use Rattle.records.specs.Records.{two_bytes}

-- the number in four bytes, and in eight: two halves, the higher half first
abbrev pub four_bytes : List ℕ → ℕ
four_bytes bytes = two_bytes bytes * 2 ^ 16 + two_bytes (drop 2 bytes)

abbrev pub eight_bytes : List ℕ → ℕ
eight_bytes bytes = four_bytes bytes * 2 ^ 32 + four_bytes (drop 4 bytes)

-- the signed number of 64 bits that has this number as its two's complement
unfoldable pub twos_complement : ℕ → ℤ
twos_complement n = cond (ltb n (2 ^ 63)) (pos n) (negsuc (2 ^ 64 - 1 - n))

-- the cell in the first eight bytes
abbrev pub cell_in : List ℕ → ℤ
cell_in bytes = twos_complement (eight_bytes bytes)

-- so many cells, one behind the other
unfoldable pub cells_from : ℕ → List ℕ → List ℤ
cells_from zero bytes = []
cells_from (suc count) bytes = cell_in bytes ∷ cells_from count (drop 8 bytes)

-- as many as have all their bytes; fewer than eight bytes behind the last are none
abbrev pub cells_in : List ℕ → List ℤ
cells_in bytes = cells_from (length bytes / 8) bytes
