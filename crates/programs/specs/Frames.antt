-- Cells for a frame, which the programs over records of frames lend.
use Rattle.std.specs.Prelude.{List, ℤ, pos, replicate}
use Rattle.bits.specs.Limits.{most_bits}

-- the cells that are lent: as many as the longest message has bits, and no message has more cells than bits
abbrev pub lent_cells : List ℤ
lent_cells = replicate most_bits (pos 0)
