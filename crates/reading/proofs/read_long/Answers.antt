-- `reading::read_long` meets its contract: the memory that is lent is long enough.
-- Assumes nothing.
use mathlib.Core.Path.{refl}
use native.Mathlib.Omega.{arith}
use Rattle.reading.proofs.read_long.Goals as goal

pub slice_bounds-read_apart-end : goal.slice_bounds-read_apart-end
slice_bounds-read_apart-end c = refl

pub slice_bounds-read_apart-end-then-bytes-le-LONG_BYTES : goal.slice_bounds-read_apart-end-then-bytes-le-LONG_BYTES
slice_bounds-read_apart-end-then-bytes-le-LONG_BYTES c = refl

pub read_apart-requires : goal.read_apart-requires
read_apart-requires c = (c.requires.0, omega (arith, c.requires.1), omega (arith, c.requires.1, c.if-bytes-le-LONG_BYTES.true), omega arith)

pub slice_bounds-read_apart-end-2 : goal.slice_bounds-read_apart-end-2
slice_bounds-read_apart-end-2 c = refl

pub slice_bounds-read_apart-end-3 : goal.slice_bounds-read_apart-end-3
slice_bounds-read_apart-end-3 c = refl

pub read_apart-requires-2 : goal.read_apart-requires-2
read_apart-requires-2 c = (c.requires.0, omega (arith, c.requires.1), omega (arith, c.requires.1, c.requires.1), omega arith)
