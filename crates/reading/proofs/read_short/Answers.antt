-- `reading::read_short` meets its contract: the memory that is lent is long enough.
-- Assumes nothing.
use mathlib.Core.Path.{refl}
use native.Mathlib.Omega.{arith}
use Rattle.reading.proofs.read_short.Goals as goal

pub slice_bounds-read_apart-end : goal.slice_bounds-read_apart-end
slice_bounds-read_apart-end c = refl

pub slice_bounds-read_apart-end-then-bytes-le-TINY_BYTES : goal.slice_bounds-read_apart-end-then-bytes-le-TINY_BYTES
slice_bounds-read_apart-end-then-bytes-le-TINY_BYTES c = refl

pub read_apart-requires : goal.read_apart-requires
read_apart-requires c = (c.requires.0, omega (arith, c.requires.1), omega (arith, c.requires.1, c.if-bytes-le-TINY_BYTES.true), omega arith)

pub slice_bounds-read_apart-end-then-bytes-le-SMALL_BYTES : goal.slice_bounds-read_apart-end-then-bytes-le-SMALL_BYTES
slice_bounds-read_apart-end-then-bytes-le-SMALL_BYTES c = refl

pub slice_bounds-read_apart-end-then-bytes-le-SMALL_BYTES-2 : goal.slice_bounds-read_apart-end-then-bytes-le-SMALL_BYTES-2
slice_bounds-read_apart-end-then-bytes-le-SMALL_BYTES-2 c = refl

pub read_apart-requires-then-bytes-le-SMALL_BYTES : goal.read_apart-requires-then-bytes-le-SMALL_BYTES
read_apart-requires-then-bytes-le-SMALL_BYTES c = (c.requires.0, omega (arith, c.requires.1), omega (arith, c.requires.1, c.if-bytes-le-SMALL_BYTES.true), omega arith)

pub slice_bounds-read_apart-end-then-bytes-le-SHORT_BYTES : goal.slice_bounds-read_apart-end-then-bytes-le-SHORT_BYTES
slice_bounds-read_apart-end-then-bytes-le-SHORT_BYTES c = refl

pub slice_bounds-read_apart-end-then-bytes-le-SHORT_BYTES-2 : goal.slice_bounds-read_apart-end-then-bytes-le-SHORT_BYTES-2
slice_bounds-read_apart-end-then-bytes-le-SHORT_BYTES-2 c = refl

pub read_apart-requires-then-bytes-le-SHORT_BYTES : goal.read_apart-requires-then-bytes-le-SHORT_BYTES
read_apart-requires-then-bytes-le-SHORT_BYTES c = (c.requires.0, omega (arith, c.requires.1), omega (arith, c.requires.1, c.if-bytes-le-SHORT_BYTES.true), omega arith)

pub slice_bounds-read_apart-end-2 : goal.slice_bounds-read_apart-end-2
slice_bounds-read_apart-end-2 c = refl

pub slice_bounds-read_apart-end-3 : goal.slice_bounds-read_apart-end-3
slice_bounds-read_apart-end-3 c = refl

pub read_apart-requires-2 : goal.read_apart-requires-2
read_apart-requires-2 c = (c.requires.0, omega (arith, c.requires.1), omega (arith, c.requires.1, c.requires.1), omega arith)
