-- `packing::size_bits` meets its contract: a list of at most 8 entries has a size of 3 bits, one of at most 16 a size of 4.
-- Assumes nothing.
use mathlib.Core.Path.{sym, ap}
use Prim.Native.Nat.{◌-◌}
use mathlib.Core.Bool.{Bool}
use Rattle.bits.specs.Numbers.{width, halvings}
use Rattle.packing.specs.Entries.{most_in}
use Rattle.packing.proofs.size_bits.Goals as goal

pub returns-then-signs : goal.returns-then-signs
unfolding halvings
returns-then-signs c = sym (ap (λ (s : Bool). width (most_in s - 1)) (c.if-signs.true))

pub returns : goal.returns
unfolding halvings
returns c = sym (ap (λ (s : Bool). width (most_in s - 1)) (c.if-signs.false))
