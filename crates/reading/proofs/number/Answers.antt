-- `reading::number` meets its contract: its three answers, by whether the bits are there and the code is in its range, and the cell.
-- Assumes nothing.
use Prim.Native.Nat.{ℕ, ◌+◌, ◌<◌}
use mathlib.Core.Path.{refl, sym, subst, ap}
use native.Mathlib.Omega.{arith}
use Rattle.bits.proofs.Numbers.{width_fewest, width_pos}
use Rattle.walking.specs.Walked.{silent}
use Rattle.reading.proofs.Leaves.{taken_short, taken_outside, taken_code}
use Rattle.reading.proofs.Steps.{taken_refused, taken_walk}
use Rattle.reading.proofs.number.Goals as goal

pub short-requires : goal.short-requires
short-requires c =
    let narrow = width_fewest _ 32 c.span_in-span.ensures.1 in
    (omega (arith, c.requires.2.place, c.width-w.ensures, c.if-total-end.true, narrow), omega (arith, c.requires.2.few, c.requires.2.place))

pub returns-then-total-end : goal.returns-then-total-end
returns-then-total-end c = rw (← c.span_in-span.ensures.0) (taken_refused c.requires.2 _ _ (taken_short c.requires.2 _ _ _ c.width-w.ensures _ c.if-total-end.true c.short.ensures.0 _) c.short.ensures.1)

pub code-n-requires : goal.code-n-requires
code-n-requires c =
    let some = width_pos _ (subst (λ (n : ℕ). 0 < n) (sym c.span_in-span.ensures.0) c.requires.1) in
    (omega (arith, c.if-total-end.false, c.requires.2.padded), omega (arith, c.width-w.ensures, some), omega (arith, c.width-w.ensures, width_fewest _ 32 c.span_in-span.ensures.1))

pub outside_of-requires : goal.outside_of-requires
outside_of-requires c = (c.requires.0, c.requires.4, omega (arith, c.requires.2.few, c.requires.2.place))

pub returns-then-span-n : goal.returns-then-span-n
returns-then-span-n c = rw (← c.span_in-span.ensures.0) (taken_refused c.requires.2 _ _ (taken_outside c.requires.2 _ _ _ c.width-w.ensures c.if-total-end.false c.code-n.ensures _ c.if-span-n.true c.outside_of.ensures.0 _) c.outside_of.ensures.1)

pub put_value-requires : goal.put_value-requires
put_value-requires c = (c.low_in.ensures.1, omega (arith, c.if-span-n.false, c.span_in-span.ensures.1), c.requires.3)

pub on-requires : goal.on-requires
on-requires c = (omega (arith, c.if-total-end.false, c.requires.2.few), omega (arith, c.put_value.ensures.1))

pub returns : goal.returns
returns c =
    let a = c.args in
    let read = taken_code c.requires.2 _ _ _ c.width-w.ensures c.if-total-end.false c.code-n.ensures c.if-span-n.false c.span_in-span.ensures.1 _ in
    rw (← c.span_in-span.ensures.0, ← c.low_in.ensures.0, c.on.ensures)
    (taken_walk c.requires.2 _ _ read (omega (arith, c.if-span-n.false, c.span_in-span.ensures.1)) silent 0 tt (ap (λ (w : ℕ). a.at + w) c.width-w.ensures) refl c.requires.3 c.put_value.ensures.0 c.put_value.ensures.1)
