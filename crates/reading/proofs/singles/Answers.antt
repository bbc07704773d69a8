-- `reading::singles` meets its contract. The invariant: what is left of the numbers answers the whole.
-- Assumes nothing.
use Prim.Native.Nat.{◌+◌, ◌-◌}
use mathlib.Core.Path.{◌≡◌}
use native.Mathlib.Omega.{arith}
use lib.IntN.{pos}
use Rattle.reading.specs.Given.{Placed}
use Rattle.reading.proofs.Steps.{taken_within, taken_end}
use Rattle.reading.proofs.Loops.{turns_first, turns_end, turns_refused, turns_number}
use Rattle.reading.proofs.singles.Goals as goal

pub loop-init : goal.loop-init
loop-init c = let all : c.args.n - 0 ≡ c.args.n = omega arith in rw all (turns_first c.requires.0.place c.requires.1.next)

pub taken-x-requires : goal.taken-x-requires
taken-x-requires c = (record { place = c.loop.invariant.place; few = c.requires.0.few; padded = c.requires.0.padded }, c.width-w.ensures, c.requires.3, c.requires.4)

pub returns-then-x-ge-REFUSED : goal.returns-then-x-ge-REFUSED
returns-then-x-ge-REFUSED c = turns_refused c.args.low c.args.span c.loop.invariant (omega (arith, c.loop-test.true)) (record { place = c.loop.invariant.place; few = c.requires.0.few; padded = c.requires.0.padded }) c.taken-x.ensures c.if-x-ge-REFUSED.true

pub put_value-cell-requires : goal.put_value-cell-requires
put_value-cell-requires c = let P : Placed c.args.b.now c.args.total c.loop.at = record { place = c.loop.invariant.place; few = c.requires.0.few; padded = c.requires.0.padded } in
    (c.requires.2, omega (arith, taken_within P _ _ (c.taken-x.ensures (pos 0)) c.if-x-ge-REFUSED.false, c.requires.3), record { room = omega (arith, c.loop.invariant.kept, c.requires.1.room); next = c.loop.invariant.next })

pub overflow_add-at : goal.overflow_add-at
overflow_add-at c = let P : Placed c.args.b.now c.args.total c.loop.at = record { place = c.loop.invariant.place; few = c.requires.0.few; padded = c.requires.0.padded } in
    omega (arith, taken_end P _ _ (c.taken-x.ensures (pos 0)) c.if-x-ge-REFUSED.false, c.width-w.ensures, c.requires.0.few)

pub loop-preserved : goal.loop-preserved
loop-preserved c = let less : c.args.n - (c.loop.counter + 1) ≡ c.args.n - c.loop.counter - 1 = omega arith in rw less (turns_number c.args.low c.args.span c.loop.invariant (omega (arith, c.loop-test.true)) (record { place = c.loop.invariant.place; few = c.requires.0.few; padded = c.requires.0.padded }) c.taken-x.ensures c.requires.1.room c.if-x-ge-REFUSED.false c.width-w.ensures c.put_value-cell.ensures.0 c.put_value-cell.ensures.1)

pub returns : goal.returns
returns c = turns_end c.loop.invariant (omega (arith, c.loop-test.false)) c.on.ensures
