-- `writing::run` meets its contract. The invariant: what is left of the numbers answers the whole.
-- Assumes nothing.
use Prim.Native.Nat.{◌+◌, ◌-◌, ◌*◌}
use mathlib.Core.Path.{◌≡◌, refl}
use native.Mathlib.Omega.{arith}
use Rattle.writing.specs.Target.{target}
use Rattle.writing.proofs.Target.{stands_on}
use Rattle.writing.proofs.Leaves.{gathered_stops, gathered_put, narrow_in, four_stops, four_turn}
use Rattle.writing.proofs.run.Goals as goal

pub loop-init : goal.loop-init
loop-init c = let all : c.args.n - 4 * 0 ≡ c.args.n = omega arith in rw all (c.requires.0, omega arith, λ r s' u. u)

pub four-x-requires : goal.four-x-requires
four-x-requires c = let here = c.groups-m.ensures.1 (omega (arith, c.loop-test.true)) in (c.requires.0.few, c.requires.1, here.0, c.width-w.ensures, omega (arith, here.1, c.loop-test.true, c.requires.0.place))

pub returns-then-x-ge-REFUSED : goal.returns-then-x-ge-REFUSED
returns-then-x-ge-REFUSED c = let a = c.args in let l = c.loop in l.invariant.2 _ _ (four_stops a.cells.now a.low a.span (a.n - 4 * l.counter) l.k (a.n - 4 * (l.counter + 1)) (omega (arith, c.groups-m.ensures.0)) {s' = target l.out} c.four-x.result c.if-x-ge-REFUSED.true (gathered_stops c.four-x.result c.four-x.ensures c.if-x-ge-REFUSED.true))

pub overflow_mul-w : goal.overflow_mul-w
overflow_mul-w c = let here = c.groups-m.ensures.1 (omega (arith, c.loop-test.true)) in record { fits = omega (arith, narrow_in 8 here.0 c.width-w.ensures) }

pub put-at-requires : goal.put-at-requires
put-at-requires c = let here = c.groups-m.ensures.1 (omega (arith, c.loop-test.true)) in (omega (arith, narrow_in 8 here.0 c.width-w.ensures), c.four-x.ensures.held c.if-x-ge-REFUSED.false, c.loop.invariant.0.near, c.loop.invariant.0.clean)

pub overflow_add-k : goal.overflow_add-k
overflow_add-k c = let here = c.groups-m.ensures.1 (omega (arith, c.loop-test.true)) in record { fits = omega (arith, here.1, c.requires.0.few, c.requires.0.place) }

pub loop-preserved : goal.loop-preserved
loop-preserved c = let a = c.args in let l = c.loop in let t = gathered_put c.four-x.result c.four-x.ensures (4 * c.width-w.result) c.if-x-ge-REFUSED.false refl c.put-at.ensures.counted c.put-at.ensures.stored in (stands_on l.invariant.0 t, omega arith, λ r s' u. l.invariant.2 r s' (four_turn a.cells.now a.low a.span (a.n - 4 * l.counter) l.k (a.n - 4 * (l.counter + 1)) (omega (arith, c.groups-m.ensures.0)) l.invariant.0.clean t u))

pub returns : goal.returns
returns c = let all : c.loop.counter ≡ c.groups-m.result = omega arith in c.loop.invariant.2 _ _ (rw all c.singles.ensures)
