-- `writing::singles` meets its contract. The invariant: what is left of the numbers answers the whole.
-- Assumes nothing.
use Prim.Native.Nat.{◌+◌, ◌-◌}
use mathlib.Core.Path.{◌≡◌}
use native.Mathlib.Omega.{arith}
use Rattle.types.specs.Shape.{field}
use Rattle.types.specs.Shape.Ty.{num}
use Rattle.types.specs.Table.{lowest_of}
use Rattle.meaning.specs.Writing.{write}
use Rattle.walking.proofs.Laws.{nothing, times_none}
use Rattle.writing.specs.Target.{target}
use Rattle.writing.proofs.Target.{stands_on}
use Rattle.writing.proofs.Leaves.{gathered_stops, gathered_put, narrow_in, single, item_stops, item_turn}
use Rattle.writing.proofs.singles.Goals as goal

pub loop-i-init : goal.loop-i-init
loop-i-init c = let start : c.args.k + 0 ≡ c.args.k = omega arith in let all : c.args.n - 0 ≡ c.args.n = omega arith in rw (start, all) (c.requires.0, λ r s' u. u)

pub returns-then-x-ge-REFUSED : goal.returns-then-x-ge-REFUSED
returns-then-x-ge-REFUSED c = let a = c.args in let l = c.loop-i in l.invariant.1 _ _ (item_stops (write (num (field (lowest_of a.low) a.span))) a.cells.now _ (a.k + l.i) (a.n - (l.i + 1)) (omega arith) {s' = target l.out} c.taken-x.result c.if-x-ge-REFUSED.true (single a.cells.now a.low a.span (a.k + l.i) (gathered_stops c.taken-x.result c.taken-x.ensures.gathered c.if-x-ge-REFUSED.true)))

pub put-at-requires : goal.put-at-requires
put-at-requires c = (narrow_in 32 c.requires.2 c.width-w.ensures, rw c.width-w.ensures (c.taken-x.ensures.gathered.held c.if-x-ge-REFUSED.false), c.loop-i.invariant.0.near, c.loop-i.invariant.0.clean)

pub loop-i-preserved : goal.loop-i-preserved
loop-i-preserved c = let a = c.args in let l = c.loop-i in let t = gathered_put c.taken-x.result c.taken-x.ensures.gathered c.width-w.result c.if-x-ge-REFUSED.false c.width-w.ensures c.put-at.ensures.counted c.put-at.ensures.stored in let next : a.k + (l.i + 1) ≡ a.k + l.i + 1 = omega arith in rw next (stands_on l.invariant.0 t, λ r s' u. l.invariant.1 r s' (item_turn (write (num (field (lowest_of a.low) a.span))) a.cells.now _ (a.k + l.i) (a.n - (l.i + 1)) (omega arith) l.invariant.0.clean (single a.cells.now a.low a.span (a.k + l.i) t) u))

pub returns : goal.returns
returns c = let a = c.args in let l = c.loop-i in let all : l.i ≡ a.n = omega arith in l.invariant.1 _ _ (rw (times_none (a.n - l.i) (write (num (field (lowest_of a.low) a.span))) a.cells.now (a.k + l.i) (omega arith), all, c.on.ensures) (nothing (rw all at l.invariant.0.place) l.invariant.0.near))
