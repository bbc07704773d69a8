-- `writing::presence` meets its contract. The invariant: the bits gathered so far and those that are left are all of them.
-- Assumes nothing.
use mathlib.Core.Path.{◌≡◌}
use native.Mathlib.Omega.{arith}
use Rattle.writing.proofs.Leaves.{gathered_all, flags_begin, flags_end, flags_stop, flags_more, mask_more, mask_small}
use Rattle.writing.proofs.presence.Goals as goal

pub loop-i-init : goal.loop-i-init
loop-i-init c = let a = c.args in (omega arith, omega arith, flags_begin a.cells.now a.k a.options)

pub returns-then-bit-ge-REFUSED : goal.returns-then-bit-ge-REFUSED
returns-then-bit-ge-REFUSED c = let a = c.args in let l = c.loop-i in flags_stop a.cells.now a.k a.options l.mask l.i l.invariant.2 c.loop-i-test.true c.taken-bit.ensures c.if-bit-ge-REFUSED.true

pub overflow_mul-mask : goal.overflow_mul-mask
overflow_mul-mask c = let l = c.loop-i in record { fits = omega (arith, mask_small l.i l.invariant.1 (omega arith)) }

pub overflow_add-mask : goal.overflow_add-mask
overflow_add-mask c = let l = c.loop-i in record { fits = omega (arith, mask_small l.i l.invariant.1 (omega arith), c.taken-bit.ensures.small c.if-bit-ge-REFUSED.false) }

pub loop-i-preserved : goal.loop-i-preserved
loop-i-preserved c = let a = c.args in let l = c.loop-i in (omega (arith, c.taken-bit.ensures.gathered.within c.if-bit-ge-REFUSED.false), mask_more l.i l.invariant.1 (c.taken-bit.ensures.small c.if-bit-ge-REFUSED.false), flags_more a.cells.now a.k a.options l.mask l.i l.invariant.2 c.loop-i-test.true c.taken-bit.ensures c.if-bit-ge-REFUSED.false)

pub returns : goal.returns
returns c = let a = c.args in let l = c.loop-i in let all : l.i ≡ a.options = omega arith in gathered_all (flags_end a.cells.now a.k a.options l.mask l.i l.invariant.2 all) (rw all at l.invariant.1) (omega (arith, mask_small l.i l.invariant.1 (omega arith))) (omega arith)
