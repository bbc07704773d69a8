-- `writing::put` meets its contract: the five bytes are those of the straight store.
-- Assumes nothing.
use Prim.Native.Nat.{◌/◌}
use native.Mathlib.Omega.{arith}
use Rattle.writing.proofs.Target.{put_shift, put_fits, put_near, put_done, not_stored}
use Rattle.writing.proofs.put.Goals as goal

pub store-requires : goal.store-requires
store-requires c = let a = c.args in let p = c.requires in (c.if-i-out.true, rw (put_shift a.out.now a.at a.w a.n p.0 p.1 p.3 c.if-i-out.true (c.slice_known-1.given (a.at / 8)).fits) (put_fits a.out.now a.at a.w a.n p.0 p.1 p.3 c.if-i-out.true (c.slice_known-1.given (a.at / 8)).fits))

pub returns-then-i-out : goal.returns-then-i-out
returns-then-i-out c = let a = c.args in let p = c.requires in let b = (c.slice_known-1.given (a.at / 8)).fits in record { counted = omega (arith, put_near a.out.now a.at a.w a.n p.0 p.1 p.3 c.if-i-out.true b); stored = put_done a.out.now a.at a.w a.n p.0 p.1 p.3 c.if-i-out.true b (put_shift a.out.now a.at a.w a.n p.0 p.1 p.3 c.if-i-out.true b) c.store.ensures }

pub returns : goal.returns
returns c = let a = c.args in record { counted = c.least.ensures; stored = not_stored a.out.now a.at a.w a.n (λ h. omega (arith, c.if-i-out.false)) }
