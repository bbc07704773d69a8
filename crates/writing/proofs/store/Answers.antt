-- `writing::store` meets its contract: the five bytes, the first one last.
-- Assumes nothing.
use mathlib.Core.Path.{refl}
use native.Mathlib.Omega.{arith}
use lib.ListN.{length-set}
use Rattle.writing.specs.Target.{with_five}
use Rattle.writing.proofs.store.Goals as goal

pub overflow_cast-first : goal.overflow_cast-first
overflow_cast-first c = record { fits = omega (arith, c.requires.1) }

pub bounds-out-i-3 : goal.bounds-out-i-3
bounds-out-i-3 c = simp length-set (omega arith)

pub bounds-out-i-4 : goal.bounds-out-i-4
bounds-out-i-4 c = simp length-set (omega arith)

pub bounds-out-i-5 : goal.bounds-out-i-5
bounds-out-i-5 c = simp length-set (omega arith)

pub bounds-out-i-6 : goal.bounds-out-i-6
bounds-out-i-6 c = simp length-set (omega arith)

pub shape_of-out : goal.shape_of-out
shape_of-out c = simp length-set

pub returns : goal.returns
unfolding with_five
returns c = refl
