-- `passing::run` meets its contract. The invariant of the loop: what is left of the numbers answers the whole.
-- Assumes nothing.
use Prim.Native.Nat.{◌-◌, ◌<◌}
use native.Mathlib.Omega.{arith}
use mathlib.Core.Path.{◌≡◌}
use Rattle.walking.proofs.Laws.{times_step, times_none}
use Rattle.walking.proofs.Rows.{walk_number}
use Rattle.passing.proofs.Laws.{went, then, stops, nothing, unheard, one_fewer}
use Rattle.passing.proofs.run.Goals as goal

pub returns-in_err-k : goal.returns-in_err-k
returns-in_err-k c =
    let more : 0 < c.args.n - c.loop.counter = omega arith in
    c.loop.invariant.left _ (rw (times_step _ _ _ _ more, walk_number _ _ _ _) (stops _ c.in_err-k.was (unheard _ _ c.number.ensures) c.from_residual.ensures.1))

pub loop-preserved : goal.loop-preserved
loop-preserved c =
    let more : 0 < c.args.n - c.loop.counter = omega arith in
    record {
      inside = (went c.in_ok-k.was c.number.ensures).within;
      left = λ r u. c.loop.invariant.left r (rw (times_step _ _ _ _ more, walk_number _ _ _ _, one_fewer) (then _ c.in_ok-k.was (unheard _ _ c.number.ensures) (λ W. unheard _ _ u)));
    }

pub returns : goal.returns
returns c =
    let none : c.args.n - c.loop.counter ≡ 0 = omega arith in
    c.loop.invariant.left _ (rw (times_none _ _ _ _ none) (nothing c.loop.invariant.inside))
