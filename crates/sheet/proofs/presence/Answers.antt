-- `sheet::presence` meets its contract. The invariant: what is left of the presence cells answers the whole.
-- Assumes nothing.
use Prim.Native.Nat.{◌+◌, ◌-◌, ◌<◌}
use native.Mathlib.Omega.{arith}
use mathlib.Core.Path.{◌≡◌}
use mathlib.Core.List.{◌∷◌}
use Rattle.walking.proofs.Rows.{flags_none, flags_pass, flags_take}
use Rattle.passing.proofs.Laws.{went, then, stops, nothing, unheard, one_fewer}
use Rattle.sheet.proofs.presence.Goals.{then-column-ne0+in_ok-k, else-column-ne0}
use Rattle.sheet.proofs.presence.Goals as goal

pub returns-in_err-k : goal.returns-in_err-k
returns-in_err-k c =
    let more : 0 < c.args.first + c.args.n - c.loop-f.f = omega arith in
    λ look. c.loop-f.invariant.left look _ (rw (flags_take _ _ _ _ _ _ _ more c.column.ensures.is c.if-column-ne0.true) (stops _ c.in_err-k.was c.number.ensures c.from_residual.ensures.1))

pub loop-f-preserved : goal.loop-f-preserved
loop-f-preserved c =
    let more : 0 < c.args.first + c.args.n - c.loop-f.f = omega arith in
    elim c.if-column-ne0.branch [
      | then-column-ne0+in_ok-k w ↦ rw w.k-is (record {
        inside = (went w.in_ok-k.was w.number.ensures).within;
        left = λ look r u. c.loop-f.invariant.left look r (rw (flags_take _ _ _ _ _ _ _ more c.column.ensures.is w.if-column-ne0.true, one_fewer) (then _ w.in_ok-k.was w.number.ensures (λ W. unheard _ (λ ns. W.x ∷ ns) u)));
      })
      | else-column-ne0 w ↦ rw w.k-is (record {
        inside = c.loop-f.invariant.inside;
        left = λ look r u. c.loop-f.invariant.left look r (rw (flags_pass _ _ _ _ _ _ _ more c.column.ensures.is w.if-column-ne0.false, one_fewer) u);
      })
    ]

pub returns : goal.returns
returns c =
    let none : c.args.first + c.args.n - c.loop-f.f ≡ 0 = omega arith in
    λ look. c.loop-f.invariant.left look _ (rw (flags_none _ _ _ _ _ _ _ none) (nothing c.loop-f.invariant.inside))
