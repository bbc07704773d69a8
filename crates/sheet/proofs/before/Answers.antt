-- `sheet::before` meets its contract: a component that is there is passed over, and an absent one takes no cell.
-- Assumes nothing.
use Prim.Native.Nat.{suc, ◌+◌, ◌-◌}
use native.Mathlib.Omega.{arith}
use mathlib.Core.Path.{◌≡◌, ◌∙◌}
use Rattle.passing.proofs.Laws.{handed}
use Rattle.sheet.proofs.Front.{front_absent, front_passed, front_refused, front_none}
use Rattle.sheet.proofs.before.Goals.{then-there-ne0+in_ok-at, else-there-ne0}
use Rattle.sheet.proofs.before.Goals as goal

pub returns-in_err-at : goal.returns-in_err-at
returns-in_err-at c =
    let a = c.args in
    let next : a.first + a.k - c.loop-g.g ≡ suc (a.first + a.k - (c.loop-g.g + 1)) = omega arith in
    let q = c.past-p.ensures.near (omega arith) in
    handed c.from_residual.ensures.1 ∙ front_refused _ _ _ _ _ next c.column-mark.ensures.is q.0 _ c.present-there.ensures c.if-there-ne0.true c.column.ensures.is c.pass.ensures.answer c.in_err-at.was ∙ c.loop-g.invariant.same

pub loop-g-preserved : goal.loop-g-preserved
loop-g-preserved c =
    let a = c.args in
    let next : a.first + a.k - c.loop-g.g ≡ suc (a.first + a.k - (c.loop-g.g + 1)) = omega arith in
    let q = c.past-p.ensures.near (omega arith) in
    record {
      near = omega (arith, q.1);
      same = elim c.if-there-ne0.branch [
        | then-there-ne0+in_ok-at w ↦ rw w.at-is (front_passed _ _ _ _ _ next c.column-mark.ensures.is q.0 _ c.present-there.ensures w.if-there-ne0.true w.column.ensures.is w.pass.ensures.answer w.in_ok-at.was ∙ c.loop-g.invariant.same)
        | else-there-ne0 w ↦ rw w.at-is (front_absent _ _ _ _ _ next c.column-mark.ensures.is q.0 _ c.present-there.ensures w.if-there-ne0.false ∙ c.loop-g.invariant.same)
      ];
    }

pub returns : goal.returns
returns c =
    let none : c.args.first + c.args.k - c.loop-g.g ≡ 0 = omega arith in
    front_none _ _ _ _ _ _ none ∙ c.loop-g.invariant.same
