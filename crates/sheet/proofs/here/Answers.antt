-- `sheet::here` meets its contract: the presence cells of the components before it are counted.
-- Assumes nothing.
use Prim.Native.Nat.{suc, ◌+◌, ◌-◌}
use native.Mathlib.Omega.{arith}
use mathlib.Core.Path.{◌≡◌, ◌∙◌}
use Rattle.sheet.proofs.Front.{here_last, here_next}
use Rattle.sheet.proofs.here.Goals as goal

pub loop-g-preserved : goal.loop-g-preserved
loop-g-preserved c =
    let a = c.args in
    let next : a.first + a.k - c.loop-g.g ≡ suc (a.first + a.k - (c.loop-g.g + 1)) = omega arith in
    let q = c.past-p.ensures.near (omega arith) in
    record { near = omega (arith, q.1); same = here_next _ _ _ _ _ next c.column.ensures.is q.0 ∙ c.loop-g.invariant.same }

pub returns : goal.returns
returns c =
    let a = c.args in
    let end : c.loop-g.g ≡ a.first + a.k = omega arith in
    let none : a.first + a.k - c.loop-g.g ≡ 0 = omega arith in
    c.present.ensures ∙ here_last _ _ _ c.loop-g.g _ none (rw end c.column-2.ensures.is) ∙ c.loop-g.invariant.same
