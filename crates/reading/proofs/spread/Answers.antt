-- `reading::spread` meets its contract. The invariant: what is left of the bits fills the whole.
-- Assumes nothing.
use Prim.Native.Nat.{ℕ, ◌+◌, ◌-◌, ◌<◌, ◌^◌}
use native.Mathlib.Omega.{arith}
use mathlib.Core.Path.{◌≡◌, ap, ◌∙◌}
use native.Mathlib.Nat.{zero-add}
use lib.IntN.{pos}
use lib.ListN.{set}
use Rattle.reading.specs.Given.{Counted}
use Rattle.reading.proofs.Steps.{filled_none, filled_more}
use Rattle.reading.proofs.Tops.{tops_step, tops_none}
use borrow.Author.Rules.{rules}
use Rattle.reading.proofs.spread.Goals as goal

pub loop-init : goal.loop-init
loop-init c = let all : c.args.n - 0 ≡ c.args.n = omega arith in rw all (c.requires.0.next, λ next after F. F)

pub put_value-cell-requires : goal.put_value-cell-requires
put_value-cell-requires c = (search rules, omega arith, record { room = omega (arith, c.loop.auto.sheet, c.requires.0.room); next = c.loop.invariant.0 })

pub loop-preserved : goal.loop-preserved
loop-preserved c = let l = c.loop in
    let C : Counted l.sheet l.cell = record { room = omega (arith, l.auto.sheet, c.requires.0.room); next = l.invariant.0 } in
    let stored = c.put_value-cell.ensures.0 ∙ ap (λ (k : ℕ). set l.sheet l.cell (pos k)) (zero-add _) in
    let small : l.flags < 2 ^ 64 = omega arith in
    (omega (arith, c.put_value-cell.ensures.1), λ next after F. l.invariant.1 next after (rw (tops_step (c.args.n - (l.counter + 1)) l.flags {left = c.args.n - l.counter} (omega (arith, c.loop-test.true)) (omega arith) small) (filled_more C stored c.put_value-cell.ensures.1 F)))

pub returns : goal.returns
returns c = let l = c.loop in l.invariant.1 _ _ (rw (tops_none (c.args.n - l.counter) l.flags (omega (arith, c.loop-test.false))) (filled_none (record { room = omega (arith, l.auto.sheet, c.requires.0.room); next = l.invariant.0 })))
