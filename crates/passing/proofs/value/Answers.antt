-- `passing::value` meets its contract.
-- Assumes nothing.
use mathlib.Core.Path.{refl}
use lib.IntN.{pos}
use lib.ListN.{get_or-eq_default, get_or}
use mir.Facts.{to_z-of_z}
use mir.Syntax.{w64}
use Rattle.passing.proofs.Signs.{not_negative, negative}
use Rattle.passing.proofs.value.Goals as goal

pub returns-then-cells-k : goal.returns-then-cells-k
returns-then-cells-k c = let e = get_or-eq_default c.args.cells.now (pos 0) c.if-cells-k.true in rw e refl

pub returns-then-cell-lt0 : goal.returns-then-cell-lt0
returns-then-cell-lt0 c = negative (get_or c.args.cells.now c.args.k (pos 0)) (rw (to_z-of_z {w = w64} {z = get_or c.args.cells.now c.args.k (pos 0)} (record { sfits = c.cell-1.given })) at c.if-cell-lt0.true)

pub overflow_cast-result : goal.overflow_cast-result
overflow_cast-result c =
    let e = to_z-of_z {w = w64} {z = get_or c.args.cells.now c.args.k (pos 0)} (record { sfits = c.cell-1.given }) in
    let p = not_negative (get_or c.args.cells.now c.args.k (pos 0)) (rw e at c.if-cell-lt0.false) c.cell-1.given in
    rw e (p.0, record { fits = p.2 })

pub returns : goal.returns
returns c =
    let e = to_z-of_z {w = w64} {z = get_or c.args.cells.now c.args.k (pos 0)} (record { sfits = c.cell-1.given }) in
    let p = not_negative (get_or c.args.cells.now c.args.k (pos 0)) (rw e at c.if-cell-lt0.false) c.cell-1.given in
    rw e p.1
