-- `packing::number_at` meets its contract: a cell below 0 has no number, and one that is not below the bound neither.
-- Assumes nothing.
use lib.IntN.{pos}
use lib.ListN.{get_or}
use mir.Facts.{to_z-of_z}
use mir.Syntax.{w64}
use Rattle.passing.proofs.Signs.{not_negative}
use Rattle.packing.proofs.Cells.{negative_none, is_below, not_below, past_end}
use Rattle.packing.proofs.number_at.Goals as goal

pub returns-then-cells-k : goal.returns-then-cells-k
returns-then-cells-k c = past_end _ (c.args.cells.now) (c.args.k) (c.if-cells-k.true)

pub returns-then-cell-lt0 : goal.returns-then-cell-lt0
returns-then-cell-lt0 c = negative_none _ (get_or (c.args.cells.now) (c.args.k) (pos 0)) (rw (to_z-of_z {w = w64} {z = get_or (c.args.cells.now) (c.args.k) (pos 0)} (record { sfits = c.cell-1.given })) at (c.if-cell-lt0.true))

pub overflow_cast-n : goal.overflow_cast-n
overflow_cast-n c = let e = to_z-of_z {w = w64} {z = get_or (c.args.cells.now) (c.args.k) (pos 0)} (record { sfits = c.cell-1.given }) in let p = not_negative (get_or (c.args.cells.now) (c.args.k) (pos 0)) (rw e at (c.if-cell-lt0.false)) (c.cell-1.given) in rw e (p.0, record { fits = p.2 })

pub returns-then-n-bound : goal.returns-then-n-bound
returns-then-n-bound c = let e = to_z-of_z {w = w64} {z = get_or (c.args.cells.now) (c.args.k) (pos 0)} (record { sfits = c.cell-1.given }) in rw e (is_below _ (get_or (c.args.cells.now) (c.args.k) (pos 0)) (rw e at (c.if-cell-lt0.false)) (rw e at (c.if-n-bound.true)))

pub returns : goal.returns
returns c = let e = to_z-of_z {w = w64} {z = get_or (c.args.cells.now) (c.args.k) (pos 0)} (record { sfits = c.cell-1.given }) in not_below _ (get_or (c.args.cells.now) (c.args.k) (pos 0)) (rw e at (c.if-cell-lt0.false)) (rw e at (c.if-n-bound.false))
