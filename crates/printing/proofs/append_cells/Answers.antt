-- `printing::append_cells` meets its contract: a turn appends the line of one more cell.
-- Assumes nothing.
use mathlib.Core.Path.{ap}
use native.Mathlib.Omega.{arith}
use lib.IntN.{pos}
use lib.ListN.{take}
use mir.Syntax.{w64}
use mir.Facts.{to_z-of_z}
use Rattle.printing.specs.Texts.{ascii, cell_line}
use Rattle.printing.proofs.Appending.{then, kept, same_text, each_none, each_more}
use Rattle.printing.proofs.Lengths.{lines_none, lines_more}
use Rattle.printing.proofs.append_cells.Goals as goal

pub loop-cell-init : goal.loop-cell-init
loop-cell-init c = (each_none cell_line c.args.sheet.now (omega arith), lines_none c.args.sheet.now)

pub loop-cell-preserved : goal.loop-cell-preserved
unfolding ascii
loop-cell-preserved c =
    let l = c.loop-cell in
    let first = take c.least.result c.args.sheet.now in (
      same_text (each_more cell_line first l.cell-index (pos 0) (omega arith))
          (then (omega arith) l.invariant.0
          (same_text (ap cell_line (to_z-of_z {w = w64} (record { sfits = omega arith }))) (then (omega (arith, kept l.invariant.0)) c.append_signed-end.ensures c.append_byte-next.ensures))),
      lines_more first l.cell-index (omega arith) (omega arith) l.invariant.1,
    )
