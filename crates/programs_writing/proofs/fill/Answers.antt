-- `programs_writing::fill` meets its contract: a turn puts one more cell into the sheet.
-- Assumes nothing.
use mathlib.Core.Path.{refl}
use native.Mathlib.Omega.{arith}
use lib.ListN.{length-set}
use Rattle.programs_writing.specs.Cells.{cells_from}
use Rattle.programs_writing.proofs.Cells.{cell_put, cells_done}
use Rattle.programs_writing.proofs.fill.Goals as goal

pub loop-i-init : goal.loop-i-init
unfolding cells_from
loop-i-init c = (refl, refl)

pub loop-i-preserved : goal.loop-i-preserved
loop-i-preserved c = (rw length-set c.loop-i.invariant.0, cell_put (c.args.bytes.now) (c.args.sheet.now) (c.loop-i.i) c.loop-i.invariant.1 c.cell_in.ensures c.cell_in.type_inv)

pub returns : goal.returns
returns c = record { count = refl; cells = cells_done (c.args.bytes.now) (c.args.sheet.now) (c.loop-i.i) c.loop-i.invariant.1 (omega arith) (omega arith) }
