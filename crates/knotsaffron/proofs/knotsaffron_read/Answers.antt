-- `knotsaffron::knotsaffron_read` meets its contract: the answer is that of `reader::read`, cell by cell, and the sheet is as it left it.
-- Assumes nothing.
use mathlib.Core.Path.{ap, ◌∙◌}
use Rattle.knotsaffron.specs.Cells.{read_cells}
use Rattle.knotsaffron.proofs.knotsaffron_read.Goals as goal

pub returns : goal.returns
returns c = let r = c.read.ensures in record { told = c.cells_of_reading.ensures ∙ ap read_cells r.answer; cells = r.cells }
