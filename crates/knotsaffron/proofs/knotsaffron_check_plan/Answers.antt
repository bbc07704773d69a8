-- `knotsaffron::knotsaffron_check_plan` meets its contract: the answer is that of `plans::check_plan`, cell by cell.
-- Assumes nothing.
use mathlib.Core.Path.{ap, ◌∙◌}
use Rattle.knotsaffron.specs.Cells.{ruling_cells}
use Rattle.knotsaffron.proofs.knotsaffron_check_plan.Goals as goal

pub returns : goal.returns
returns c = c.cells_of_ruling.ensures ∙ ap ruling_cells (c.check_plan.ensures)
