-- `knotsaffron::knotsaffron_make_plan` meets its contract: the answer is that of `plans::planner::make_plan`, cell by cell, and the plan is as it left it.
-- Assumes nothing.
use mathlib.Core.Path.{ap, ◌∙◌}
use Rattle.knotsaffron.specs.Cells.{planned_cells}
use Rattle.knotsaffron.proofs.knotsaffron_make_plan.Goals as goal

pub returns : goal.returns
returns c = let r = c.make_plan.ensures in record { told = c.cells_of_planning.ensures ∙ ap planned_cells r.answer; cells = r.cells }
