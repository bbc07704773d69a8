-- `knotsaffron::knotsaffron_check_signal` meets its contract: the answer is that of `signals::check_signal`, cell by cell.
-- Assumes nothing.
use mathlib.Core.Path.{ap, ◌∙◌}
use Rattle.knotsaffron.specs.Cells.{verdict_cells}
use Rattle.knotsaffron.proofs.knotsaffron_check_signal.Goals as goal

pub returns : goal.returns
returns c = c.cells_of_verdict.ensures ∙ ap verdict_cells c.check_signal.ensures
