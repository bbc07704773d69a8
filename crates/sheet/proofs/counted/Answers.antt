-- `sheet::counted` meets its contract: the cell is passed over, and is the number.
-- Assumes nothing.
use mathlib.Core.Path.{◌∙◌}
use Rattle.types.proofs.Steps.{least_back}
use Rattle.passing.proofs.Laws.{handed}
use Rattle.sheet.proofs.Cells.{counted_refused, counted_is}
use Rattle.sheet.proofs.counted.Goals as goal

pub returns-in_err-number : goal.returns-in_err-number
returns-in_err-number c = handed c.from_residual.ensures.1 ∙ counted_refused _ _ _ _ (rw (least_back _) at c.number.ensures) c.in_err-number.was

pub returns : goal.returns
returns c = counted_is _ _ _ _ (rw (least_back _) at c.number.ensures) c.in_ok-number.was c.value.ensures
