-- `sheet::chosen` meets its contract: the index cell is judged, and the table has the row of the alternative.
-- Assumes nothing.
use mathlib.Core.Path.{◌∙◌}
use native.Mathlib.Omega.{arith}
use Rattle.passing.proofs.Laws.{handed}
use Rattle.sheet.proofs.Questions.{chosen_unknown, chosen_refused, chosen_of, index_counted}
use Rattle.sheet.proofs.Says.{chosen_told}
use Rattle.sheet.proofs.chosen.Goals as goal

pub returns-then-column-ne-CHOICE : goal.returns-then-column-ne-CHOICE
returns-then-column-ne-CHOICE c = let told = chosen_told _ _ _ _ (chosen_unknown _ _ _ _ c.column.ensures.is c.if-column-ne-CHOICE.true c.new.ensures) in record { answer = told.0; says = told.1 }

pub overflow_add-alternative : goal.overflow_add-alternative
overflow_add-alternative c = omega (arith, (index_counted _ _ _ _ c.column.ensures.is c.if-column-ne-CHOICE.false c.column-2.ensures.is c.counted.ensures c.in_ok-index.was).sum, (index_counted _ _ _ _ c.column.ensures.is c.if-column-ne-CHOICE.false c.column-2.ensures.is c.counted.ensures c.in_ok-index.was).within, c.column-2.ensures.small, c.column-3.ensures.small)

pub overflow_add-result : goal.overflow_add-result
overflow_add-result c = omega (arith, (index_counted _ _ _ _ c.column.ensures.is c.if-column-ne-CHOICE.false c.column-2.ensures.is c.counted.ensures c.in_ok-index.was).enough)

pub returns : goal.returns
returns c = let told = chosen_told _ _ _ _ (chosen_of _ _ _ _ c.column.ensures.is c.if-column-ne-CHOICE.false c.column-2.ensures.is c.counted.ensures c.in_ok-index.was c.column-3.ensures.is c.column-4.ensures.is) in record { answer = told.0; says = told.1 }

pub returns-in_err-index : goal.returns-in_err-index
returns-in_err-index c = let told = chosen_told _ _ _ _ (handed c.from_residual.ensures.1 ∙ chosen_refused _ _ _ _ c.column.ensures.is c.if-column-ne-CHOICE.false c.column-2.ensures.is c.counted.ensures c.in_err-index.was) in record { answer = told.0; says = told.1 }
