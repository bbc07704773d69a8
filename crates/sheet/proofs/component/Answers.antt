-- `sheet::component` meets its contract: the row has such a component, and what stands before it is passed over.
-- Assumes nothing.
use mathlib.Core.Path.{◌∙◌}
use Rattle.passing.proofs.Laws.{handed}
use Rattle.sheet.proofs.Front.{no_sequence, no_component, has_component, component_unknown, component_behind, component_refused, component_found, ended_by}
use Rattle.sheet.proofs.Says.{component_told}
use Rattle.sheet.proofs.component.Goals as goal

pub returns-then-column-ne-SEQUENCE : goal.returns-then-column-ne-SEQUENCE
returns-then-column-ne-SEQUENCE c = let told = component_told _ _ _ _ _ (component_unknown _ _ _ _ _ (no_sequence _ _ _ c.column.ensures.is c.if-column-ne-SEQUENCE.true) c.new.ensures) in record { answer = told.0; says = told.1 }

pub returns-then-count-k : goal.returns-then-count-k
returns-then-count-k c = let told = component_told _ _ _ _ _ (component_unknown _ _ _ _ _ (no_component _ _ _ c.column.ensures.is c.if-column-ne-SEQUENCE.false c.column-count.ensures.is c.if-count-k.true) c.new-then-count-k.ensures) in record { answer = told.0; says = told.1 }

pub returns-then-sheet-place : goal.returns-then-sheet-place
returns-then-sheet-place c = let told = component_told _ _ _ _ _ (component_behind _ _ _ _ _ (has_component _ _ _ c.column.ensures.is c.if-column-ne-SEQUENCE.false c.column-count.ensures.is c.if-count-k.false) c.if-sheet-place.true c.new-then-sheet-place.ensures) in record { answer = told.0; says = told.1 }

pub returns : goal.returns
returns c = let told = component_told _ _ _ _ _ (component_found _ _ _ _ _ (has_component _ _ _ c.column.ensures.is c.if-column-ne-SEQUENCE.false c.column-count.ensures.is c.if-count-k.false) c.if-sheet-place.false c.column-first.ensures.is c.column-count.ensures.is (λ look. ended_by _ (c.presence.ensures look)) c.in_ok-start.was c.found.ensures) in record { answer = told.0; says = told.1 }

pub returns-in_err-start : goal.returns-in_err-start
returns-in_err-start c = let told = component_told _ _ _ _ _ (handed c.from_residual.ensures.1 ∙ component_refused _ _ _ _ _ (has_component _ _ _ c.column.ensures.is c.if-column-ne-SEQUENCE.false c.column-count.ensures.is c.if-count-k.false) c.if-sheet-place.false c.column-first.ensures.is c.column-count.ensures.is (λ look. ended_by _ (c.presence.ensures look)) c.in_err-start.was) in record { answer = told.0; says = told.1 }
