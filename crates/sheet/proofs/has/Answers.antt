-- `sheet::has` meets its contract: the row has such a component, and its presence number is not 0.
-- Assumes nothing.
use Rattle.sheet.proofs.Front.{no_sequence, no_component, has_component, has_unknown, has_behind, has_here}
use Rattle.sheet.proofs.has.Goals as goal

pub returns-then-column-ne-SEQUENCE : goal.returns-then-column-ne-SEQUENCE
returns-then-column-ne-SEQUENCE c = has_unknown _ _ _ _ _ (no_sequence _ _ _ c.column.ensures.is c.if-column-ne-SEQUENCE.true)

pub returns-then-column-k : goal.returns-then-column-k
returns-then-column-k c = has_unknown _ _ _ _ _ (no_component _ _ _ c.column.ensures.is c.if-column-ne-SEQUENCE.false c.column-2.ensures.is c.if-column-k.true)

pub returns-then-sheet-place : goal.returns-then-sheet-place
returns-then-sheet-place c = has_behind _ _ _ _ _ (has_component _ _ _ c.column.ensures.is c.if-column-ne-SEQUENCE.false c.column-2.ensures.is c.if-column-k.false) c.if-sheet-place.true

pub returns : goal.returns
returns c = has_here _ _ _ _ _ (has_component _ _ _ c.column.ensures.is c.if-column-ne-SEQUENCE.false c.column-2.ensures.is c.if-column-k.false) c.if-sheet-place.false c.column-3.ensures.is c.here.ensures
