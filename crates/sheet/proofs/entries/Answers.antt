-- `sheet::entries` meets its contract: the size is fixed, or its cell is judged.
-- Assumes nothing.
use mathlib.Core.Path.{refl, ◌∙◌}
use Rattle.passing.proofs.Laws.{handed}
use Rattle.sheet.proofs.Questions.{entries_unknown, entries_behind, entries_fixed, entries_refused, entries_of}
use Rattle.sheet.proofs.Says.{entries_told}
use Rattle.sheet.proofs.entries.Goals as goal

pub returns-then-column-ne-LIST : goal.returns-then-column-ne-LIST
returns-then-column-ne-LIST c = let told = entries_told _ _ _ _ (entries_unknown _ _ _ _ c.column.ensures.is c.if-column-ne-LIST.true c.new.ensures) in record { answer = told.0; says = told.1 }

pub returns-then-sheet-place : goal.returns-then-sheet-place
returns-then-sheet-place c = let told = entries_told _ _ _ _ (entries_behind _ _ _ _ c.column.ensures.is c.if-column-ne-LIST.false c.if-sheet-place.true c.new-then-sheet-place.ensures) in record { answer = told.0; says = told.1 }

pub returns-then-span-eq0 : goal.returns-then-span-eq0
returns-then-span-eq0 c = let told = entries_told _ _ _ _ (entries_fixed _ _ _ _ c.column.ensures.is c.if-column-ne-LIST.false c.if-sheet-place.false c.column-2.ensures.is c.less-least.ensures c.column-span.ensures.is c.column-then-span-eq0.ensures.is c.if-span-eq0.true) in record { answer = told.0; says = told.1 }

pub returns : goal.returns
returns c = let told = entries_told _ _ _ _ (entries_of _ _ _ _ c.column.ensures.is c.if-column-ne-LIST.false c.if-sheet-place.false c.column-2.ensures.is c.less-least.ensures c.column-span.ensures.is c.column-3.ensures.is c.if-span-eq0.false c.counted.ensures c.in_ok-count.was) in record { answer = told.0; says = told.1 }

pub returns-in_err-count : goal.returns-in_err-count
returns-in_err-count c = let told = entries_told _ _ _ _ (handed c.from_residual.ensures.1 ∙ entries_refused _ _ _ _ c.column.ensures.is c.if-column-ne-LIST.false c.if-sheet-place.false c.column-2.ensures.is c.less-least.ensures c.column-span.ensures.is refl c.if-span-eq0.false c.counted.ensures c.in_err-count.was) in record { answer = told.0; says = told.1 }
