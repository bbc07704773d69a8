-- `passing::pass` meets its contract: the walk says where the value ends.
-- Assumes nothing.
use Rattle.passing.proofs.Says.{pass_told, pass_row, pass_behind, pass_ended}
use Rattle.passing.proofs.pass.Goals as goal

pub returns-then-row-ge-ROWS : goal.returns-then-row-ge-ROWS
returns-then-row-ge-ROWS c = let told = pass_told _ _ _ _ (pass_row _ _ _ _ c.if-row-ge-ROWS.true c.new.ensures) in record { answer = told.0; says = told.1 }

pub returns-then-sheet-place : goal.returns-then-sheet-place
returns-then-sheet-place c = let told = pass_told _ _ _ _ (pass_behind _ _ _ _ c.if-row-ge-ROWS.false c.if-sheet-place.true c.no.ensures) in record { answer = told.0; says = told.1 }

pub returns : goal.returns
returns c = let told = pass_told _ _ _ _ (pass_ended _ _ _ _ c.if-row-ge-ROWS.false c.if-sheet-place.false c.walk.ensures) in record { answer = told.0; says = told.1 }
