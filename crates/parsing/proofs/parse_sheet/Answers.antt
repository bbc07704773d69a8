-- `parsing::parse_sheet` meets its contract: the first line is the edition, the second the type number, and those behind it are the cells.
-- Assumes nothing.
use mathlib.Core.Path.{sym}
use native.Mathlib.Omega.{arith}
use lib.Seq.{length-take-le}
use Rattle.parsing.proofs.Lines.{line_inside}
use Rattle.parsing.proofs.Filling.{shown_sheet, shown_no_edition, shown_out_of_range}
use Rattle.parsing.proofs.Says.{parse_says}
use Rattle.parsing.proofs.parse_sheet.Goals as goal

pub slice_bounds-edition_of-end : goal.slice_bounds-edition_of-end
slice_bounds-edition_of-end c = sym (length-take-le _ _ (omega (arith, c.line_end-end.ensures, line_inside c.args.input.now)))

pub overflow_add-end : goal.overflow_add-end
overflow_add-end c = omega (arith, c.line_end-end.ensures, line_inside c.args.input.now)

pub returns-in-Ok : goal.returns-in-Ok
returns-in-Ok c = let a = c.args in let told = shown_sheet a.input.now a.cells.now c.line_end-end.ensures c.edition_of.ensures c.in-Ok.is (rw c.least.ensures at c.typed_sheet.ensures.answer, rw c.least.ensures at c.typed_sheet.ensures.cells) in record { answer = told.0; cells = told.1; says = parse_says a.input.now _ told.0 }

pub returns-in-Err-NoNumber : goal.returns-in-Err-NoNumber
returns-in-Err-NoNumber c = let a = c.args in let told = shown_no_edition a.input.now a.cells.now c.line_end-end.ensures c.edition_of.ensures (cc) in record { answer = told.0; cells = told.1; says = parse_says a.input.now _ told.0 }

pub returns-in-Err-OutOfRange : goal.returns-in-Err-OutOfRange
returns-in-Err-OutOfRange c = let a = c.args in let told = shown_out_of_range a.input.now a.cells.now c.line_end-end.ensures c.edition_of.ensures (cc) in record { answer = told.0; cells = told.1; says = parse_says a.input.now _ told.0 }
