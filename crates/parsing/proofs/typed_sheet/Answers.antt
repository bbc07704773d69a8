-- `parsing::typed_sheet` meets its contract: the line is the type number, and those behind it are the cells.
-- Assumes nothing.
use native.Mathlib.Omega.{arith}
use lib.ListN.{drop, length-drop}
use Rattle.parsing.proofs.Lines.{line_inside}
use Rattle.parsing.proofs.Filling.{typed_sheet, typed_error}
use Rattle.parsing.proofs.typed_sheet.Goals as goal

pub slice_bounds-whole_of-end : goal.slice_bounds-whole_of-end
slice_bounds-whole_of-end c = let a = c.args in omega (arith, c.line_end-end.ensures, line_inside (drop a.from a.input.now), length-drop a.from a.input.now)

pub overflow_add-end : goal.overflow_add-end
overflow_add-end c = let a = c.args in omega (arith, c.line_end-end.ensures, line_inside (drop a.from a.input.now), length-drop a.from a.input.now)

pub place_cells-requires : goal.place_cells-requires
place_cells-requires c = let a = c.args in omega (arith, c.line_end-end.ensures, line_inside (drop a.from a.input.now), length-drop a.from a.input.now)

pub returns-in-Ok : goal.returns-in-Ok
returns-in-Ok c = let a = c.args in let told = typed_sheet a.edition a.input.now a.cells.now a.from c.line_end-end.ensures c.whole_of.ensures c.in-Ok.is (c.place_cells.ensures.answer, c.place_cells.ensures.cells) in record { answer = told.0; cells = told.1 }

pub returns-in-Err : goal.returns-in-Err
returns-in-Err c = let a = c.args in let told = typed_error a.edition a.input.now a.cells.now a.from c.line_end-end.ensures c.whole_of.ensures c.in-Err.is in rw c.at.ensures (record { answer = told.0; cells = told.1 })
