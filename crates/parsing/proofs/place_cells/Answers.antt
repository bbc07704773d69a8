-- `parsing::place_cells` meets its contract: a wrong line or too many cells by the first pass, else the cells by the second.
-- Assumes nothing.
use Rattle.parsing.proofs.Filling.{pass_no_room, pass_filled}
use Rattle.parsing.proofs.place_cells.Goals as goal

pub returns-then-cells-count : goal.returns-then-cells-count
returns-then-cells-count c = let told = pass_no_room c.args.of c.args.cells.now _ c.fill_cells.ensures.told c.in_ok-count.was c.if-cells-count.true in record { answer = told.0; cells = told.1 }

pub returns : goal.returns
returns c = let told = pass_filled c.args.of c.args.cells.now _ c.fill_cells.ensures.told c.in_ok-count.was c.if-cells-count.false c.fill_cells-2.ensures in record { answer = told.0; cells = told.1 }
