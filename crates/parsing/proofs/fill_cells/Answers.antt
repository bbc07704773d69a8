-- `parsing::fill_cells` meets its contract. The invariant: what is done so far and what is left give the whole; a turn takes one line.
-- Assumes nothing.
use native.Mathlib.Omega.{arith}
use lib.ListN.{drop, length-drop}
use Rattle.parsing.proofs.Lines.{line_inside}
use Rattle.parsing.proofs.Filling.{done_none, done_more, filled_error, filled_all}
use Rattle.parsing.proofs.fill_cells.Goals as goal

pub loop-at-init : goal.loop-at-init
loop-at-init c = let a = c.args in (c.requires, omega arith, done_none a.input.now a.from a.cells.now)

pub slice_bounds-cell_of-end : goal.slice_bounds-cell_of-end
slice_bounds-cell_of-end c = let t = drop c.loop-at.at c.args.input.now in omega (arith, c.line_end-end.ensures, line_inside t, length-drop c.loop-at.at c.args.input.now)

pub overflow_add-at : goal.overflow_add-at
overflow_add-at c = let t = drop c.loop-at.at c.args.input.now in omega (arith, c.line_end-end.ensures, line_inside t, length-drop c.loop-at.at c.args.input.now)

pub loop-at-smaller : goal.loop-at-smaller
loop-at-smaller c = let t = drop c.loop-at.at c.args.input.now in omega (arith, c.line_end-end.ensures, line_inside t, length-drop c.loop-at.at c.args.input.now)

pub loop-at-preserved : goal.loop-at-preserved
loop-at-preserved c =
    let l = c.loop-at in
    let t = drop l.at c.args.input.now in (
      omega (arith, c.line_end-end.ensures, line_inside t, length-drop l.at c.args.input.now),
      omega (arith, c.line_end-end.ensures),
      done_more l.invariant.2 c.loop-at-test.true c.line_end-end.ensures c.cell_of.ensures (c.in-Ok.is) c.put.ensures,
    )

pub returns-in-Err : goal.returns-in-Err
returns-in-Err c = rw c.at.ensures (filled_error c.loop-at.invariant.2 c.loop-at-test.true c.line_end-end.ensures c.cell_of.ensures c.in-Err.is)

pub returns : goal.returns
returns c = filled_all (c.loop-at.invariant.2) c.loop-at-test.false c.args.of
