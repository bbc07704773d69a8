-- `signals::nodes_in` meets its contract: the nodes of a MAP, and 0 for any other sheet.
-- Assumes nothing.
use mathlib.Core.Path.{sym, ap}
use Rattle.messages.proofs.Frames.{framed_of, framed_no}
use Rattle.signals.specs.Signal.{nodes_of, nodes_in}
use Rattle.signals.proofs.Frames.{no_map_nodes, map_nodes}
use Rattle.signals.proofs.nodes_in.Goals as goal

pub returns-then-index-ne-MAP_FRAME : goal.returns-then-index-ne-MAP_FRAME
returns-then-index-ne-MAP_FRAME c = no_map_nodes _ (framed_of _ (c.rows-rows.ensures) (c.framed.ensures.answer) (c.in-Ok.is)) (c.if-index-ne-MAP_FRAME.true)

pub returns-else-index-ne-MAP_FRAME : goal.returns-else-index-ne-MAP_FRAME
returns-else-index-ne-MAP_FRAME c = map_nodes _ (c.rows-rows.ensures) (framed_of _ (c.rows-rows.ensures) (c.framed.ensures.answer) (c.in-Ok.is)) (c.if-index-ne-MAP_FRAME.false) (c.entries_of-nodes.ensures)

pub returns-in-Err : goal.returns-in-Err
unfolding nodes_in nodes_of
returns-in-Err c = sym (ap nodes_of (framed_no _ (c.rows-rows.ensures) (c.framed.ensures.answer) (c.in-Err.is)))
