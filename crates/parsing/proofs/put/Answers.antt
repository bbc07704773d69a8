-- `parsing::put` meets its contract: a cell that is not there changes nothing.
-- Assumes nothing.
use mathlib.Core.Path.{sym}
use lib.Seq.{set_out}
use Rattle.parsing.proofs.put.Goals as goal

pub returns-else-at-cells : goal.returns-else-at-cells
returns-else-at-cells c = sym (set_out _ _ _ c.if-at-cells.false)
