-- `knotsaffron::knotsaffron_write` meets its contract: the answer is that of `writer::write`, cell by cell, and the bytes are as it left them.
-- Assumes nothing.
use mathlib.Core.Path.{ap, ◌∙◌}
use Rattle.knotsaffron.specs.Cells.{written_cells}
use Rattle.knotsaffron.proofs.knotsaffron_write.Goals as goal

pub returns : goal.returns
returns c = let r = c.write.ensures in record { told = c.cells_of_writing.ensures ∙ ap written_cells r.answer; message = r.message }
