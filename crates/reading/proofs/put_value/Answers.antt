-- `reading::put_value` meets its contract: the value, and its cell.
-- Assumes nothing.
use mathlib.Core.Path.{ap, ◌∙◌}
use lib.ListN.{set}
use mir.Facts.{to_z-of_z}
use mir.Syntax.{w64}
use Rattle.reading.proofs.put_value.Goals as goal

pub returns : goal.returns
returns c = (c.put.ensures.0 ∙ ap (set c.args.sheet.now c.args.cell) (to_z-of_z {w = w64} {z = c.value_of-value.result} (record { sfits = c.value_of-value.type_inv }) ∙ c.value_of-value.ensures), c.put.ensures.1)
