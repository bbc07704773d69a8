-- `writing::width_in` meets its contract.
-- Assumes nothing.
use mathlib.Core.Path.{ap, ◌∙◌}
use Rattle.bits.specs.Numbers.{width}
use Rattle.writing.proofs.Leaves.{narrow_in}
use Rattle.writing.proofs.width_in.Goals as goal

pub returns : goal.returns
returns c = (c.width.ensures ∙ ap width (c.span_in.ensures.0), narrow_in 32 (c.span_in.ensures.1) (c.width.ensures))
