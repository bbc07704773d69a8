-- `programs_checking::in_force` meets its contract.
-- Assumes nothing.
use mathlib.Core.Path.{◌∙◌}
use Rattle.programs_checking.proofs.Checks.{taken_length}
use Rattle.programs_checking.proofs.in_force.Goals as goal

pub returns : goal.returns
returns c = c.least.ensures ∙ taken_length c.args.cells c.args.map.now
