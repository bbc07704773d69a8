-- `sheet::no` meets its contract.
-- Assumes nothing.
use mathlib.Core.Path.{ap}
use Rattle.std.specs.Prelude.{Err}
use Rattle.sheet.proofs.no.Goals as goal

pub returns : goal.returns
returns c = ap Err c.new.ensures
