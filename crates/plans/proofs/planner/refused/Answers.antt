-- `plans::planner::refused` meets its contract.
use mathlib.Core.Path.{ap}
use Rattle.answers.specs.Answers.{refused_by}
use Rattle.plans.proofs.planner.refused.Goals as goal

pub returns : goal.returns
returns c = ap refused_by c.new.ensures
