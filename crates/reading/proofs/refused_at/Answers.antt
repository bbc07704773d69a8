-- `reading::refused_at` meets its contract.
use mathlib.Core.Path.{ap}
use Rattle.answers.specs.Answers.{refused_by}
use Rattle.reading.proofs.refused_at.Goals as goal

pub returns : goal.returns
returns c = ap refused_by c.new.ensures
