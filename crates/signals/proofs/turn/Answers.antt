-- `signals::turn` meets its contract: the phase is the number of that component.
-- Assumes nothing.
use Rattle.std.proofs.Common.{refl}
use Rattle.signals.proofs.Levels.{level_phase}
use Rattle.signals.proofs.Types.{turn_figure}
use Rattle.signals.proofs.turn.Goals as goal

pub returns : goal.returns
returns c = λ says v F t S. level_phase _ c.requires.0 c.args.row c.args.place S refl c.args.k says (turn_figure c.args.row c.args.k t) c.unless_listed.result c.number_of.ensures (λ few. c.unless_listed.ensures says F few)
