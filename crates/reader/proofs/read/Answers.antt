-- `reader::read` meets its contract: the answer, with the edition and the type number beside it.
use mathlib.Core.Path.{ap}
use Rattle.answers.specs.declared.Answer.{Answer}
use Rattle.answers.specs.Answers.{ReadAnswer}
use Rattle.types.specs.Named.{first_edition}
use Rattle.reader.proofs.read.Goals as goal

pub returns : goal.returns
returns c = record { answer = ap (λ (a : Answer). record { edition = first_edition; type_number = c.args.type_number; answer = a }) c.read_typed-answer.ensures.answer; cells = c.read_typed-answer.ensures.cells }
