-- `reader::read_typed` meets its contract: a named type is read by its row, any other type number is 2.
use mathlib.Core.Path.{refl, sym, ap, ◌∙◌}
use Rattle.answers.specs.Answers.{refused_by, lent_after}
use Rattle.meaning.specs.Messages.{read_typed}
use Rattle.meaning.proofs.NamedRows.{named_is_row}
use Rattle.reader.proofs.read_typed.Goals as goal

pub returns-in_default : goal.returns-in_default
unfolding read_typed lent_after
returns-in_default c = rw (sym c.row_of.ensures.answer ∙ c.in_default.is) (record { answer = ap refused_by c.new.ensures; cells = refl })

pub returns : goal.returns
returns c = let e = sym c.row_of.ensures.answer ∙ c.in-Some.is in rw (e, ← named_is_row _ _ e) c.read_row.ensures
