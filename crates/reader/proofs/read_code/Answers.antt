-- `reader::read_code` meets its contract: a width that the table has is fetched, any other is 2.
-- Assumes nothing.
use mathlib.Core.Path.{sym, ap, ◌∙◌}
use Rattle.meaning.specs.Fields.{code_at}
use Rattle.meaning.proofs.Says.{code_told}
use Rattle.reader.proofs.read_code.Goals as goal
use Rattle.std.specs.Prelude.{Err}

pub returns-then-held : goal.returns-then-held
unfolding code_at
returns-then-held c = let told = code_told _ _ _ (rw (sym c.held.ensures ∙ c.if-held.true) c.fetch.ensures.answer) in record { answer = told.0; says = told.1 }

pub returns : goal.returns
unfolding code_at
returns c = let told = code_told _ _ _ (rw (sym c.held.ensures ∙ c.if-held.false) (ap Err c.new.ensures)) in record { answer = told.0; says = told.1 }
