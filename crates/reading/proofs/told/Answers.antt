-- `reading::told` meets its contract: a refusal that is not by 4 stays; one that is gets the reason and the row, and keeps its place.
use mathlib.Core.Path.{sym, ◌∙◌}
use native.Mathlib.Omega.{arith}
use Rattle.reading.proofs.Telling.{told_stays, told_went_lem}
use Rattle.reading.proofs.told.Goals as goal

pub returns-then-r-number : goal.returns-then-r-number
returns-then-r-number c = (told_stays _ _ c.requires.1 (λ e. c.if-r-number.true (e ∙ sym c.number.ensures.is)), c.requires.1)

pub named-requires : goal.named-requires
named-requires c = (c.requires.0, omega arith)

pub returns : goal.returns
returns c = (c.named.ensures.0 ∙ told_went_lem _ _ c.requires.1 (c.if-r-number.false ∙ c.number.ensures.is), c.named.ensures.1)
