-- `sheet::found` meets its contract: the components before it are passed over, and its presence number says whether it is there.
-- Assumes nothing.
use mathlib.Core.Path.{sym, ◌∙◌}
use Rattle.passing.proofs.Laws.{handed}
use Rattle.types.specs.Table.{row_at}
use Rattle.sheet.proofs.Front.{part_refused, part_absent, part_there}
use Rattle.sheet.proofs.found.Goals as goal

pub returns-then-here-eq0 : goal.returns-then-here-eq0
returns-then-here-eq0 c = part_absent _ (sym c.before-2.ensures ∙ c.in_ok-place.was) (sym c.here.ensures ∙ c.if-here-eq0.true)

pub returns : goal.returns
unfolding row_at
returns c = rw c.column-row.ensures.is (part_there _ (sym c.before-2.ensures ∙ c.in_ok-place.was) (λ z. c.if-here-eq0.false (c.here.ensures ∙ z)))

pub returns-in_err-place : goal.returns-in_err-place
returns-in_err-place c = handed c.from_residual.ensures.1 ∙ part_refused _ _ (sym c.before-2.ensures ∙ c.in_err-place.was)
