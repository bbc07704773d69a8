-- `reading::begin` meets its contract: no extension bit, one that is not there, one that is 1, and one that is 0.
-- Assumes nothing.
use Rattle.reading.proofs.Leaves.{begin_none, begin_short, begin_on, begin_off}
use Rattle.reading.proofs.begin.Goals as goal

pub returns-then-mark-eq0 : goal.returns-then-mark-eq0
returns-then-mark-eq0 c = begin_none (c.requires) _ (c.if-mark-eq0.true)

pub returns-then-total-at : goal.returns-then-total-at
returns-then-total-at c = begin_short (c.requires) _ (c.if-mark-eq0.false) _ (c.if-total-at.true) (c.short.ensures.0)

pub returns-then-code-ne0 : goal.returns-then-code-ne0
returns-then-code-ne0 c = begin_on (c.requires) _ (c.if-mark-eq0.false) (c.if-total-at.false) (c.code.ensures) _ (c.if-code-ne0.true) (c.no.ensures)

pub returns : goal.returns
returns c = begin_off (c.requires) _ (c.if-mark-eq0.false) (c.if-total-at.false) (c.code.ensures) (c.if-code-ne0.false)
