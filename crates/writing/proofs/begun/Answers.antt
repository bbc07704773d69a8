-- `writing::begun` meets its contract.
-- Assumes nothing.
use mathlib.Core.Path.{refl}
use borrow.Author.Tests.{ne_eqb}
use Rattle.writing.proofs.begun.Goals as goal

pub returns-then-mark-eq0 : goal.returns-then-mark-eq0
returns-then-mark-eq0 c = rw (c.if-mark-eq0.true) refl

pub returns : goal.returns
returns c = rw (ne_eqb _ 0 (c.if-mark-eq0.false)) (c.least.ensures)
