-- `walking::plain` meets its contract: the depth, the mark and the kind of the row decide.
-- Assumes nothing.
use mathlib.Core.Path.{refl}
use borrow.Author.Tests.{ne_eqb}
use Rattle.walking.specs.Walked.{plain_row}
use Rattle.walking.proofs.plain.Goals as goal

pub returns-then-depth-eq0 : goal.returns-then-depth-eq0
unfolding plain_row
returns-then-depth-eq0 c = rw c.if-depth-eq0.true refl

pub returns-then-column-ne0 : goal.returns-then-column-ne0
unfolding plain_row
returns-then-column-ne0 c = rw (ne_eqb _ 0 c.if-depth-eq0.false, ← c.column.ensures.is, ne_eqb _ 0 c.if-column-ne0.true) refl

pub returns : goal.returns
unfolding plain_row
returns c = rw (ne_eqb _ 0 c.if-depth-eq0.false, ← c.column.ensures.is, c.if-column-ne0.false, ← c.column-2.ensures.is) refl
