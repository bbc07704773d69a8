-- `reading::behind` meets its contract.
-- Assumes nothing.
use mathlib.Core.Path.{refl}
use borrow.Author.Tests.{eq-eqb, ne_eqb}
use Rattle.reading.specs.Taken.{behind_of}
use Rattle.reading.proofs.behind.Goals as goal

pub returns-then-word-eq0 : goal.returns-then-word-eq0
unfolding behind_of
returns-then-word-eq0 c = rw (eq-eqb _ 0 c.if-word-eq0.true) refl

pub returns : goal.returns
unfolding behind_of
returns c = rw (ne_eqb _ 0 c.if-word-eq0.false) refl
