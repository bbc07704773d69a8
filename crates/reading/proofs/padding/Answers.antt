-- `reading::padding` meets its contract: the bits behind a place are one field of fewer than eight bits.
-- Assumes nothing.
use Rattle.reading.proofs.Entry.{padding_long, padding_none, padding_code}
use Rattle.reading.proofs.Leaves.{positive}
use borrow.Author.Rules.{rules}
use Rattle.reading.proofs.padding.Goals as goal

pub returns-then-left-ge8 : goal.returns-then-left-ge8
returns-then-left-ge8 c = padding_long (c.requires) (c.if-left-ge8.true)

pub returns-then-left-eq0 : goal.returns-then-left-eq0
returns-then-left-eq0 c = padding_none c.requires c.if-left-eq0.true

pub code-requires : goal.code-requires
code-requires c = (search rules, positive _ c.if-left-eq0.false, search rules)

pub returns : goal.returns
returns c = padding_code (c.requires) (c.if-left-ge8.false) (c.code.ensures)
