-- `programs_checking::Tally::with` meets its contract: no record, one that passes, or another.
-- Assumes nothing.
use Rattle.programs_checking.proofs.Checks.{counted_none, counted_pass, counted_fault}
use Rattle.programs_checking.proofs.Tally.with.Goals as goal

pub returns-then-checked-eq0 : goal.returns-then-checked-eq0
returns-then-checked-eq0 c = let a = c.args in counted_none a.self a.checked c.if-checked-eq0.true

pub returns-then-checked : goal.returns-then-checked
returns-then-checked c = let a = c.args in counted_pass a.self a.checked c.if-checked-eq0.false c.later-records.ensures c.if-checked.true c.later.ensures

pub returns : goal.returns
returns c = let a = c.args in counted_fault a.self a.checked c.if-checked-eq0.false c.later-records.ensures c.if-checked.false
