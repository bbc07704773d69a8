-- `writing::long` meets its contract: the three ways on from the end of the value.
use Rattle.writing.proofs.Entry.{long_spare, long_all, long_no}
use Rattle.writing.proofs.long.Goals as goal

pub returns-then-end-sheet : goal.returns-then-end-sheet
returns-then-end-sheet c = let a = c.args in long_spare (c.requires.0) a.row (c.requires.1) a.sheet.now (c.requires.2) (c.pass.ensures.answer) (c.in-Ok.is) (c.if-end-sheet.true) (c.new.ensures)

pub returns-else-end-sheet : goal.returns-else-end-sheet
returns-else-end-sheet c = let a = c.args in long_all (c.requires.0) a.row (c.requires.1) a.sheet.now (c.requires.2) (c.pass.ensures.answer) (c.in-Ok.is) (c.if-end-sheet.false) (c.new-in-Ok.ensures)

pub returns-in-Err : goal.returns-in-Err
returns-in-Err c = let a = c.args in long_no (c.requires.0) a.row (c.requires.1) a.sheet.now (c.requires.2) (c.pass.ensures.answer) (c.in-Err.is)
