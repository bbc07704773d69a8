-- `findings::find` meets its contract: the message in the frame says what is looked at.
-- Assumes nothing.
use Rattle.findings.specs.Told.{told}
use Rattle.findings.proofs.Found.{found_kind, found_none}
use Rattle.findings.proofs.find.Goals as goal

pub returns-in-Ok : goal.returns-in-Ok
unfolding told
returns-in-Ok c = found_kind _ _ (c.rows-rows.ensures) (c.framed.ensures.answer) (c.in-Ok.is) (c.by_kind.ensures)

pub returns-in-Err : goal.returns-in-Err
unfolding told
returns-in-Err c = found_none _ _ (c.rows-rows.ensures) (c.framed.ensures.answer) (c.in-Err.is) (c.check_rsi.ensures)
