-- `signals::check_signal` meets its contract: the signal's sheet is no value, or it is looked at beside the map's.
-- Assumes nothing.
use mathlib.Core.Path.{◌∙◌}
use Rattle.signals.proofs.Mismatches.{told_mismatch}
use Rattle.messages.proofs.Frames.{framed_of, framed_no}
use Rattle.signals.proofs.Frames.{signal_refused}
use Rattle.signals.proofs.check_signal.Goals as goal

pub beside-requires : goal.beside-requires
beside-requires c = (c.rows-rows.ensures, framed_of _ (c.rows-rows.ensures) (c.framed.ensures.answer) (c.in-Ok.is))

pub returns-in-Ok : goal.returns-in-Ok
returns-in-Ok c = c.beside.ensures

pub returns-in-Err : goal.returns-in-Err
returns-in-Err c = told_mismatch c.new.ensures ∙ signal_refused _ _ (framed_no _ (c.rows-rows.ensures) (c.framed.ensures.answer) (c.in-Err.is))
