-- `packing::is_header` meets its contract: the sheet is a frame, its message the RSI, and neither list is there.
-- Assumes nothing.
use mathlib.Core.Path.{sym, ◌∙◌}
use Rattle.messages.proofs.Frames.{framed_of, framed_no}
use Rattle.packing.proofs.Framed.{frame_none, frame_other, events_there, by_signs}
use Rattle.packing.proofs.is_header.Goals as goal

pub returns-then-index-ne-RSI_FRAME : goal.returns-then-index-ne-RSI_FRAME
returns-then-index-ne-RSI_FRAME c = frame_other _ (framed_of _ (c.requires) (c.framed.ensures.answer) (c.in-Ok.is)) (c.if-index-ne-RSI_FRAME.true)

pub returns-then-has : goal.returns-then-has
returns-then-has c = events_there _ (c.requires) (framed_of _ (c.requires) (c.framed.ensures.answer) (c.in-Ok.is)) (c.if-index-ne-RSI_FRAME.false) (sym (c.has.ensures) ∙ c.if-has.true)

pub returns-else-has : goal.returns-else-has
returns-else-has c = by_signs _ (c.requires) (framed_of _ (c.requires) (c.framed.ensures.answer) (c.in-Ok.is)) (c.if-index-ne-RSI_FRAME.false) (c.has.ensures) (c.if-has.false) (c.has-in-Ok.ensures)

pub returns-in-Err : goal.returns-in-Err
returns-in-Err c = frame_none _ (framed_no _ (c.requires) (c.framed.ensures.answer) (c.in-Err.is))
