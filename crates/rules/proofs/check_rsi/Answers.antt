-- `rules::check_rsi` meets its contract: a sheet is no value, its message is another one, or the lists of the RSI decide.
-- Assumes nothing.
use Rattle.std.proofs.Common.{◌∙◌}
use Rattle.std.proofs.lemmas.Result.{err_from_is_err_and}
use Rattle.messages.proofs.Frames.{framed_of, framed_no}
use Rattle.rules.specs.Breaches.{told}
use Rattle.rules.proofs.Breaches.{told_breach}
use Rattle.rules.proofs.Frame.{frame_refused, frame_other}
use Rattle.rules.proofs.check_rsi.Goals as goal

pub returns-in_err-frame : goal.returns-in_err-frame
unfolding told
returns-in_err-frame c =
    let p = err_from_is_err_and c.from_residual.result c.from_residual.ensures.1 in
    rw (p.1, p.2) (frame_refused _ (framed_no _ c.rows-rows.ensures c.framed.ensures.answer c.in_err-frame.was))

pub returns-then-frame-ne-RSI_FRAME : goal.returns-then-frame-ne-RSI_FRAME
returns-then-frame-ne-RSI_FRAME c = told_breach c.new.ensures ∙ frame_other _ (framed_of _ c.rows-rows.ensures c.framed.ensures.answer c.in_ok-frame.was) c.if-frame-ne-RSI_FRAME.true

pub check_lists-requires : goal.check_lists-requires
check_lists-requires c = (c.rows-rows.ensures, rw c.if-frame-ne-RSI_FRAME.false at (framed_of c.args.sheet.now c.rows-rows.ensures c.framed.ensures.answer c.in_ok-frame.was))
