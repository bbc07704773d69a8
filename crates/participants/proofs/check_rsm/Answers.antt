-- `participants::check_rsm` meets its contract: a sheet is no value, its message is another one, or its participants decide.
-- Assumes nothing.
use Rattle.std.proofs.Common.{ap, ◌∙◌}
use Rattle.std.proofs.lemmas.Result.{err_from_is_err_and}
use Rattle.sheet.specs.Standing.{part_row}
use Rattle.messages.specs.Message.{message_frame}
use Rattle.messages.proofs.Entries.{message_entries}
use Rattle.messages.proofs.Frames.{framed_of, framed_no}
use Rattle.rules.specs.Breaches.{told}
use Rattle.rules.proofs.Breaches.{told_breach}
use Rattle.participants.specs.Components.{participants}
use Rattle.participants.proofs.Types.{participants_list}
use Rattle.participants.proofs.Frame.{frame_refused, frame_other, frame_rsm, few}
use Rattle.participants.proofs.check_rsm.Goals as goal

pub returns-in_err-frame : goal.returns-in_err-frame
unfolding told
returns-in_err-frame c =
    let p = err_from_is_err_and c.from_residual.result c.from_residual.ensures.1 in
    rw (p.1, p.2) (frame_refused _ (framed_no _ c.rows-rows.ensures c.framed.ensures.answer c.in_err-frame.was))

pub returns-then-frame-ne-RSM_FRAME : goal.returns-then-frame-ne-RSM_FRAME
returns-then-frame-ne-RSM_FRAME c = told_breach c.new.ensures ∙ frame_other _ (framed_of _ c.rows-rows.ensures c.framed.ensures.answer c.in_ok-frame.was) c.if-frame-ne-RSM_FRAME.true

pub judge-requires : goal.judge-requires
judge-requires c =
    let F = framed_of c.args.sheet.now c.rows-rows.ensures c.framed.ensures.answer c.in_ok-frame.was in
    (c.rows-rows.ensures, few c.rows-rows.ensures c.args.sheet.now _ _ (F.of_row ∙ ap (part_row message_frame) c.if-frame-ne-RSM_FRAME.false) c.entries_of-list.ensures)

pub returns : goal.returns
returns c =
    let F = framed_of c.args.sheet.now c.rows-rows.ensures c.framed.ensures.answer c.in_ok-frame.was in
    frame_rsm _ F c.if-frame-ne-RSM_FRAME.false (c.judge.ensures _ (message_entries _ c.rows-rows.ensures F c.if-frame-ne-RSM_FRAME.false participants participants_list c.entries_of-list.ensures))
