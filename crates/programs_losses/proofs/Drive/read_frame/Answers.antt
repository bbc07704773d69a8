-- `Drive::read_frame` meets its contract: a frame that can't be read, or the report of its origin.
-- Assumes nothing.
use mathlib.Core.Path.{refl, sym, ap, ◌∙◌}
use native.Mathlib.Omega.{arith}
use lib.Seq.{length-take-le}
use Rattle.answers.specs.Answers.{answered, ReadAnswer}
use Rattle.answers.proofs.Lent.{failed}
use Rattle.answers.proofs.Numbered.{never_done}
use Rattle.std.specs.Prelude.{Ok, Err}
use Rattle.parties.specs.Parties.{answered_with}
use Rattle.programs_losses.specs.Lines.{uncounted_line}
use Rattle.programs.proofs.Inputs.{same_front}
use Rattle.programs.proofs.Frames.{read_fits}
use Rattle.programs_losses.proofs.Lines.{refused_line, counted_line, not_done}
use Rattle.programs_losses.proofs.Drives.{later_counted, later_uncounted, told_unread, told_report}
use Rattle.programs_losses.proofs.Drive.read_frame.Goals as goal

pub returns-in-Err : goal.returns-in-Err
returns-in-Err c =
    let d = c.args.self.now in
    let read = ap answered (sym c.in-Err.is) ∙ ap (λ (x : ReadAnswer). x.answer) c.read-answer.ensures.answer in
    let told = told_unread d c.args.frame.now c.args.out.now c.args.sheet.now c.requires.1 (read, c.read-answer.ensures.cells) (failed c.in-Err.why) (c.put_unread.ensures.length, c.put_unread.ensures.bytes) (later_uncounted d _ c.later-self.ensures (not_done (failed c.in-Err.why))) in
    record { answer = told.0; bytes = told.1 }

pub slice_bounds-origin_in-end : goal.slice_bounds-origin_in-end
slice_bounds-origin_in-end c = omega (arith, read_fits 0 c.args.frame.now c.args.sheet.now (ap answered (sym c.in-Ok.is) ∙ ap (λ (x : ReadAnswer). x.answer) c.read-answer.ensures.answer) refl)

pub slice_bounds-origin_in-end-2 : goal.slice_bounds-origin_in-end-2
slice_bounds-origin_in-end-2 c = sym (length-take-le _ _ (omega (arith, read_fits 0 c.args.frame.now c.args.sheet.now (ap answered (sym c.in-Ok.is) ∙ ap (λ (x : ReadAnswer). x.answer) c.read-answer.ensures.answer) refl)))

pub returns-in-Ok-told : goal.returns-in-Ok-told
returns-in-Ok-told c =
    let d = c.args.self.now in
    let read = ap answered (sym c.in-Ok.is) ∙ ap (λ (x : ReadAnswer). x.answer) c.read-answer.ensures.answer in
    let told = told_report d c.args.frame.now c.args.out.now c.args.sheet.now c.requires.1 (read, c.read-answer.ensures.cells) refl c.origin_in-origin.ensures c.in-Ok-told.ensures (counted_line d.records c.args.out.now) (later_counted d (answered_with c.report-told.new.self (Ok c.in-Ok-told.field-0)) c.later-self.ensures refl c.later-self-in-Ok-told.ensures) in
    record { answer = told.0; bytes = told.1 }

pub returns-in-Err-told : goal.returns-in-Err-told
returns-in-Err-told c =
    let d = c.args.self.now in
    let read = ap answered (sym c.in-Ok.is) ∙ ap (λ (x : ReadAnswer). x.answer) c.read-answer.ensures.answer in
    let line = same_front (ap (uncounted_line d.records) c.number.ensures.is ∙ refused_line d.records c.in-Err-told.why) c.args.out.now (c.put_uncounted.ensures.length, c.put_uncounted.ensures.bytes) in
    let told = told_report d c.args.frame.now c.args.out.now c.args.sheet.now c.requires.1 (read, c.read-answer.ensures.cells) refl c.origin_in-origin.ensures c.in-Err-told.ensures line (later_uncounted d (answered_with c.report-told.new.self (Err c.in-Err-told.why)) c.later-self.ensures (never_done c.in-Err-told.why)) in
    record { answer = told.0; bytes = told.1 }
