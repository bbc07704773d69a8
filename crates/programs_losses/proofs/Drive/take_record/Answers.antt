-- `Drive::take_record` meets its contract: the frame in the record, a record that is cut, or none.
-- Assumes nothing.
use mathlib.Core.Path.{refl, sym, ap, ◌∙◌}
use native.Mathlib.Omega.{arith}
use Rattle.std.specs.Prelude.{Ok}
use Rattle.answers.specs.Answers.{refused_by}
use Rattle.programs_losses.specs.Lines.{unread_line}
use Rattle.records.proofs.Records.{whole_ends}
use Rattle.programs.proofs.Inputs.{same_front}
use Rattle.programs_losses.proofs.Drives.{later_uncounted, take_whole, take_cut, take_none}
use Rattle.programs_losses.proofs.Drive.take_record.Goals as goal

pub slice_bounds-take_frame-count : goal.slice_bounds-take_frame-count
slice_bounds-take_frame-count c = let w = whole_ends c.args.held.now (sym c.first_record.ensures.answer ∙ (c.in-Ok-Some.is ∙ ap Ok c.in-Ok-Some.field-0-is)) in omega (arith, w.0, w.1, w.2)

pub slice_bounds-take_frame-start : goal.slice_bounds-take_frame-start
slice_bounds-take_frame-start c = let w = whole_ends c.args.held.now (sym c.first_record.ensures.answer ∙ (c.in-Ok-Some.is ∙ ap Ok c.in-Ok-Some.field-0-is)) in omega (arith, w.0, w.1, w.2)

pub slice_bounds-take_frame-end : goal.slice_bounds-take_frame-end
slice_bounds-take_frame-end c = let w = whole_ends c.args.held.now (sym c.first_record.ensures.answer ∙ (c.in-Ok-Some.is ∙ ap Ok c.in-Ok-Some.field-0-is)) in omega (arith, w.0, w.1, w.2)

pub returns-in-Ok-Some : goal.returns-in-Ok-Some
returns-in-Ok-Some c = let told = take_whole c.args.self.now c.args.held.now c.args.out.now c.first_record.ensures.answer (c.in-Ok-Some.is ∙ ap Ok c.in-Ok-Some.field-0-is) (c.take_frame-length.ensures.answer, c.take_frame-length.ensures.bytes) in record { answer = told.0; bytes = told.1 }

pub returns-in-Err : goal.returns-in-Err
returns-in-Err c = let told = take_cut c.args.self.now c.args.held.now c.args.out.now c.first_record.ensures.answer c.in-Err.is (same_front (ap (unread_line c.args.self.now.records) (ap refused_by c.new.ensures)) c.args.out.now (c.put_unread-length.ensures.length, c.put_unread-length.ensures.bytes)) (later_uncounted c.args.self.now _ c.later-self.ensures refl) in record { answer = told.0; bytes = told.1 }

pub returns-in-Ok-None : goal.returns-in-Ok-None
returns-in-Ok-None c = let told = take_none c.args.self.now c.args.held.now c.args.out.now c.first_record.ensures.answer (c.in-Ok-None.is ∙ ap Ok c.in-Ok-None.field-0-is) in record { answer = told.0; bytes = told.1 }
