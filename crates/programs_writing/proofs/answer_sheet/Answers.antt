-- `programs_writing::answer_sheet` meets its contract: the message of a sheet, or what is wrong with the text.
-- Assumes nothing.
use mathlib.Core.Path.{sym}
use native.Mathlib.Omega.{arith}
use lib.ListN.{length}
use lib.Seq.{length-take-le}
use Rattle.programs_writing.proofs.Sheets.{sheet_fits, written_sheet, wrong_text}
use Rattle.programs_writing.proofs.answer_sheet.Goals as goal

pub slice_bounds-write-end : goal.slice_bounds-write-end
slice_bounds-write-end c = let a = c.args in
    let h = sheet_fits a.input.now (length a.cells.now) c.parse_sheet.ensures.answer c.in-Ok.is in
    omega (arith, h)

pub slice_bounds-write-end-in-Ok : goal.slice_bounds-write-end-in-Ok
slice_bounds-write-end-in-Ok c = let a = c.args in
    let h = sheet_fits a.input.now (length a.cells.now) c.parse_sheet.ensures.answer c.in-Ok.is in
    sym (length-take-le _ _ (omega (arith, h)))

pub returns-in-Ok : goal.returns-in-Ok
returns-in-Ok c = let a = c.args in
    let p = c.parse_sheet.ensures in
    let w = c.write-answer.ensures in
    let told = written_sheet a.input.now a.cells.now a.message.now a.out.now p.answer p.cells c.in-Ok.is w.answer w.message (c.put_written.ensures.length, c.put_written.ensures.bytes) in record { length = told.0; bytes = told.1 }

pub returns-in-Err : goal.returns-in-Err
returns-in-Err c = let a = c.args in
    let p = c.parse_sheet.ensures in
    let told = wrong_text a.input.now a.cells.now a.message.now a.out.now p.answer p.cells c.in-Err.is (c.put_wrong.ensures.length, c.put_wrong.ensures.bytes) in record { length = told.0; bytes = told.1 }
