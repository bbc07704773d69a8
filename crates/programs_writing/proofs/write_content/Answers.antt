-- `programs_writing::write_content` meets its contract: no type is named, or the message of the cells that the bytes hold.
-- Assumes nothing.
use mathlib.Core.Path.{refl, sym, ap}
use native.Mathlib.Omega.{arith}
use lib.IntN.{pos}
use lib.ListN.{length, replicate, length-drop}
use lib.Seq.{length-take-le}
use Rattle.programs.proofs.Inputs.{rest}
use Rattle.programs_writing.specs.Sheets.{label_bytes}
use Rattle.programs_writing.proofs.Sheets.{content_untyped, content_typed}
use Rattle.programs_writing.proofs.write_content.Goals as goal

pub returns-then-content-lt-LABEL : goal.returns-then-content-lt-LABEL
returns-then-content-lt-LABEL c = let told = content_untyped c.args.content.now c.args.out.now c.if-content-lt-LABEL.true c.new.ensures refl (c.put_written.ensures.length, c.put_written.ensures.bytes) in record { length = told.0; bytes = told.1 }

pub slice_bounds-write-end : goal.slice_bounds-write-end
slice_bounds-write-end c = let a = c.args in
    sym (length-take-le _ _ (omega (arith, c.fill-count.ensures.count, c.fill-count.auto, c.requires, ap length (rest a.content.now label_bytes), length-drop label_bytes a.content.now)))

pub returns : goal.returns
returns c = let a = c.args in
    let w = c.write-answer.ensures in
    let told = content_typed a.content.now a.out.now c.if-content-lt-LABEL.false (replicate 8192 (pos 0)) c.two_bytes-edition.ensures.number c.two_bytes-type_number.ensures.number c.fill-count.ensures.count (omega (arith, c.fill-count.ensures.count, c.requires, ap length (rest a.content.now label_bytes), length-drop label_bytes a.content.now)) c.fill-count.ensures.cells w.answer w.message (c.put_written-2.ensures.length, c.put_written-2.ensures.bytes) in record { length = told.0; bytes = told.1 }
