-- `programs::answer_input` meets its contract: no type is named, or what is printed is the text of what was read.
-- Assumes nothing.
use native.Mathlib.Omega.{arith}
use Rattle.programs.proofs.Inputs.{no_type, by_type}
use Rattle.programs.proofs.answer_input.Goals as goal

pub returns-then-input-lt-TYPE : goal.returns-then-input-lt-TYPE
returns-then-input-lt-TYPE c =
    let a = c.args in
    let e = c.print_read.ensures in
    let told = no_type a.input.now a.sheet.now a.out.now c.if-input-lt-TYPE.true c.new.ensures c.refused-refused.ensures e.length e.bytes e.room in record { length = told.0; bytes = told.1.0; room = told.1.1 }

pub returns : goal.returns
returns c =
    let a = c.args in
    let e = c.print_read-2.ensures in
    let told = by_type a.input.now a.sheet.now a.out.now c.if-input-lt-TYPE.false (c.two_bytes.ensures.number) (c.read-told.ensures.answer, c.read-told.ensures.cells) (c.from.ensures) e.length e.bytes (omega (arith, e.room, c.read-told.auto)) in record { length = told.0; bytes = told.1.0; room = told.1.1 }
