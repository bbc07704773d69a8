-- `printing::append_read` meets its contract: a refusal, or the line of the edition, the line of the counts in five pieces, and then the cells.
-- Assumes nothing.
use Prim.Native.Nat.{◌<◌, ◌^◌}
use native.Mathlib.Omega.{arith}
use borrow.Author.Tests.{eq-eqb, ne_eqb}
use lib.ListN.{length}
use Rattle.printing.specs.Texts.{ascii, read_text}
use Rattle.printing.proofs.Appending.{then}
use Rattle.printing.proofs.Lengths.{refused_short, accepted_short}
use Rattle.printing.proofs.append_read.Goals as goal

pub returns-then-answer-ne0 : goal.returns-then-answer-ne0
unfolding ascii read_text
returns-then-answer-ne0 c =
    let a = c.args in
    record { text = rw (ne_eqb _ _ c.if-answer-ne0.true) c.append_refusal.ensures; room = refused_short a.edition a.answer a.sheet.now c.if-answer-ne0.true (omega arith) (omega arith) }

pub returns : goal.returns
unfolding ascii read_text
returns c =
    let a = c.args in
    let h : length a.out.now < 2 ^ 64 = omega arith in
    let zero = c.if-answer-ne0.false in record { text = rw (eq-eqb _ _ zero) (then h (then h (then h (then h (then h (then h c.append_sentence-counts.ensures c.append-bits.ensures) c.append_decimal-after_bits.ensures) c.append-cells.ensures) c.append_decimal-after_cells.ensures) c.append-lines.ensures) c.append_cells.ensures.text); room = accepted_short a.edition a.answer a.sheet.now zero (omega arith) (omega arith) (omega arith) c.append_cells.ensures.room }
