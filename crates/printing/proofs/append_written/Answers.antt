-- `printing::append_written` meets its contract: a refusal, or the digits of the bytes and the end of the line.
-- Assumes nothing.
use native.Mathlib.Omega.{arith}
use borrow.Author.Tests.{eq-eqb, ne_eqb}
use Rattle.printing.specs.Texts.{ascii, written_text}
use Rattle.printing.proofs.Appending.{then}
use Rattle.printing.proofs.Lengths.{message_short, no_message_short}
use Rattle.printing.proofs.append_written.Goals as goal

pub returns-then-answer-ne0 : goal.returns-then-answer-ne0
unfolding ascii written_text
returns-then-answer-ne0 c =
    let a = c.args in
    record { text = rw (ne_eqb _ _ c.if-answer-ne0.true) c.append_refusal.ensures; room = no_message_short a.answer a.bytes.now c.if-answer-ne0.true (omega arith) (omega arith) }

pub returns : goal.returns
unfolding ascii written_text
returns c =
    let a = c.args in
    record { text = rw (eq-eqb _ _ c.if-answer-ne0.false) (then (omega arith) c.append_hexadecimal-end.ensures c.append.ensures); room = message_short a.answer a.bytes.now c.if-answer-ne0.false }
