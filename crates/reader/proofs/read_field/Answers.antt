-- `reader::read_field` meets its contract: each answer by its law.
-- Assumes nothing.
use mathlib.Core.Path.{sym, ap, ◌∙◌}
use Rattle.std.proofs.lemmas.Result.{err_from_is_err_and}
use Rattle.meaning.proofs.Says.{field_told}
use Rattle.reader.proofs.Fields.{no_row, no_field, field_long, field_plain, field_cut, field_on, field_off}
use Rattle.reader.proofs.read_field.Goals as goal
use Rattle.std.specs.Prelude.{Err}

pub returns-then-row-ge-ROWS : goal.returns-then-row-ge-ROWS
returns-then-row-ge-ROWS c = let told = field_told _ _ _ (ap Err (c.new.ensures) ∙ sym (no_row _ _ _ (c.if-row-ge-ROWS.true))) in record { answer = told.0; says = told.1 }

pub returns-then-kind-ge-SEQUENCE : goal.returns-then-kind-ge-SEQUENCE
returns-then-kind-ge-SEQUENCE c = let told = field_told _ _ _ (ap Err (c.new-then-kind-ge-SEQUENCE.ensures) ∙ sym (no_field _ (c.if-row-ge-ROWS.false) (c.rows-rows.ensures) (c.column-kind.ensures.is) _ _ (c.if-kind-ge-SEQUENCE.true))) in record { answer = told.0; says = told.1 }

pub returns-then-bytes-gt-MOST_BYTES : goal.returns-then-bytes-gt-MOST_BYTES
returns-then-bytes-gt-MOST_BYTES c = let told = field_told _ _ _ (ap Err (c.new-then-bytes-gt-MOST_BYTES.ensures) ∙ sym (field_long _ (c.if-row-ge-ROWS.false) (c.rows-rows.ensures) (c.column-kind.ensures.is) _ _ (c.if-kind-ge-SEQUENCE.false) (c.if-bytes-gt-MOST_BYTES.true))) in record { answer = told.0; says = told.1 }

pub returns-then-column-eq0 : goal.returns-then-column-eq0
returns-then-column-eq0 c = let told = field_told _ _ _ (field_plain _ (c.if-row-ge-ROWS.false) (c.rows-rows.ensures) (c.column-kind.ensures.is) _ _ (c.if-kind-ge-SEQUENCE.false) (c.if-bytes-gt-MOST_BYTES.false) (c.column-low.ensures.is) (c.column-span.ensures.is) (c.column.ensures.is) (c.if-column-eq0.true) (c.number.ensures)) in record { answer = told.0; says = told.1 }

pub returns-then-bit-ne0 : goal.returns-then-bit-ne0
returns-then-bit-ne0 c = let told = field_told _ _ _ (field_on _ (c.if-row-ge-ROWS.false) (c.rows-rows.ensures) (c.column-kind.ensures.is) _ _ (c.if-kind-ge-SEQUENCE.false) (c.if-bytes-gt-MOST_BYTES.false) (c.column-low.ensures.is) (c.column-span.ensures.is) (c.column.ensures.is) (c.if-column-eq0.false) (c.fetch.ensures.answer) (c.in_ok-bit.was) (c.new-then-bit-ne0.ensures) (c.if-bit-ne0.true)) in record { answer = told.0; says = told.1 }

pub returns : goal.returns
returns c = let told = field_told _ _ _ (field_off _ (c.if-row-ge-ROWS.false) (c.rows-rows.ensures) (c.column-kind.ensures.is) _ _ (c.if-kind-ge-SEQUENCE.false) (c.if-bytes-gt-MOST_BYTES.false) (c.column-low.ensures.is) (c.column-span.ensures.is) (c.column.ensures.is) (c.if-column-eq0.false) (c.fetch.ensures.answer) (c.in_ok-bit.was) (c.if-bit-ne0.false) (c.number-2.ensures)) in record { answer = told.0; says = told.1 }

pub returns-in_err-bit : goal.returns-in_err-bit
returns-in_err-bit c =
    let p = err_from_is_err_and c.from_residual.result c.from_residual.ensures.1 in
    let told = field_told {r = c.from_residual.result} c.args.row c.args.bytes.now c.args.cursor.at (rw (p.1, p.2) (field_cut _ (c.if-row-ge-ROWS.false) (c.rows-rows.ensures) (c.column-kind.ensures.is) _ _ (c.if-kind-ge-SEQUENCE.false) (c.if-bytes-gt-MOST_BYTES.false) (c.column-low.ensures.is) (c.column-span.ensures.is) (c.column.ensures.is) (c.if-column-eq0.false) (c.fetch.ensures.answer) (c.in_err-bit.was))) in
    record { answer = told.0; says = told.1 }
