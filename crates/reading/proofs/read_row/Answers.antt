-- `reading::read_row` meets its contract: no such row, a short Description, no type, too long, and any other message by its length.
-- Assumes nothing.
use Rattle.reading.proofs.Entry.{row_there, row_known, row_absent, row_untyped, row_long, row_read}
use Rattle.reading.proofs.Texts.{row_text}
use Rattle.reading.proofs.read_row.Goals as goal

pub returns-then-row-ge-ROWS : goal.returns-then-row-ge-ROWS
returns-then-row-ge-ROWS c = let told = row_absent _ _ _ c.if-row-ge-ROWS.true c.refused_at.ensures in record { answer = told.0; cells = told.1 }

pub returns-then-bytes-le-TEXT_BYTES : goal.returns-then-bytes-le-TEXT_BYTES
returns-then-bytes-le-TEXT_BYTES c = let a = c.args in let told = row_text a.bytes.now a.row a.sheet.now c.if-row-eq-DESCRIPTION.true c.read_text.ensures.answer c.read_text.ensures.cells in record { answer = told.0; cells = told.1 }

pub word_at-requires : goal.word_at-requires
word_at-requires c = row_there c.if-row-ge-ROWS.false c.rows-rows.ensures

pub returns-then-word_at-ge-COMPONENT : goal.returns-then-word_at-ge-COMPONENT
returns-then-word_at-ge-COMPONENT c = let told = row_untyped _ _ _ c.if-row-ge-ROWS.false c.rows-rows.ensures c.word_at.ensures.0 c.if-word_at-ge-COMPONENT.true c.refused_at-then-word_at-ge-COMPONENT.ensures in record { answer = told.0; cells = told.1 }

pub returns-then-bytes-gt-MOST_BYTES : goal.returns-then-bytes-gt-MOST_BYTES
returns-then-bytes-gt-MOST_BYTES c = let told = row_long _ _ _ c.if-row-ge-ROWS.false c.rows-rows.ensures c.word_at.ensures.0 c.if-word_at-ge-COMPONENT.false c.if-bytes-gt-MOST_BYTES.true c.refused_at-then-bytes-gt-MOST_BYTES.ensures in record { answer = told.0; cells = told.1 }

pub read_long-requires : goal.read_long-requires
read_long-requires c = (row_known c.if-row-ge-ROWS.false c.rows-rows.ensures c.word_at.ensures.0 c.if-word_at-ge-COMPONENT.false, c.if-bytes-gt-MOST_BYTES.false)

pub returns-then-bytes-gt-USUAL_BYTES : goal.returns-then-bytes-gt-USUAL_BYTES
returns-then-bytes-gt-USUAL_BYTES c = let told = row_read _ _ c.args.sheet.now c.if-row-ge-ROWS.false c.rows-rows.ensures c.word_at.ensures.0 c.if-word_at-ge-COMPONENT.false c.read_long.ensures.answer c.read_long.ensures.cells in record { answer = told.0; cells = told.1 }

pub read_short-requires : goal.read_short-requires
read_short-requires c = (row_known c.if-row-ge-ROWS.false c.rows-rows.ensures c.word_at.ensures.0 c.if-word_at-ge-COMPONENT.false, c.if-bytes-gt-USUAL_BYTES.false)

pub returns : goal.returns
returns c = let told = row_read _ _ c.args.sheet.now c.if-row-ge-ROWS.false c.rows-rows.ensures c.word_at.ensures.0 c.if-word_at-ge-COMPONENT.false c.read_short.ensures.answer c.read_short.ensures.cells in record { answer = told.0; cells = told.1 }
