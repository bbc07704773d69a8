-- `programs_writing::write_program` meets its contract: a text that is too long, or what is printed for a sheet.
-- Assumes nothing.
use native.Mathlib.Omega.{arith}
use Rattle.printing.specs.Texts.{ascii}
use Rattle.programs_writing.proofs.Sheets.{program_long, program_short}
use Rattle.programs_writing.proofs.write_program.Goals as goal

pub returns-then-input-gt-MOST_TEXT : goal.returns-then-input-gt-MOST_TEXT
unfolding ascii
returns-then-input-gt-MOST_TEXT c = let told = program_long (c.args.input.now) (c.args.out.now) c.if-input-gt-MOST_TEXT.true (omega arith) (omega arith) c.append.ensures in record { length = told.0; bytes = told.1 }

pub returns : goal.returns
returns c = let told = program_short (c.args.input.now) (c.args.out.now) c.if-input-gt-MOST_TEXT.false (c.answer_sheet.ensures.length, c.answer_sheet.ensures.bytes) in record { length = told.0; bytes = told.1 }
