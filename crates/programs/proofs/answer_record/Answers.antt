-- `programs::answer_record` meets its contract: a record that is cut, or what the program prints for what is in it.
-- Assumes nothing.
use mathlib.Core.Path.{sym, ap, ◌∙◌}
use native.Mathlib.Omega.{arith}
use Rattle.std.specs.Prelude.{Ok}
use Rattle.records.proofs.Records.{whole_ends}
use Rattle.programs.proofs.Batches.{turned_error, turn_cut, turn_none, turn_put, turn_no_room}
use Rattle.programs.proofs.answer_record.Goals as goal

pub returns-in_err-record : goal.returns-in_err-record
returns-in_err-record c = let a = c.args in let told = turn_cut a.held.now a.sheet.now a.out.now c.first_record.ensures.answer c.in_err-record.was (turned_error c.from_residual.ensures.1) in record { turn = told.0; bytes = told.1.0; says = told.1.1 }

pub returns-in_default : goal.returns-in_default
returns-in_default c = let a = c.args in let told = turn_none a.held.now a.sheet.now a.out.now c.first_record.ensures.answer (c.in_ok-record.was ∙ ap Ok c.in_default.is) in record { turn = told.0; bytes = told.1.0; says = told.1.1 }

pub slice_bounds-answer_input-count : goal.slice_bounds-answer_input-count
slice_bounds-answer_input-count c = let w = whole_ends c.args.held.now (sym c.first_record.ensures.answer ∙ c.in_ok-record.was ∙ ap Ok c.in-Some.is) in omega (arith, w.0, w.1, w.2)

pub slice_bounds-answer_input-start : goal.slice_bounds-answer_input-start
slice_bounds-answer_input-start c = let w = whole_ends c.args.held.now (sym c.first_record.ensures.answer ∙ c.in_ok-record.was ∙ ap Ok c.in-Some.is) in omega (arith, w.0, w.1, w.2)

pub slice_bounds-answer_input-end : goal.slice_bounds-answer_input-end
slice_bounds-answer_input-end c = let w = whole_ends c.args.held.now (sym c.first_record.ensures.answer ∙ c.in_ok-record.was ∙ ap Ok c.in-Some.is) in omega (arith, w.0, w.1, w.2)

pub returns-in_err-length : goal.returns-in_err-length
returns-in_err-length c = let a = c.args in let e = c.answer_input.ensures in let told = turn_no_room a.held.now a.sheet.now a.out.now c.first_record.ensures.answer (c.in_ok-record.was ∙ ap Ok c.in-Some.is) e.length e.bytes c.in_err-length.was (turned_error c.from_residual-in_err-length.ensures.1) in record { turn = told.0; bytes = told.1.0; says = told.1.1 }

pub returns : goal.returns
returns c = let a = c.args in let e = c.answer_input.ensures in let told = turn_put a.held.now a.sheet.now a.out.now c.first_record.ensures.answer (c.in_ok-record.was ∙ ap Ok c.in-Some.is) e.length e.bytes c.in_ok-length.was in record { turn = told.0; bytes = told.1.0; says = told.1.1 }
