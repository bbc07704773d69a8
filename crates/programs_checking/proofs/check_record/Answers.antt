-- `programs_checking::check_record` meets its contract: what the frame in the record comes to, a record that is cut, or none.
-- Assumes nothing.
use mathlib.Core.List.{[]}
use mathlib.Core.Path.{sym, ap, ◌∙◌}
use native.Mathlib.Omega.{arith}
use Rattle.std.specs.Prelude.{Ok}
use Rattle.answers.specs.Answers.{refused_by}
use Rattle.answers.specs.declared.Answer.{Answer}
use Rattle.types.specs.Named.{first_edition}
use Rattle.printing.specs.Texts.{read_text}
use Rattle.records.proofs.Records.{whole_ends}
use Rattle.programs.proofs.Inputs.{same_front}
use Rattle.programs_checking.proofs.Checks.{show_whole, show_cut, show_none}
use Rattle.programs_checking.proofs.check_record.Goals as goal

pub slice_bounds-check_message-count : goal.slice_bounds-check_message-count
slice_bounds-check_message-count c = let w = whole_ends c.args.held.now (sym c.first_record.ensures.answer ∙ (c.in-Ok-Some.is ∙ ap Ok c.in-Ok-Some.field-0-is)) in omega (arith, w.0, w.1, w.2)

pub slice_bounds-check_message-start : goal.slice_bounds-check_message-start
slice_bounds-check_message-start c = let w = whole_ends c.args.held.now (sym c.first_record.ensures.answer ∙ (c.in-Ok-Some.is ∙ ap Ok c.in-Ok-Some.field-0-is)) in omega (arith, w.0, w.1, w.2)

pub slice_bounds-check_message-end : goal.slice_bounds-check_message-end
slice_bounds-check_message-end c = let w = whole_ends c.args.held.now (sym c.first_record.ensures.answer ∙ (c.in-Ok-Some.is ∙ ap Ok c.in-Ok-Some.field-0-is)) in omega (arith, w.0, w.1, w.2)

pub returns-in-Ok-Some : goal.returns-in-Ok-Some
returns-in-Ok-Some c = let a = c.args in let told = show_whole a.held.now a.out.now a.map.now a.cells c.first_record.ensures.answer (c.in-Ok-Some.is ∙ ap Ok c.in-Ok-Some.field-0-is) (c.check_message-line.ensures.answer, (c.check_message-line.ensures.bytes, c.check_message-line.ensures.map)) in record { answer = told.0; bytes = told.1.0; map = told.1.1 }

pub returns-in-Err : goal.returns-in-Err
returns-in-Err c = let a = c.args in
    let e = ap (λ (x : Answer). read_text first_edition x []) (ap refused_by c.new.ensures) in
    let told = show_cut a.held.now a.out.now a.map.now a.cells c.first_record.ensures.answer c.in_force-in-Err.ensures c.in-Err.is (same_front e a.out.now (c.put_refusal-length.ensures.length, c.put_refusal-length.ensures.bytes)) in record { answer = told.0; bytes = told.1.0; map = told.1.1 }

pub returns-in-Ok-None : goal.returns-in-Ok-None
returns-in-Ok-None c = let a = c.args in let told = show_none a.held.now a.out.now a.map.now a.cells c.first_record.ensures.answer c.in_force.ensures (c.in-Ok-None.is ∙ ap Ok c.in-Ok-None.field-0-is) in record { answer = told.0; bytes = told.1.0; map = told.1.1 }
