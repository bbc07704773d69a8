-- `cases_sheet::answer_all` meets its contract: what is used of the input is inside it, as a whole record is.
-- Assumes nothing.
use Rattle.std.proofs.Common.{◌≡◌, ℕ, ◌+◌, ◌-◌, ◌≤◌, List, Some, Ok, arith, length, take, drop, sym, ap, ◌∙◌, length-take, length-drop}
use Rattle.records.specs.Records.{first_record}
use Rattle.records.specs.declared.Record.{Record}
use Rattle.records.proofs.Records.{whole_ends}
use Rattle.cases_sheet.proofs.answer_all.Goals as goal

-- A whole record of what is left ends inside the input.
ends : (input : List ℕ) (used : ℕ) {r : Record} → used ≤ length input → first_record (take (length input - used) (drop used input)) ≡ Ok (Some r) → (r.start ≤ r.end) × (used + r.end ≤ length input)
ends input used {r} h e =
    let F = whole_ends (take (length input - used) (drop used input)) e in
    (omega (arith, F), omega (arith, F, length-take (length input - used) (drop used input), length-drop used input))

pub overflow_add-used : goal.overflow_add-used
overflow_add-used g c = let E = ends c.args.input.now c.loop.used c.loop.invariant (sym c.first_record.ensures.answer ∙ c.in-Ok-Some.is ∙ ap Ok c.in-Ok-Some.field-0-is) in omega (arith, E.0, E.1)

pub overflow_add-used-in-loop : goal.overflow_add-used-in-loop
overflow_add-used-in-loop g c = let E = ends c.args.input.now c.loop.used c.loop.invariant (sym c.first_record.ensures.answer ∙ c.in-Ok-Some.is ∙ ap Ok c.in-Ok-Some.field-0-is) in omega (arith, E.0, E.1)

pub slice_bounds-answer-count : goal.slice_bounds-answer-count
slice_bounds-answer-count g c = let E = ends c.args.input.now c.loop.used c.loop.invariant (sym c.first_record.ensures.answer ∙ c.in-Ok-Some.is ∙ ap Ok c.in-Ok-Some.field-0-is) in omega (arith, E.0)

pub slice_bounds-answer-start : goal.slice_bounds-answer-start
slice_bounds-answer-start g c = let E = ends c.args.input.now c.loop.used c.loop.invariant (sym c.first_record.ensures.answer ∙ c.in-Ok-Some.is ∙ ap Ok c.in-Ok-Some.field-0-is) in omega (arith, E.0, E.1)

pub slice_bounds-answer-end-in-loop : goal.slice_bounds-answer-end-in-loop
slice_bounds-answer-end-in-loop g c = let E = ends c.args.input.now c.loop.used c.loop.invariant (sym c.first_record.ensures.answer ∙ c.in-Ok-Some.is ∙ ap Ok c.in-Ok-Some.field-0-is) in omega (arith, E.0, E.1)

pub overflow_add-used-in-loop-2 : goal.overflow_add-used-in-loop-2
overflow_add-used-in-loop-2 g c = let E = ends c.args.input.now c.loop.used c.loop.invariant (sym c.first_record.ensures.answer ∙ c.in-Ok-Some.is ∙ ap Ok c.in-Ok-Some.field-0-is) in omega (arith, E.0, E.1)

pub loop-preserved : goal.loop-preserved
loop-preserved g c = let E = ends c.args.input.now c.loop.used c.loop.invariant (sym c.first_record.ensures.answer ∙ c.in-Ok-Some.is ∙ ap Ok c.in-Ok-Some.field-0-is) in E.1
