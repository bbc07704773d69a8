-- `programs_writing::write_record` meets its contract: the text of the sheet in the record, or none.
-- Assumes nothing.
use Prim.Native.Nat.{ℕ}
use mathlib.Core.Path.{refl, sym, ap, ◌∙◌}
use native.Mathlib.Omega.{arith}
use borrow.Author.Rules.{rules}
use lib.ListN.{length, length-take, length-append}
use Rattle.std.specs.Prelude.{Some, None, Ok, Err}
use Rattle.records.specs.Records.{cut, inside, whole}
use Rattle.records.proofs.Records.{whole_ends}
use Rattle.programs_writing.specs.Sheets.{content_text, sheet_line}
use Rattle.programs.proofs.Showing.{show_it, show_whole}
use Rattle.programs_writing.proofs.write_record.Goals as goal

pub slice_bounds-write_content-count : goal.slice_bounds-write_content-count
slice_bounds-write_content-count c = let w = whole_ends c.args.held.now (sym c.first_record.ensures.answer ∙ c.in-Ok-Some.is ∙ ap Ok c.in-Ok-Some.field-0-is) in omega (arith, w.0, w.1, w.2)

pub slice_bounds-write_content-start : goal.slice_bounds-write_content-start
slice_bounds-write_content-start c = let w = whole_ends c.args.held.now (sym c.first_record.ensures.answer ∙ c.in-Ok-Some.is ∙ ap Ok c.in-Ok-Some.field-0-is) in omega (arith, w.0, w.1, w.2)

pub slice_bounds-write_content-end : goal.slice_bounds-write_content-end
slice_bounds-write_content-end c = let w = whole_ends c.args.held.now (sym c.first_record.ensures.answer ∙ c.in-Ok-Some.is ∙ ap Ok c.in-Ok-Some.field-0-is) in omega (arith, w.0, w.1, w.2)

pub write_content-requires : goal.write_content-requires
unfolding inside
write_content-requires c = simp length-take (omega (arith, c.first_record.ensures.small, ap inside (c.in-Ok-Some.is ∙ ap Ok c.in-Ok-Some.field-0-is)))

pub returns-in-Ok-Some : goal.returns-in-Ok-Some
unfolding sheet_line whole
returns-in-Ok-Some c = let told = show_whole sheet_line c.args.held.now c.args.out.now c.first_record.ensures.answer content_text (λ content. refl) (c.in-Ok-Some.is ∙ ap Ok c.in-Ok-Some.field-0-is) (c.write_content.ensures.length, c.write_content.ensures.bytes) in record { answer = told.0; bytes = told.1; inside = omega (arith, c.write_content.ensures.length, ap length c.write_content.ensures.bytes, length-append {A = ℕ}, c.write_content.auto) }

pub returns-in-Ok-None : goal.returns-in-Ok-None
unfolding sheet_line whole
returns-in-Ok-None c = let told = show_it sheet_line c.args.held.now c.args.out.now c.first_record.ensures.answer (Ok None) (c.in-Ok-None.is ∙ ap Ok c.in-Ok-None.field-0-is) (refl, refl) in record { answer = told.0; bytes = told.1; inside = search rules }

pub returns-in-Err : goal.returns-in-Err
unfolding sheet_line whole
returns-in-Err c = let told = show_it sheet_line c.args.held.now c.args.out.now c.first_record.ensures.answer (Err cut) c.in-Err.is (refl, refl) in record { answer = told.0; bytes = told.1; inside = search rules }
