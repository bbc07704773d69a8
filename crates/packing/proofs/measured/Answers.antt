-- `packing::measured` meets its contract: kind, header and entries are of their form, or nothing is measured.
-- Assumes nothing.
use native.Mathlib.Omega.{arith}
use mathlib.Core.Path.{refl, sym, ◌∙◌}
use lib.Dec.{eqb}
use Rattle.packing.proofs.Types.{frame_named, few_bits}
use Rattle.packing.proofs.Input.{no_cells, too_many, few_enough, other_kind, no_header, no_entries, not_measured, all_measured, header_small}
use Rattle.packing.proofs.measured.Goals as goal

pub returns-then-kind-gt-SIGNS : goal.returns-then-kind-gt-SIGNS
returns-then-kind-gt-SIGNS c = other_kind _ _ _ (c.if-kind-gt-SIGNS.true)

pub returns-then-not-is_header : goal.returns-then-not-is_header
returns-then-not-is_header c = no_header _ _ _ (c.if-kind-gt-SIGNS.false) (sym (c.is_header.ensures) ∙ c.if-not-is_header.true)

pub returns-then-entries-eq0 : goal.returns-then-entries-eq0
returns-then-entries-eq0 c = no_entries _ _ _ (c.if-kind-gt-SIGNS.false) (sym (c.is_header.ensures) ∙ c.if-not-is_header.false) (no_cells _ _ (c.if-entries-eq0.true))

pub returns-then-count-gt-MOST_ENTRIES : goal.returns-then-count-gt-MOST_ENTRIES
returns-then-count-gt-MOST_ENTRIES c = no_entries _ _ _ (c.if-kind-gt-SIGNS.false) (sym (c.is_header.ensures) ∙ c.if-not-is_header.false) (too_many _ _ (c.if-entries-eq0.false) (c.number_at-count.ensures) (c.if-count-gt-MOST_ENTRIES.true))

pub measure-requires : goal.measure-requires
measure-requires c = (c.rows-rows.ensures, c.if-count-gt-MOST_ENTRIES.false, refl, omega (arith, c.if-entries-eq0))

pub returns-then-not-measure : goal.returns-then-not-measure
returns-then-not-measure c = not_measured _ _ _ (c.if-kind-gt-SIGNS.false) (sym (c.is_header.ensures) ∙ c.if-not-is_header.false) (c.number_at-count.result) (few_enough _ _ (c.if-entries-eq0.false) (c.number_at-count.ensures) (c.if-count-gt-MOST_ENTRIES.false)) _ (c.measure.result) (c.measure.ensures) (c.if-not-measure.true)

pub size_of-requires : goal.size_of-requires
size_of-requires c = frame_named

pub overflow_add-base : goal.overflow_add-base
overflow_add-base c = omega (arith, header_small _ (c.args.header.now) (c.args.entries.now) (c.if-kind-gt-SIGNS.false) (sym (c.is_header.ensures) ∙ c.if-not-is_header.false) (c.size_of.ensures), few_bits (eqb (c.args.kind) 1) (c.size_bits.ensures))

pub returns : goal.returns
returns c = all_measured _ _ _ (c.if-kind-gt-SIGNS.false) (sym (c.is_header.ensures) ∙ c.if-not-is_header.false) (c.number_at-count.result) (few_enough _ _ (c.if-entries-eq0.false) (c.number_at-count.ensures) (c.if-count-gt-MOST_ENTRIES.false)) _ (c.measure.result) (c.measure.ensures) (c.if-not-measure.false) (c.size_of.ensures) (c.size_bits.ensures)
