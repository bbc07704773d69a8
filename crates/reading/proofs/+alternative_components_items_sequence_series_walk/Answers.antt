-- The reader's cycle of calls: `walk` of a row calls the others, which walk rows with smaller numbers.
-- Assumes nothing.
use Prim.Native.Nat.{◌+◌, ◌-◌, ◌<◌}
use native.Mathlib.Omega.{arith}
use borrow.Author.Rules.{rules}
use mathlib.Core.Path.{◌≡◌, refl, ◌∙◌}
use lib.IntN.{pos}
use Rattle.types.specs.Columns as columns
use Rattle.types.specs.Table.{column, value_outside}
use Rattle.types.proofs.Walkable.{mark_is, sequence_body, choice_body, list_body, sequence_below as sequence-smaller, sequence_parts, sequence_options, choice_below, choice_parts, list_below, list_item, list_sized, part_below, part_row_lem, part_wide, row_small, number_wide, choice_wide}
use Rattle.reading.specs.Given.{message_in, Placed}
use Rattle.reading.proofs.Steps.{taken_within, taken_end}
use Rattle.reading.proofs.Walks.{begun_within, begun_stops, begun_on, chosen_there, chosen_below, chosen_row, chosen_wide, item_wide, plain_item, number_row, sequence_stops, sequence_goes, choice_stops, index_within, behind_index, choice_walk, choice_number, list_stops, list_goes}
use Rattle.reading.proofs.Telling.{told_on, run_told}
use Rattle.reading.proofs.Loops.{left_end, left_absent, left_refused, left_number, left_stops, left_walked, turns_first, turns_end, turns_stop, turns_on}
use Rattle.reading.proofs.+alternative_components_items_sequence_series_walk.Goals.{components-then-here-ge-FIRST_BIT+then-part-ge-SPARED_FROM+else-n-ge-REFUSED, components-then-here-ge-FIRST_BIT+else-part-ge-SPARED_FROM+else-r-ge-REFUSED, components-else-here-ge-FIRST_BIT}
use Rattle.reading.proofs.+alternative_components_items_sequence_series_walk.Goals as goal

pub alternative-taken-n-requires : goal.alternative-taken-n-requires
alternative-taken-n-requires t c = (c.requires.3, c.width-w.ensures, c.span_in-span.ensures.1, omega (arith, c.span_in-span.ensures.0, c.requires.2))

pub alternative-told-requires : goal.alternative-told-requires
alternative-told-requires t c = (omega (arith, c.requires.5), c.if-n-ge-REFUSED.true)

pub alternative-returns-then-n-ge-REFUSED : goal.alternative-returns-then-n-ge-REFUSED
alternative-returns-then-n-ge-REFUSED t c = choice_stops c.args.rows.now c.requires.3 c.args.row c.args.word c.span_in-span.ensures.0 c.taken-n.ensures _ c.if-n-ge-REFUSED.true c.told.ensures.0 c.told.ensures.1

pub alternative-put_value-c-requires : goal.alternative-put_value-c-requires
alternative-put_value-c-requires t c = (search rules, omega (arith, taken_within c.requires.3 _ _ (c.taken-n.ensures (pos 0)) c.if-n-ge-REFUSED.false, c.span_in-span.ensures.1), c.requires.4)

pub alternative-overflow_add-word : goal.alternative-overflow_add-word
alternative-overflow_add-word t c = omega (arith, taken_within c.requires.3 _ _ (c.taken-n.ensures (pos 0)) c.if-n-ge-REFUSED.false, c.span_in-span.ensures.1)

pub alternative-word_at-part-requires : goal.alternative-word_at-part-requires
alternative-word_at-part-requires t c = chosen_there c.requires.0 c.requires.1 (index_within c.args.rows.now c.requires.3 c.args.row c.args.word c.span_in-span.ensures.0 c.taken-n.ensures c.if-n-ge-REFUSED.false) refl

pub alternative-overflow_add-at : goal.alternative-overflow_add-at
alternative-overflow_add-at t c = let P = behind_index c.args.rows.now c.requires.3 c.args.row c.args.word c.span_in-span.ensures.0 c.taken-n.ensures c.if-n-ge-REFUSED.false c.width-w.ensures in omega (arith, P.place, P.few)

pub alternative-number-requires : goal.alternative-number-requires
alternative-number-requires t c = ((chosen_row c.requires.0 c.requires.1 (index_within c.args.rows.now c.requires.3 c.args.row c.args.word c.span_in-span.ensures.0 c.taken-n.ensures c.if-n-ge-REFUSED.false) c.word_at-part.ensures.0).there, chosen_wide c.requires.0 c.requires.1 (index_within c.args.rows.now c.requires.3 c.args.row c.args.word c.span_in-span.ensures.0 c.taken-n.ensures c.if-n-ge-REFUSED.false) c.word_at-part.ensures.0 (omega (arith, c.if-part-ge-SPARED_FROM.true)), behind_index c.args.rows.now c.requires.3 c.args.row c.args.word c.span_in-span.ensures.0 c.taken-n.ensures c.if-n-ge-REFUSED.false c.width-w.ensures, record { room = omega (arith, c.put_value-c.auto, c.requires.4.room); next = omega (arith, c.put_value-c.ensures.1) }, omega arith)

pub alternative-returns-then-part-ge-SPARED_FROM : goal.alternative-returns-then-part-ge-SPARED_FROM
alternative-returns-then-part-ge-SPARED_FROM t c = choice_number c.args.rows.now c.requires.3 c.args.row c.args.word c.span_in-span.ensures.0 c.taken-n.ensures c.if-n-ge-REFUSED.false c.requires.0 c.requires.1 c.word_at-part.ensures.0 c.requires.4 c.width-w.ensures c.put_value-c.ensures.0 c.put_value-c.ensures.1 (omega (arith, c.if-part-ge-SPARED_FROM.true)) c.number.ensures

pub alternative-overflow_add-at-2 : goal.alternative-overflow_add-at-2
alternative-overflow_add-at-2 t c = let P = behind_index c.args.rows.now c.requires.3 c.args.row c.args.word c.span_in-span.ensures.0 c.taken-n.ensures c.if-n-ge-REFUSED.false c.width-w.ensures in omega (arith, P.place, P.few)

pub alternative-walk-requires : goal.alternative-walk-requires
alternative-walk-requires t c = let i = index_within c.args.rows.now c.requires.3 c.args.row c.args.word c.span_in-span.ensures.0 c.taken-n.ensures c.if-n-ge-REFUSED.false in
    (omega (arith, chosen_below c.requires.0 c.requires.1 i c.word_at-part.ensures.0, c.requires.0, i), (c.requires.0, chosen_row c.requires.0 c.requires.1 i c.word_at-part.ensures.0, behind_index c.args.rows.now c.requires.3 c.args.row c.args.word c.span_in-span.ensures.0 c.taken-n.ensures c.if-n-ge-REFUSED.false c.width-w.ensures, record { room = omega (arith, c.put_value-c.auto, c.requires.4.room); next = omega (arith, c.put_value-c.ensures.1) }))

pub alternative-returns : goal.alternative-returns
alternative-returns t c = choice_walk c.args.rows.now c.requires.3 c.args.row c.args.word c.span_in-span.ensures.0 c.taken-n.ensures c.if-n-ge-REFUSED.false c.requires.0 c.requires.1 c.word_at-part.ensures.0 c.requires.4 c.width-w.ensures c.put_value-c.ensures.0 c.put_value-c.ensures.1 c.walk.ensures

pub components-loop-row-init : goal.components-loop-row-init
components-loop-row-init t c = let all : c.args.first + c.args.count - c.args.first ≡ c.args.count = omega arith in rw all (record { parts = c.requires.1; few = c.requires.2; small = search rules; place = c.requires.3.place; next = c.requires.4.next; kept = refl; onward = λ r after u. u })

pub components-taken-n-requires : goal.components-taken-n-requires
components-taken-n-requires t c = ((record { place = c.loop-row.invariant.place; few = c.requires.3.few; padded = c.requires.3.padded }), c.width-w.ensures, c.span_in-span.ensures.1, omega (arith, c.span_in-span.ensures.0, part_wide c.requires.0 c.loop-row.invariant.parts (omega (arith, c.loop-row-test.true)) c.word_at-part.ensures.0 (omega (arith, c.if-part-ge-SPARED_FROM.true))))

pub components-told_of-requires : goal.components-told_of-requires
components-told_of-requires t c = ((part_row_lem c.requires.0 c.loop-row.invariant.parts (omega (arith, c.loop-row-test.true)) c.word_at-part.ensures.0).there, omega arith, c.if-n-ge-REFUSED.true)

pub components-returns-then-n-ge-REFUSED : goal.components-returns-then-n-ge-REFUSED
components-returns-then-n-ge-REFUSED t c = left_refused c.requires.0 c.loop-row.invariant (omega (arith, c.loop-row-test.true)) c.word_at-part.ensures.0 c.present-here.ensures c.behind-flags.ensures (search rules) c.if-here-ge-FIRST_BIT.true (omega (arith, c.if-part-ge-SPARED_FROM.true)) (record { place = c.loop-row.invariant.place; few = c.requires.3.few; padded = c.requires.3.padded }) c.span_in-span.ensures.0 c.taken-n.ensures _ c.if-n-ge-REFUSED.true c.told_of.ensures.0 c.told_of.ensures.1

pub components-put_value-cell-requires : goal.components-put_value-cell-requires
components-put_value-cell-requires t c = let P : Placed c.args.b.now c.args.total c.loop-row.at = (record { place = c.loop-row.invariant.place; few = c.requires.3.few; padded = c.requires.3.padded }) in
    (c.low_in.ensures.1, omega (arith, taken_within P _ _ (c.taken-n.ensures (pos 0)) c.if-n-ge-REFUSED.false, c.span_in-span.ensures.1), record { room = omega (arith, c.loop-row.invariant.kept, c.requires.4.room); next = c.loop-row.invariant.next })

pub components-overflow_add-at : goal.components-overflow_add-at
components-overflow_add-at t c = let P : Placed c.args.b.now c.args.total c.loop-row.at = (record { place = c.loop-row.invariant.place; few = c.requires.3.few; padded = c.requires.3.padded }) in
    omega (arith, taken_end P _ _ (c.taken-n.ensures (pos 0)) c.if-n-ge-REFUSED.false, c.width-w.ensures, c.requires.3.few)

pub components-walk-r-requires : goal.components-walk-r-requires
components-walk-r-requires t c = (omega (arith, c.requires.0, part_below c.requires.0 c.loop-row.invariant.parts (omega (arith, c.loop-row-test.true)) c.word_at-part.ensures.0, c.loop-row-test.true), (c.requires.0, part_row_lem c.requires.0 c.loop-row.invariant.parts (omega (arith, c.loop-row-test.true)) c.word_at-part.ensures.0, (record { place = c.loop-row.invariant.place; few = c.requires.3.few; padded = c.requires.3.padded }), record { room = omega (arith, c.loop-row.invariant.kept, c.requires.4.room); next = c.loop-row.invariant.next }))

pub components-shape_of-sheet-then-r-ge-REFUSED : goal.components-shape_of-sheet-then-r-ge-REFUSED
components-shape_of-sheet-then-r-ge-REFUSED t c = c.walk-r.auto.sheet ∙ c.loop-row.invariant.kept

pub components-returns-then-r-ge-REFUSED : goal.components-returns-then-r-ge-REFUSED
components-returns-then-r-ge-REFUSED t c = left_stops c.requires.0 c.loop-row.invariant (omega (arith, c.loop-row-test.true)) c.word_at-part.ensures.0 c.present-here.ensures c.behind-flags.ensures (search rules) c.if-here-ge-FIRST_BIT.true _ c.walk-r.ensures c.if-r-ge-REFUSED.true

pub components-loop-row-preserved : goal.components-loop-row-preserved
components-loop-row-preserved t c =
    let a = c.args in
    let l = c.loop-row in
    let more : 0 < a.first + a.count - l.row = omega (arith, c.loop-row-test.true) in
    let less : a.first + a.count - (l.row + 1) ≡ a.first + a.count - l.row - 1 = omega arith in
    elim c.if-here-ge-FIRST_BIT.branch [
      | components-then-here-ge-FIRST_BIT+then-part-ge-SPARED_FROM+else-n-ge-REFUSED w ↦
          rw (w.at-is, w.sheet-is, w.cell-is, less) (left_number c.requires.0 l.invariant more c.word_at-part.ensures.0 c.present-here.ensures c.behind-flags.ensures (search rules) w.if-here-ge-FIRST_BIT.true (omega (arith, w.if-part-ge-SPARED_FROM.true)) (record { place = l.invariant.place; few = c.requires.3.few; padded = c.requires.3.padded }) w.span_in-span.ensures.0 w.taken-n.ensures c.requires.4.room w.if-n-ge-REFUSED.false w.width-w.ensures w.low_in.ensures.0 w.put_value-cell.ensures.0 w.put_value-cell.ensures.1)
      | components-then-here-ge-FIRST_BIT+else-part-ge-SPARED_FROM+else-r-ge-REFUSED w ↦
          rw (w.at-is, w.sheet-is, w.cell-is, less) (left_walked c.requires.0 l.invariant more c.word_at-part.ensures.0 c.present-here.ensures c.behind-flags.ensures (search rules) w.if-here-ge-FIRST_BIT.true _ w.walk-r.ensures c.requires.4.room w.if-r-ge-REFUSED.false)
      | components-else-here-ge-FIRST_BIT w ↦
          rw (w.at-is, w.sheet-is, w.cell-is, less) (left_absent c.requires.0 l.invariant more c.word_at-part.ensures.0 c.present-here.ensures c.behind-flags.ensures (search rules) w.if-here-ge-FIRST_BIT.false)
    ]

pub components-returns : goal.components-returns
components-returns t c = left_end c.requires.0 c.loop-row.invariant (omega (arith, c.loop-row-test.false)) c.on.ensures

pub items-run-r-requires : goal.items-run-r-requires
items-run-r-requires t c = (c.requires.3, c.requires.4, c.low_in.ensures.1, c.span_in.ensures.1, omega (arith, c.span_in.ensures.0, item_wide c.requires.0 c.requires.1 c.word_at-item.ensures.0 c.if-item-lt-SEQUENCE.true), c.requires.2)

pub items-told_of-requires : goal.items-told_of-requires
items-told_of-requires t c = (c.requires.1.there, row_small c.requires.0 c.requires.1, c.if-r-ge-REFUSED.true)

pub items-returns-then-r-ge-REFUSED : goal.items-returns-then-r-ge-REFUSED
items-returns-then-r-ge-REFUSED t c = let a = c.args in rw (plain_item c.requires.0 c.requires.1 c.word_at-item.ensures.0 c.if-item-lt-SEQUENCE.true, ← c.low_in.ensures.0, ← c.span_in.ensures.0) (run_told (value_outside (column a.rows.now a.t columns.kind)) a.t a.b.now a.total a.n a.at c.low_in.result c.span_in.result _ c.run-r.ensures _ c.told_of.ensures.0)

pub items-returns-then-item-lt-SEQUENCE : goal.items-returns-then-item-lt-SEQUENCE
items-returns-then-item-lt-SEQUENCE t c = let a = c.args in rw (plain_item c.requires.0 c.requires.1 c.word_at-item.ensures.0 c.if-item-lt-SEQUENCE.true, ← c.low_in.ensures.0, ← c.span_in.ensures.0) (run_told (value_outside (column a.rows.now a.t columns.kind)) a.t a.b.now a.total a.n a.at c.low_in.result c.span_in.result _ c.run-r.ensures _ (told_on _ _ _ c.if-r-ge-REFUSED.false))

pub items-loop-init : goal.items-loop-init
items-loop-init t c = let all : c.args.n - 0 ≡ c.args.n = omega arith in rw all (turns_first c.requires.3.place c.requires.4.next)

pub items-walk-r-requires : goal.items-walk-r-requires
items-walk-r-requires t c = (omega (arith, c.requires.0), (c.requires.0, c.requires.1, (record { place = omega (arith, c.loop.invariant.place, c.requires.3.place); few = c.requires.3.few; padded = c.requires.3.padded }), record { room = omega (arith, c.loop.invariant.kept, c.requires.4.room); next = c.loop.invariant.next }))

pub items-returns-then-r-ge-REFUSED-2 : goal.items-returns-then-r-ge-REFUSED-2
items-returns-then-r-ge-REFUSED-2 t c = turns_stop c.loop.invariant (omega (arith, c.loop-test.true)) _ c.walk-r.ensures c.if-r-ge-REFUSED-2.true

pub items-loop-preserved : goal.items-loop-preserved
items-loop-preserved t c = let less : c.args.n - (c.loop.counter + 1) ≡ c.args.n - c.loop.counter - 1 = omega arith in rw less (turns_on c.loop.invariant (omega (arith, c.loop-test.true)) _ c.walk-r.ensures c.requires.4.room c.if-r-ge-REFUSED-2.false)

pub items-returns : goal.items-returns
items-returns t c = turns_end c.loop.invariant (omega (arith, c.loop-test.false)) c.on.ensures

pub sequence-short-requires : goal.sequence-short-requires
sequence-short-requires t c = (search rules, omega (arith, c.requires.4.few))

pub sequence-returns-then-total-at : goal.sequence-returns-then-total-at
sequence-returns-then-total-at t c = sequence_stops c.requires.4 _ _ _ c.requires.2 c.if-total-at.true c.short.ensures.0

pub sequence-spread-c-requires : goal.sequence-spread-c-requires
sequence-spread-c-requires t c = (c.requires.5, omega (arith, c.requires.3))

pub sequence-components-requires : goal.sequence-components-requires
sequence-components-requires t c = (omega (arith, c.requires.0), (c.requires.0, c.requires.1, omega (arith, c.requires.2, c.requires.3), record { place = c.if-total-at.false; few = c.requires.4.few; padded = c.requires.4.padded }, record { room = omega (arith, c.spread-c.ensures.kept, c.requires.5.room); next = omega (arith, c.spread-c.ensures.counted) }))

pub sequence-returns : goal.sequence-returns
sequence-returns t c = sequence_goes c.requires.4 _ _ _ c.requires.2 _ c.if-total-at.false (omega (arith, c.requires.3)) c.head-flags.ensures c.requires.5 c.spread-c.ensures c.components.ensures

pub series-told-requires : goal.series-told-requires
series-told-requires t c = (omega (arith, c.requires.5), c.if-n-ge-REFUSED.true)

pub series-returns-then-n-ge-REFUSED : goal.series-returns-then-n-ge-REFUSED
series-returns-then-n-ge-REFUSED t c = list_stops c.args.rows.now c.requires.3 c.args.row c.args.word _ c.span_in-span.ensures.0 c.size_taken-n.ensures _ c.if-n-ge-REFUSED.true c.told.ensures.0 c.told.ensures.1

pub series-sized-c-requires : goal.series-sized-c-requires
series-sized-c-requires t c = (c.low_in-low.ensures.1, omega (arith, taken_within c.requires.3 _ _ (c.size_taken-n.ensures (pos 0)) c.if-n-ge-REFUSED.false, c.span_in-span.ensures.1), c.requires.4)

pub series-overflow_add-low : goal.series-overflow_add-low
series-overflow_add-low t c = omega (arith, taken_within c.requires.3 _ _ (c.size_taken-n.ensures (pos 0)) c.if-n-ge-REFUSED.false, c.span_in-span.ensures.1, c.low_in-low.ensures.1)

pub series-overflow_add-at : goal.series-overflow_add-at
series-overflow_add-at t c = omega (arith, taken_end c.requires.3 _ _ (c.size_taken-n.ensures (pos 0)) c.if-n-ge-REFUSED.false, c.width-w.ensures, c.requires.3.few)

pub series-items-requires : goal.series-items-requires
series-items-requires t c = (omega (arith, c.requires.0), (c.requires.0, c.requires.1, omega (arith, taken_within c.requires.3 _ _ (c.size_taken-n.ensures (pos 0)) c.if-n-ge-REFUSED.false, c.span_in-span.ensures.1, c.low_in-low.ensures.1), record { place = omega (arith, taken_end c.requires.3 _ _ (c.size_taken-n.ensures (pos 0)) c.if-n-ge-REFUSED.false, c.width-w.ensures); few = c.requires.3.few; padded = c.requires.3.padded }, record { room = omega (arith, c.sized-c.ensures.kept, c.requires.4.room); next = omega (arith, c.sized-c.ensures.counted) }))

pub series-returns : goal.series-returns
series-returns t c = list_goes c.args.rows.now c.requires.3 c.args.row c.args.word _ c.span_in-span.ensures.0 c.size_taken-n.ensures c.if-n-ge-REFUSED.false c.low_in-low.ensures.0 c.requires.2 c.requires.4 c.width-w.ensures c.sized-c.ensures c.items.ensures

pub walk-returns-then-p-ge-REFUSED : goal.walk-returns-then-p-ge-REFUSED
walk-returns-then-p-ge-REFUSED t c = begun_stops c.requires.2 _ _ c.begin-p.ensures c.requires.0 c.requires.1 (mark_is c.requires.0 c.requires.1 c.word_at-word.ensures.0) c.if-p-ge-REFUSED.true

pub walk-sequence-requires : goal.walk-sequence-requires
walk-sequence-requires t c = let R = c.requires.0 in
    let T = c.requires.1 in
    let e = c.word_at-word.ensures.0 in
    (omega (arith, c.requires.0, sequence-smaller R T e c.if-kind-eq-SEQUENCE.true), (R, sequence_parts R T e c.if-kind-eq-SEQUENCE.true, sequence_options R T e c.if-kind-eq-SEQUENCE.true, c.word_at-word.ensures.1, record { place = begun_within c.requires.2 _ _ c.begin-p.ensures c.if-p-ge-REFUSED.false; few = c.requires.2.few; padded = c.requires.2.padded }, c.requires.3))

pub walk-returns-then-kind-eq-SEQUENCE : goal.walk-returns-then-kind-eq-SEQUENCE
walk-returns-then-kind-eq-SEQUENCE t c = let R = c.requires.0 in
    let T = c.requires.1 in
    begun_on c.requires.2 _ _ c.begin-p.ensures R T (mark_is R T c.word_at-word.ensures.0) c.if-p-ge-REFUSED.false c.requires.3
    (rw (sequence_body R T c.word_at-word.ensures.0 (omega (arith, c.if-kind-eq-SEQUENCE.true)) c.if-kind-eq-SEQUENCE.true) c.sequence.ensures)

pub walk-number-requires : goal.walk-number-requires
walk-number-requires t c = (c.requires.1.there, number_wide c.requires.0 c.requires.1 c.word_at-word.ensures.0 c.if-kind-lt-SEQUENCE.true, record { place = begun_within c.requires.2 _ _ c.begin-p.ensures c.if-p-ge-REFUSED.false; few = c.requires.2.few; padded = c.requires.2.padded }, c.requires.3, row_small c.requires.0 c.requires.1)

pub walk-returns-then-kind-lt-SEQUENCE : goal.walk-returns-then-kind-lt-SEQUENCE
walk-returns-then-kind-lt-SEQUENCE t c = let R = c.requires.0 in
    let T = c.requires.1 in
    begun_on c.requires.2 _ _ c.begin-p.ensures R T (mark_is R T c.word_at-word.ensures.0) c.if-p-ge-REFUSED.false c.requires.3
    (number_row (message_in c.args.b.now c.args.total) c.begin-p.result R T c.word_at-word.ensures.0 c.if-kind-lt-SEQUENCE.true c.number.ensures)

pub walk-alternative-requires : goal.walk-alternative-requires
walk-alternative-requires t c = let R = c.requires.0 in
    let T = c.requires.1 in
    let e = c.word_at-word.ensures.0 in
    (omega (arith, c.requires.0, choice_below R T e c.if-kind-eq-CHOICE.true), (R, choice_parts R T e c.if-kind-eq-CHOICE.true, choice_wide R T e c.if-kind-eq-CHOICE.true, record { place = begun_within c.requires.2 _ _ c.begin-p.ensures c.if-p-ge-REFUSED.false; few = c.requires.2.few; padded = c.requires.2.padded }, c.requires.3, row_small R T))

pub walk-returns-then-kind-eq-CHOICE : goal.walk-returns-then-kind-eq-CHOICE
walk-returns-then-kind-eq-CHOICE t c = let R = c.requires.0 in
    let T = c.requires.1 in
    begun_on c.requires.2 _ _ c.begin-p.ensures R T (mark_is R T c.word_at-word.ensures.0) c.if-p-ge-REFUSED.false c.requires.3
    (rw (choice_body R T c.word_at-word.ensures.0 c.if-kind-lt-SEQUENCE.false c.if-kind-eq-SEQUENCE.false c.if-kind-eq-CHOICE.true) c.alternative.ensures)

pub walk-series-requires : goal.walk-series-requires
walk-series-requires t c = let R = c.requires.0 in
    let T = c.requires.1 in
    let e = c.word_at-word.ensures.0 in
    (omega (arith, c.requires.0, list_below R T e c.if-kind-lt-SEQUENCE.false c.if-kind-eq-SEQUENCE.false c.if-kind-eq-CHOICE.false), (R, list_item R T e c.if-kind-lt-SEQUENCE.false c.if-kind-eq-SEQUENCE.false c.if-kind-eq-CHOICE.false, list_sized R T e c.if-kind-lt-SEQUENCE.false c.if-kind-eq-SEQUENCE.false c.if-kind-eq-CHOICE.false, record { place = begun_within c.requires.2 _ _ c.begin-p.ensures c.if-p-ge-REFUSED.false; few = c.requires.2.few; padded = c.requires.2.padded }, c.requires.3, row_small R T))

pub walk-returns : goal.walk-returns
walk-returns t c = let R = c.requires.0 in
    let T = c.requires.1 in
    begun_on c.requires.2 _ _ c.begin-p.ensures R T (mark_is R T c.word_at-word.ensures.0) c.if-p-ge-REFUSED.false c.requires.3
    (rw (list_body R T c.word_at-word.ensures.0 c.if-kind-lt-SEQUENCE.false c.if-kind-eq-SEQUENCE.false c.if-kind-eq-CHOICE.false) c.series.ensures)
