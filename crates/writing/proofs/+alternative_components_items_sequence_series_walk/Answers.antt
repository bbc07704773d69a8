-- The cycle of calls of writing. It ends because a row refers to rows with smaller numbers only: the others lie between a row and those.
-- Assumes nothing.
use Prim.Native.Nat.{ℕ, ◌+◌, ◌-◌, ◌/◌, ◌%◌, ◌<◌, ◌^◌}
use native.Mathlib.Omega.{arith}
use mathlib.Core.Path.{◌≡◌, refl, sym, ap, ◌∙◌}
use lib.ListN.{length}
use Rattle.basics.specs.Lists.{cell_at}
use Rattle.bits.specs.Numbers.{width}
use Rattle.types.specs.Table.{low_in, span_in, root_at, type_of}
use Rattle.types.specs.Ready.{PartRows}
use Rattle.types.proofs.Walkable.{sequence_body, choice_body, list_body, sequence_below as sequence-rows, sequence_parts, sequence_options, choice_below, choice_parts, list_below, list_item, list_sized, parts_at, part_first, part_below, part_row_lem}
use Rattle.meaning.specs.Writing.{writer, write}
use Rattle.walking.specs.Walked.{Walked, silent}
use Rattle.walking.specs.Went.Went.{On}
use Rattle.walking.proofs.Laws.{nothing, times_none}
use Rattle.walking.proofs.Rows.{left_none}
use Rattle.writing.specs.Target.{target}
use Rattle.writing.proofs.Target.{stands_on, unpacked, begun_stands}
use Rattle.writing.proofs.Leaves.{gathered_stops, gathered_put, item_stops, item_turn}
use Rattle.meaning.proofs.Unowned.{choice_unowned, list_unowned}
use Rattle.writing.proofs.Walks.{row_walked, row_number, plain_item, sequence_stops, sequence_goes, parts_left, part_absent, part_stops, part_turn, part_number, choice_stops, choice_goes, size, Many, size_fixed, many_fixed, size_coded, many_coded, list_stops, list_goes}
use Rattle.writing.proofs.+alternative_components_items_sequence_series_walk.Goals.{components-then-here+then-part-ge-SPARED_FROM+else-x-ge-REFUSED, components-then-here+else-part-ge-SPARED_FROM+else-r-ge-REFUSED, components-else-here, series-Joined-span_in-ne0, series-then-span_in-ne0+else-x-ge-REFUSED, series-else-span_in-ne0}
use Rattle.writing.proofs.+alternative_components_items_sequence_series_walk.Goals as goal

-- the size, whichever way it went: what was written, how many items follow, and that the bytes are as many as before
series_sized : (t : ℕ) (c : series-Joined-span_in-ne0 t) → (let a = c.args in let low = low_in a.rows.now a.word in let span = span_in a.rows.now a.word in Walked silent (length a.cells.now) (size c.requires.0 a.cells.now low span (a.word / 4096 % 1024) a.k c.requires.2) (target a.out.now) a.at (On 0 c.if-span_in-ne0.q c.if-span_in-ne0.c) (target c.if-span_in-ne0.out) × Many c.requires.0 a.cells.now low span (a.word / 4096 % 1024) a.k c.requires.2 c.if-span_in-ne0.n × (length c.if-span_in-ne0.out ≡ length a.out.now))
series_sized t c =
    let a = c.args in
    let p = c.requires in
    let low = low_in a.rows.now a.word in
    let span = span_in a.rows.now a.word in
    let el = c.low_in-n.ensures.0 in
    let es = c.span_in.ensures.0 in
    elim c.if-span_in-ne0.branch [
      | series-then-span_in-ne0+else-x-ge-REFUSED w ↦
          let some : span ≡ 0 → ⊥ = λ z. w.if-span_in-ne0.true (es ∙ z) in (
            rw (w.out-is, w.q-is, w.c-is) (size_coded p.0 a.cells.now low span (a.word / 4096 % 1024) a.k p.2 some (gathered_put w.taken_in-x.result w.taken_in-x.ensures.gathered w.width_in.result w.if-x-ge-REFUSED.false w.width_in.ensures.0 w.put-c.ensures.counted w.put-c.ensures.stored)),
            rw (w.n-is, el) (many_coded p.0 a.cells.now low span (a.word / 4096 % 1024) a.k p.2 some (w.taken_in-x.ensures.told w.if-x-ge-REFUSED.false)),
            ap length w.out-is ∙ w.put-c.auto.out,
          )
      | series-else-span_in-ne0 w ↦
          let none : span ≡ 0 = sym es ∙ w.if-span_in-ne0.false in (
            rw (w.out-is, w.q-is, w.c-is) (size_fixed p.0 a.cells.now low span (a.word / 4096 % 1024) a.k p.2 none p.3.place p.3.near),
            rw (w.n-is, el) (many_fixed p.0 a.cells.now low span (a.word / 4096 % 1024) a.k p.2 none),
            ap length w.out-is,
          )
    ]

pub alternative-taken-n-requires : goal.alternative-taken-n-requires
alternative-taken-n-requires t c = (c.requires.2.few, omega arith, c.span_in.ensures.1)

pub alternative-returns-then-n-ge-REFUSED : goal.alternative-returns-then-n-ge-REFUSED
alternative-returns-then-n-ge-REFUSED t c = let a = c.args in rw (← c.span_in.ensures.0) (choice_stops (c.requires.0) a.cells.now (a.word / 4096 % 1024) (c.span_in.result) a.k {s' = target a.out.now} (c.taken-n.result) (c.if-n-ge-REFUSED.true) (gathered_stops (c.taken-n.result) (c.taken-n.ensures.gathered) (c.if-n-ge-REFUSED.true)))

pub alternative-put-next-requires : goal.alternative-put-next-requires
alternative-put-next-requires t c = (c.width_in.ensures.1, rw (c.width_in.ensures.0 ∙ ap width (sym (c.span_in.ensures.0))) (c.taken-n.ensures.gathered.held (c.if-n-ge-REFUSED.false)), c.requires.2.near, c.requires.2.clean)

pub alternative-overflow_add-word : goal.alternative-overflow_add-word
alternative-overflow_add-word t c = let a = c.args in record { fits = omega (arith, c.taken-n.ensures.small (c.if-n-ge-REFUSED.false), c.span_in.ensures.1) }

pub alternative-word_at-part-requires : goal.alternative-word_at-part-requires
alternative-word_at-part-requires t c = let a = c.args in omega (arith, c.taken-n.ensures.small (c.if-n-ge-REFUSED.false), c.span_in.ensures.0, c.requires.1.there)

pub alternative-walk-requires : goal.alternative-walk-requires
alternative-walk-requires t c = let a = c.args in let at-it : PartRows a.rows.now ((a.word / 4096 % 1024) + c.taken-n.result) (span_in a.rows.now a.word + 1 - c.taken-n.result) = parts_at (c.requires.0) (c.taken-n.result) (omega (arith, c.taken-n.ensures.small (c.if-n-ge-REFUSED.false), c.span_in.ensures.0)) (c.requires.1) in let some : 0 < span_in a.rows.now a.word + 1 - c.taken-n.result = omega (arith, c.taken-n.ensures.small (c.if-n-ge-REFUSED.false), c.span_in.ensures.0) in let t₁ = gathered_put (c.taken-n.result) (c.taken-n.ensures.gathered) (c.width_in.result) (c.if-n-ge-REFUSED.false) (c.width_in.ensures.0 ∙ ap width (sym (c.span_in.ensures.0))) (c.put-next.ensures.counted) (c.put-next.ensures.stored) in (omega (arith, c.requires.0, part_below (c.requires.0) at-it some (c.word_at-part.ensures.0), c.taken-n.ensures.small (c.if-n-ge-REFUSED.false), c.span_in.ensures.0), (c.requires.0, part_row_lem (c.requires.0) at-it some (c.word_at-part.ensures.0), stands_on (c.requires.2) t₁))

pub alternative-returns : goal.alternative-returns
alternative-returns t c = let a = c.args in let at-it : PartRows a.rows.now ((a.word / 4096 % 1024) + c.taken-n.result) (span_in a.rows.now a.word + 1 - c.taken-n.result) = parts_at (c.requires.0) (c.taken-n.result) (omega (arith, c.taken-n.ensures.small (c.if-n-ge-REFUSED.false), c.span_in.ensures.0)) (c.requires.1) in let some : 0 < span_in a.rows.now a.word + 1 - c.taken-n.result = omega (arith, c.taken-n.ensures.small (c.if-n-ge-REFUSED.false), c.span_in.ensures.0) in let t₁ = gathered_put (c.taken-n.result) (c.taken-n.ensures.gathered) (c.width_in.result) (c.if-n-ge-REFUSED.false) (c.width_in.ensures.0 ∙ ap width (sym (c.span_in.ensures.0))) (c.put-next.ensures.counted) (c.put-next.ensures.stored) in rw (← c.span_in.ensures.0) (choice_goes (c.requires.0) a.cells.now (a.word / 4096 % 1024) (c.span_in.result) a.k (c.taken-n.result) (c.requires.2.clean) t₁ (c.taken-n.ensures.told (c.if-n-ge-REFUSED.false)) (c.taken-n.ensures.small (c.if-n-ge-REFUSED.false)) (part_first (c.requires.0) at-it some (c.word_at-part.ensures.0)) (c.walk.ensures))

pub components-loop-row-init : goal.components-loop-row-init
components-loop-row-init t c = let a = c.args in let all : a.first + a.count - a.first ≡ a.count = omega arith in rw all (c.requires.4, c.requires.1, omega (arith, c.requires.2, c.requires.3), λ r s' u. u)

pub components-returns-then-x-ge-REFUSED : goal.components-returns-then-x-ge-REFUSED
components-returns-then-x-ge-REFUSED t c = let a = c.args in let l = c.loop-row in let rest = a.first + a.count - (l.row + 1) in l.invariant.3 _ _ (part_stops c.requires.0 a.cells.now l.invariant.1 rest (omega (arith, c.loop-row-test.true)) c.word_at-part.ensures.0 l.flag l.k (c.past-flag.ensures.near (omega (arith, c.loop-row.invariant.2))).0 (sym c.present-here.ensures ∙ c.if-here.true) {s' = target l.out} c.taken_in-x.result c.if-x-ge-REFUSED.true (part_number c.requires.0 a.cells.now l.invariant.1 rest (omega (arith, c.loop-row-test.true)) c.word_at-part.ensures.0 l.flag l.k (c.past-flag.ensures.near (omega (arith, c.loop-row.invariant.2))).0 c.if-part-ge-SPARED_FROM.true (gathered_stops c.taken_in-x.result c.taken_in-x.ensures.gathered c.if-x-ge-REFUSED.true)))

pub components-put-at-requires : goal.components-put-at-requires
components-put-at-requires t c = (c.width_in.ensures.1, rw c.width_in.ensures.0 (c.taken_in-x.ensures.gathered.held c.if-x-ge-REFUSED.false), c.loop-row.invariant.0.near, c.loop-row.invariant.0.clean)

pub components-walk-r-requires : goal.components-walk-r-requires
components-walk-r-requires t c = let l = c.loop-row in (omega (arith, c.requires.0, part_below c.requires.0 l.invariant.1 (omega (arith, c.loop-row-test.true)) c.word_at-part.ensures.0, c.loop-row-test.true), (c.requires.0, part_row_lem c.requires.0 l.invariant.1 (omega (arith, c.loop-row-test.true)) c.word_at-part.ensures.0, l.invariant.0))

pub components-returns-then-r-ge-REFUSED : goal.components-returns-then-r-ge-REFUSED
components-returns-then-r-ge-REFUSED t c = let a = c.args in let l = c.loop-row in l.invariant.3 _ _ (part_stops c.requires.0 a.cells.now l.invariant.1 (a.first + a.count - (l.row + 1)) (omega (arith, c.loop-row-test.true)) c.word_at-part.ensures.0 l.flag l.k (c.past-flag.ensures.near (omega (arith, c.loop-row.invariant.2))).0 (sym c.present-here.ensures ∙ c.if-here.true) c.walk-r.result c.if-r-ge-REFUSED.true c.walk-r.ensures)

pub components-loop-row-preserved : goal.components-loop-row-preserved
components-loop-row-preserved t c =
    let a = c.args in
    let l = c.loop-row in
    let rest = a.first + a.count - (l.row + 1) in
    let more : a.first + a.count - l.row ≡ rest + 1 = omega (arith, c.loop-row-test.true) in
    let next = parts_left c.requires.0 a.cells.now l.invariant.1 rest more c.word_at-part.ensures.0 l.flag l.k (c.past-flag.ensures.near (omega (arith, c.loop-row.invariant.2))).0 in
    let level : c.past-flag.result + rest < 2 ^ 33 = omega (arith, l.invariant.2, (c.past-flag.ensures.near (omega (arith, c.loop-row.invariant.2))).1) in
    elim c.if-here.branch [
      | components-then-here+then-part-ge-SPARED_FROM+else-x-ge-REFUSED w ↦
          let here = sym c.present-here.ensures ∙ w.if-here.true in
          let t₁ = part_number c.requires.0 a.cells.now l.invariant.1 rest more c.word_at-part.ensures.0 l.flag l.k (c.past-flag.ensures.near (omega (arith, c.loop-row.invariant.2))).0 w.if-part-ge-SPARED_FROM.true (gathered_put w.taken_in-x.result w.taken_in-x.ensures.gathered w.width_in.result w.if-x-ge-REFUSED.false w.width_in.ensures.0 w.put-at.ensures.counted w.put-at.ensures.stored) in
          rw (w.k-is, w.out-is, w.at-is) (stands_on l.invariant.0 t₁, next, level, λ r s' u. l.invariant.3 r s' (part_turn c.requires.0 a.cells.now l.invariant.1 rest more c.word_at-part.ensures.0 l.flag l.k (c.past-flag.ensures.near (omega (arith, c.loop-row.invariant.2))).0 here l.invariant.0.clean t₁ u))
      | components-then-here+else-part-ge-SPARED_FROM+else-r-ge-REFUSED w ↦
          let here = sym c.present-here.ensures ∙ w.if-here.true in
          let t₁ = unpacked w.walk-r.result w.if-r-ge-REFUSED.false w.walk-r.ensures in
          rw (w.k-is, w.out-is, w.at-is) (stands_on l.invariant.0 t₁, next, level, λ r s' u. l.invariant.3 r s' (part_turn c.requires.0 a.cells.now l.invariant.1 rest more c.word_at-part.ensures.0 l.flag l.k (c.past-flag.ensures.near (omega (arith, c.loop-row.invariant.2))).0 here l.invariant.0.clean t₁ u))
      | components-else-here w ↦
          rw (w.k-is, w.out-is, w.at-is) (l.invariant.0, next, level, λ r s' u. l.invariant.3 r s' (part_absent c.requires.0 a.cells.now l.invariant.1 rest more c.word_at-part.ensures.0 l.flag l.k (c.past-flag.ensures.near (omega (arith, c.loop-row.invariant.2))).0 (sym c.present-here.ensures ∙ w.if-here.false) u))
    ]

pub components-returns : goal.components-returns
components-returns t c = let a = c.args in let l = c.loop-row in l.invariant.3 _ _ (rw (left_none writer a.cells.now a.rows.now (type_of (root_at a.rows.now)) (cell_at a.cells.now) l.row (a.first + a.count - l.row) l.flag l.k (omega (arith, c.loop-row-test.false)), c.on.ensures) (nothing l.invariant.0.place l.invariant.0.near))

pub items-returns-then-word-lt-SEQUENCE : goal.items-returns-then-word-lt-SEQUENCE
items-returns-then-word-lt-SEQUENCE t c = let a = c.args in rw (plain_item c.requires.0 a.cells.now c.requires.1 c.word_at-word.ensures.0 c.if-word-lt-SEQUENCE.true, ← c.low_in.ensures.0, ← c.span_in.ensures.0) c.run.ensures

pub items-loop-init : goal.items-loop-init
items-loop-init t c = let all : c.args.n - 0 ≡ c.args.n = omega arith in rw all (c.requires.2, λ r s' u. u)

pub items-walk-r-requires : goal.items-walk-r-requires
items-walk-r-requires t c = (omega (arith, c.requires.0), (c.requires.0, c.requires.1, c.loop.invariant.0))

pub items-returns-then-r-ge-REFUSED : goal.items-returns-then-r-ge-REFUSED
items-returns-then-r-ge-REFUSED t c = let a = c.args in let l = c.loop in l.invariant.1 _ _ (item_stops (write (type_of (root_at a.rows.now) a.t)) a.cells.now (a.n - l.counter) l.k (a.n - (l.counter + 1)) (omega (arith, c.loop-test.true)) c.walk-r.result c.if-r-ge-REFUSED.true c.walk-r.ensures)

pub items-loop-preserved : goal.items-loop-preserved
items-loop-preserved t c = let a = c.args in let l = c.loop in let t₁ = unpacked c.walk-r.result c.if-r-ge-REFUSED.false c.walk-r.ensures in (stands_on l.invariant.0 t₁, λ r s' u. l.invariant.1 r s' (item_turn (write (type_of (root_at a.rows.now) a.t)) a.cells.now (a.n - l.counter) l.k (a.n - (l.counter + 1)) (omega (arith, c.loop-test.true)) l.invariant.0.clean t₁ u))

pub items-returns : goal.items-returns
items-returns t c = let a = c.args in let l = c.loop in l.invariant.1 _ _ (rw (times_none (a.n - l.counter) (write (type_of (root_at a.rows.now) a.t)) a.cells.now l.k (omega (arith, c.loop-test.false)), c.on.ensures) (nothing l.invariant.0.place l.invariant.0.near))

pub sequence-presence-mask-requires : goal.sequence-presence-mask-requires
sequence-presence-mask-requires t c = (c.requires.4.few, c.requires.4.place, omega (arith, c.requires.3))

pub sequence-returns-then-mask-ge-REFUSED : goal.sequence-returns-then-mask-ge-REFUSED
sequence-returns-then-mask-ge-REFUSED t c = let a = c.args in sequence_stops (c.requires.0) a.cells.now (a.word / 4096 % 1024) (a.word / 4194304 % 32) (a.word / 134217728) a.k (c.requires.2) {s' = target a.out.now} (c.presence-mask.result) (c.if-mask-ge-REFUSED.true) (gathered_stops (c.presence-mask.result) (c.presence-mask.ensures) (c.if-mask-ge-REFUSED.true))

pub sequence-put_flags-next-requires : goal.sequence-put_flags-next-requires
sequence-put_flags-next-requires t c = (omega (arith, c.requires.3), c.presence-mask.ensures.held (c.if-mask-ge-REFUSED.false), c.requires.4.near, c.requires.4.clean)

pub sequence-overflow_add-k : goal.sequence-overflow_add-k
sequence-overflow_add-k t c = let a = c.args in record { fits = omega (arith, c.requires.4.few, c.requires.4.place, c.requires.3) }

pub sequence-components-requires : goal.sequence-components-requires
sequence-components-requires t c = let a = c.args in let t₁ = gathered_put (c.presence-mask.result) (c.presence-mask.ensures) (a.word / 134217728) (c.if-mask-ge-REFUSED.false) refl (c.put_flags-next.ensures.counted) (c.put_flags-next.ensures.stored) in (omega (arith, c.requires.0), (c.requires.0, c.requires.1, omega arith, omega (arith, c.requires.4.few, c.requires.4.place), stands_on (c.requires.4) t₁))

pub sequence-returns : goal.sequence-returns
sequence-returns t c = let a = c.args in let t₁ = gathered_put (c.presence-mask.result) (c.presence-mask.ensures) (a.word / 134217728) (c.if-mask-ge-REFUSED.false) refl (c.put_flags-next.ensures.counted) (c.put_flags-next.ensures.stored) in sequence_goes (c.requires.0) a.cells.now (a.word / 4096 % 1024) (a.word / 4194304 % 32) (a.word / 134217728) a.k (c.requires.2) (c.requires.4.clean) t₁ (c.components.ensures)

pub series-returns-then-x-ge-REFUSED : goal.series-returns-then-x-ge-REFUSED
series-returns-then-x-ge-REFUSED t c = let a = c.args in list_stops (c.requires.0) a.cells.now (low_in a.rows.now a.word) (span_in a.rows.now a.word) (a.word / 4096 % 1024) a.k (c.requires.2) (λ z. c.if-span_in-ne0.true (c.span_in.ensures.0 ∙ z)) {s' = target a.out.now} (c.taken_in-x.result) (c.if-x-ge-REFUSED.true) (gathered_stops (c.taken_in-x.result) (c.taken_in-x.ensures.gathered) (c.if-x-ge-REFUSED.true))

pub series-overflow_add-n : goal.series-overflow_add-n
series-overflow_add-n t c = record { fits = omega (arith, c.low_in-n.ensures.1, c.span_in.ensures.0, c.span_in.ensures.1, c.taken_in-x.ensures.small (c.if-x-ge-REFUSED.false)) }

pub series-put-c-requires : goal.series-put-c-requires
series-put-c-requires t c = (c.width_in.ensures.1, rw (c.width_in.ensures.0) (c.taken_in-x.ensures.gathered.held (c.if-x-ge-REFUSED.false)), c.requires.3.near, c.requires.3.clean)

pub series-items-requires : goal.series-items-requires
series-items-requires t c = (omega (arith, c.decreases), (c.requires.0, c.requires.1, stands_on (c.requires.3) (series_sized t (record { before = c.before.before; type_inv = record { rows = c.type_inv.rows } })).0))

pub series-returns : goal.series-returns
series-returns t c = let a = c.args in list_goes (c.requires.0) a.cells.now (low_in a.rows.now a.word) (span_in a.rows.now a.word) (a.word / 4096 % 1024) a.k (c.requires.2) (c.requires.3.clean) (series_sized t (record { before = c.before.before.before.before.before; type_inv = record { rows = c.type_inv.rows } })).0 (series_sized t (record { before = c.before.before.before.before.before; type_inv = record { rows = c.type_inv.rows } })).1 c.items.ensures

pub walk-number-requires : goal.walk-number-requires
walk-number-requires t c = (c.requires.0.bounded, begun_stands (c.word_at-word.result / 8 % 4) (c.requires.2) (c.begun-place.ensures))

pub walk-returns-then-kind-lt-SEQUENCE : goal.walk-returns-then-kind-lt-SEQUENCE
walk-returns-then-kind-lt-SEQUENCE t c = let a = c.args in row_walked (c.requires.0) a.cells.now (c.requires.1) (c.word_at-word.ensures.0) a.k (c.requires.2.clean) (c.requires.2.near) (c.requires.2.place) (c.begun-place.ensures) (row_number (c.requires.0) a.cells.now (c.requires.1) (c.word_at-word.ensures.0) a.k (c.if-kind-lt-SEQUENCE.true) (c.number.ensures))

pub walk-sequence-requires : goal.walk-sequence-requires
walk-sequence-requires t c = (omega (arith, c.requires.0, sequence-rows (c.requires.0) (c.requires.1) (c.word_at-word.ensures.0) (c.if-kind-eq-SEQUENCE.true)), (c.requires.0, sequence_parts (c.requires.0) (c.requires.1) (c.word_at-word.ensures.0) (c.if-kind-eq-SEQUENCE.true), sequence_options (c.requires.0) (c.requires.1) (c.word_at-word.ensures.0) (c.if-kind-eq-SEQUENCE.true), c.word_at-word.ensures.1, begun_stands (c.word_at-word.result / 8 % 4) (c.requires.2) (c.begun-place.ensures)))

pub walk-returns-then-kind-eq-SEQUENCE : goal.walk-returns-then-kind-eq-SEQUENCE
walk-returns-then-kind-eq-SEQUENCE t c = let a = c.args in row_walked (c.requires.0) a.cells.now (c.requires.1) (c.word_at-word.ensures.0) a.k (c.requires.2.clean) (c.requires.2.near) (c.requires.2.place) (c.begun-place.ensures) (rw (sequence_body (c.requires.0) (c.requires.1) (c.word_at-word.ensures.0) (c.if-kind-lt-SEQUENCE.false) (c.if-kind-eq-SEQUENCE.true)) (c.sequence.ensures))

pub walk-alternative-requires : goal.walk-alternative-requires
walk-alternative-requires t c = (omega (arith, c.requires.0, choice_below (c.requires.0) (c.requires.1) (c.word_at-word.ensures.0) (c.if-kind-eq-CHOICE.true)), (c.requires.0, choice_parts (c.requires.0) (c.requires.1) (c.word_at-word.ensures.0) (c.if-kind-eq-CHOICE.true), begun_stands (c.word_at-word.result / 8 % 4) (c.requires.2) (c.begun-place.ensures)))

pub walk-returns-then-kind-eq-CHOICE : goal.walk-returns-then-kind-eq-CHOICE
walk-returns-then-kind-eq-CHOICE t c = let a = c.args in row_walked (c.requires.0) a.cells.now (c.requires.1) (c.word_at-word.ensures.0) a.k (c.requires.2.clean) (c.requires.2.near) (c.requires.2.place) (c.begun-place.ensures) (rw (choice_body (c.requires.0) (c.requires.1) (c.word_at-word.ensures.0) (c.if-kind-lt-SEQUENCE.false) (c.if-kind-eq-SEQUENCE.false) (c.if-kind-eq-CHOICE.true), choice_unowned _ _ _ _) (c.alternative.ensures))

pub walk-series-requires : goal.walk-series-requires
walk-series-requires t c = (omega (arith, c.requires.0, list_below (c.requires.0) (c.requires.1) (c.word_at-word.ensures.0) (c.if-kind-lt-SEQUENCE.false) (c.if-kind-eq-SEQUENCE.false) (c.if-kind-eq-CHOICE.false)), (c.requires.0, list_item (c.requires.0) (c.requires.1) (c.word_at-word.ensures.0) (c.if-kind-lt-SEQUENCE.false) (c.if-kind-eq-SEQUENCE.false) (c.if-kind-eq-CHOICE.false), list_sized (c.requires.0) (c.requires.1) (c.word_at-word.ensures.0) (c.if-kind-lt-SEQUENCE.false) (c.if-kind-eq-SEQUENCE.false) (c.if-kind-eq-CHOICE.false), begun_stands (c.word_at-word.result / 8 % 4) (c.requires.2) (c.begun-place.ensures)))

pub walk-returns : goal.walk-returns
walk-returns t c = let a = c.args in row_walked (c.requires.0) a.cells.now (c.requires.1) (c.word_at-word.ensures.0) a.k (c.requires.2.clean) (c.requires.2.near) (c.requires.2.place) (c.begun-place.ensures) (rw (list_body (c.requires.0) (c.requires.1) (c.word_at-word.ensures.0) (c.if-kind-lt-SEQUENCE.false) (c.if-kind-eq-SEQUENCE.false) (c.if-kind-eq-CHOICE.false), list_unowned _ _ _ _ _ _) (c.series.ensures))
