-- A table that passes the test of words and rows together is ready to be walked, and that of source 000 is.
-- Assumes nothing.
use mathlib.Core.Path.{◌≡◌, refl, sym, ap, subst, ◌∙◌}
use mathlib.Core.Bool.{Bool, true, false, cond}
use mathlib.Core.List.{List}
use Prim.Native.Nat.{ℕ, ◌+◌, ◌<◌, ◌≤◌, min}
use native.Mathlib.Decide.{dec_lt}
use native.Mathlib.Omega.{arith}
use borrow.Author.Tests.{lt-ltb}
use lib.Dec.{T, eqb, ltb, eqb→eq, ltb→lt, leb→le}
use lib.IntN.{ℤ, pos, negsuc}
use lib.Signed.{le_z}
use lib.ListN.{length, get_or-eq_default}
use Rattle.types.specs.Row.{Row, span_of}
use Rattle.types.specs.Kinds as kinds
use Rattle.types.specs.Columns as columns
use Rattle.types.specs.Rows.{rows}
use Rattle.types.specs.Table.{bias, bounds_of, numbers, flat, gathered, with, place, words, words_from, first_room, word_at, low_in, span_in, is_plain, options_of, column, row_at, row_in, no_row, first_edition}
use Rattle.types.specs.Rule.{reach, is_coded, is_type, has_type, right}
use Rattle.types.specs.Ready.{Ready, spared_at}
use Rattle.types.proofs.Rule.{left, rest, rule_at, rows_right}
use Rattle.types.proofs.Computed.{options_sum, options_sum_lem}
use Rattle.types.proofs.Depth.{reach_part, all_smaller, all_parts, all_opens}
use Rattle.types.proofs.Numbers.{right_bounds, right_word, stands, many, word_right, column_there, numbers_stand, rows_stand}

-- a row with a mark below 2 that is no selector is as edition 1 takes it
pub first_same : (r : Row) → r.mark < 2 → r.kind < kinds.selector → first_edition r ≡ r
unfolding first_edition
first_same r m k =
    let e : min r.mark 1 ≡ r.mark = omega arith in
    let is : cond (eqb r.kind kinds.selector) kinds.known r.kind ≡ r.kind = go (eqb r.kind kinds.selector) refl in
    λ i. record { kind = is i; mark = e i; lowest = r.lowest; highest = r.highest; first = r.first; count = r.count }
  where
    go : (b : Bool) → eqb r.kind kinds.selector ≡ b → cond b kinds.known r.kind ≡ r.kind
    go true e = absurd (let is : r.kind ≡ kinds.selector = eqb→eq r.kind kinds.selector (subst T (sym e) tt) in omega arith)
    go false e = refl

-- a size that is not negative is kept as a distance of at least the bias
size_kept : (z : ℤ) → T (le_z (pos 0) z) → bias ≤ (bounds_of (record { kind = 0; mark = 0; lowest = z; highest = z; first = 0; count = 0 })).low
size_kept (pos n) t = omega arith
size_kept (negsuc n) t = absurd t

module _ (tb : List ℕ) (rs : List Row) (t : T (right rs)) (s : T (stands tb rs)) (all : words_from ≤ length tb) (some : length tb ≤ words_from + first_room) where
  same : row_at tb ≡ row_in rs
  same = numbers_stand tb rs t s

  long : words_from + length rs ≡ length tb
  long = omega (arith, many tb rs t s)

  -- a row that is not past the end, as it is of a kind that such rows do not have
  inside : (i kind : ℕ) → (row_in rs i).kind ≡ kind → 0 < kind → i < length rs
  inside i kind e h = elim (dec_lt i (length rs)) [ yes p ↦ p | no p ↦ absurd (let z : (row_in rs i).kind ≡ 0 = ap (λ (r : Row). r.kind) (get_or-eq_default rs no_row {n = i} (omega arith)) in omega arith) ]

  reaches : (i : ℕ) → reach (row_in rs i) ≤ length rs
  unfolding reach
  reaches i = elim (dec_lt i (length rs)) [ yes h ↦ (rule_at rs t i h).exists | no h ↦ rw (get_or-eq_default rs no_row {n = i} (omega arith)) (omega arith) ]

  types : (i : ℕ) → T (cond (has_type (row_in rs i)) (is_type (row_in rs (row_in rs i).first)) true)
  types i = elim (dec_lt i (length rs)) [ yes h ↦ (rule_at rs t i h).typed | no h ↦ rw (get_or-eq_default rs no_row {n = i} (omega arith)) tt ]

  root_same : (i : ℕ) → first_edition (row_in rs i) ≡ row_in rs i
  unfolding right_word
  root_same i =
      elim (dec_lt i (length rs)) [
        | yes h ↦
            let a = word_right tb rs t s i h in
            let b = rest (ltb (row_in rs i).mark 2) _ a in
            first_same (row_in rs i) (ltb→lt (row_in rs i).mark 2 (left (ltb (row_in rs i).mark 2) _ a)) (ltb→lt (row_in rs i).kind kinds.selector (left (ltb (row_in rs i).kind kinds.selector) _ b))
        | no h ↦ let e = get_or-eq_default rs no_row {n = i} (omega arith) in first_same (row_in rs i) (rw e (omega arith)) (rw e (omega arith))
      ]

  sizes_kept : (i : ℕ) → (row_in rs i).kind ≡ kinds.list → bias ≤ column tb i columns.lowest
  sizes_kept i e =
      let h : i < length rs = inside i kinds.list e (omega arith) in
      rw (column_there tb rs t s i columns.lowest h) (size_kept (row_in rs i).lowest (rw e at (rule_at rs t i h).sizes))

  wides : (i : ℕ) → words_from + i < length tb → T (is_coded (row_in rs i)) → 0 < column tb i columns.span
  wides i h is =
      let l : i < length rs = omega (arith, long) in
      rw (column_there tb rs t s i columns.span l) (go (is_coded (row_in rs i)) is (rule_at rs t i l).coded)
    where
      go : (b : Bool) → T b → T (cond b (ltb 0 (span_of (row_in rs i))) true) → 0 < span_of (row_in rs i)
      go true u v = ltb→lt 0 (span_of (row_in rs i)) v
      go false u v = absurd u

  directs : (i : ℕ) → (row_in rs i).kind ≡ kinds.component → 0 < spared_at tb i → T (right_bounds tb rs (word_at tb i) (row_in rs i))
  unfolding right_word
  directs i e h =
      let l : i < length rs = inside i kinds.component e (omega arith) in
      let a = rest (ltb (row_in rs i).mark 2) _ (word_right tb rs t s i l) in
      let b = rest (ltb (row_in rs i).kind kinds.selector) _ a in
      let d = rest (cond (eqb (row_in rs i).kind kinds.sequence) (eqb (spared_at tb i) (options_sum (row_in rs) (row_in rs i).first (row_in rs i).count)) true) _ b in
      rw (e, lt-ltb 0 (spared_at tb i) h) at d

  counts : (i : ℕ) → (row_in rs i).kind ≡ kinds.sequence → spared_at tb i ≡ options_of (row_in rs) (row_in rs i).first (row_in rs i).count
  unfolding right_word
  counts i e =
      let l : i < length rs = inside i kinds.sequence e (omega arith) in
      let a = rest (ltb (row_in rs i).mark 2) _ (word_right tb rs t s i l) in
      let b = rest (ltb (row_in rs i).kind kinds.selector) _ a in
      let d = left (cond (eqb (row_in rs i).kind kinds.sequence) (eqb (spared_at tb i) (options_sum (row_in rs) (row_in rs i).first (row_in rs i).count)) true) _ b in
      eqb→eq (spared_at tb i) (options_sum (row_in rs) (row_in rs i).first (row_in rs i).count) (rw e at d) ∙ options_sum_lem (row_in rs) (row_in rs i).first (row_in rs i).count

  direct_at : (i : ℕ) → (row_in rs i).kind ≡ kinds.component → 0 < spared_at tb i
      → (is_plain (row_in rs (row_in rs i).first) ≡ true) × (low_in tb (word_at tb i) ≡ column tb (row_in rs i).first columns.lowest) × (span_in tb (word_at tb i) ≡ column tb (row_in rs i).first columns.span)
  unfolding right_bounds
  direct_at i e h =
      let r = row_in rs (row_in rs i).first in
      let a = directs i e h in
      let b = rest (is_plain r) _ a in
      let l : i < length rs = inside i kinds.component e (omega arith) in
      let j : (row_in rs i).first < length rs = omega (arith, all_smaller rs t i, reach_part (row_in rs i) e) in (
        truth (is_plain r) (left (is_plain r) _ a),
        eqb→eq (low_in tb (word_at tb i)) (bounds_of r).low (left (eqb (low_in tb (word_at tb i)) (bounds_of r).low) _ b) ∙ sym (column_there tb rs t s (row_in rs i).first columns.lowest j),
        eqb→eq (span_in tb (word_at tb i)) (bounds_of r).span (rest (eqb (low_in tb (word_at tb i)) (bounds_of r).low) _ b) ∙ sym (column_there tb rs t s (row_in rs i).first columns.span j),
      )
    where
      truth : (b : Bool) → T b → b ≡ true
      truth true t = refl
      truth false t = absurd t

  -- a table that passes all tests is ready
  pub ready_table : Ready tb
  ready_table =
      record {
        bounded = all;
        few = some;
        smaller = λ i. rw same (all_smaller rs t i);
        exists = λ i. rw same (omega (arith, long, reaches i));
        components = λ i. rw same (all_parts rs t i);
        additions = λ i. rw same (all_opens rs t i);
        typed = λ i. rw same (types i);
        root = λ i. rw same (root_same i);
        wide = λ i h is. wides i h (rw same at is);
        sized = λ i e. sizes_kept i (rw same at e);
        direct = λ i e h. let d = direct_at i (rw same at e) h in record { plain = rw same d.0; low = rw same d.1; span = rw same d.2 };
        options = λ i e. rw same (counts i (rw same at e));
      }

-- ---- the table of source 000, computed over all its rows

rows_long : words_from ≤ length (numbers rows)
unfolding rows numbers flat gathered with place options_of words
rows_long = leb→le words_from (length (numbers rows)) tt

rows_few : length (numbers rows) ≤ words_from + first_room
unfolding rows numbers flat gathered with place options_of words
rows_few = leb→le (length (numbers rows)) (words_from + first_room) tt

pub the_table_ready : Ready (numbers rows)
the_table_ready = ready_table (numbers rows) rows rows_right rows_stand rows_long rows_few
