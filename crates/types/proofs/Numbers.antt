-- The numbers of a table stand for its rows: a test that is computed once over words and rows together says it of each row.
-- Assumes nothing.
use mathlib.Core.Path.{◌≡◌, refl, sym, ap, ap₂, subst, ◌∙◌, fun_ext}
use mathlib.Core.Bool.{Bool, true, false, cond}
use mathlib.Core.List.{List, [], ◌∷◌}
use Prim.Native.Nat.{ℕ, zero, suc, ◌+◌, ◌-◌, ◌/◌, ◌<◌, ◌≤◌}
use native.Mathlib.Decide.{dec_lt}
use native.Mathlib.Omega.{arith}
use borrow.Author.Tests.{lt-ltb, le-ltb}
use lib.Dec.{T, eqb, ltb, eqb→eq, leb→le}
use lib.IntN.{ℤ, pos, negsuc, sub_ℕ, ◌+ℤ◌, ◌-ℤ◌, +ℤ_comm, +ℤ-neg_ℤ_cancel, -ℤ-+ℤ_cancel}
use lib.Signed.{◌≤ℤ◌}
use lib.ListN.{length, drop, get_or, length-drop, get_or-eq_default}
use lib.Seq.{get_or-drop}
use Rattle.types.specs.Row.{Row, span_of, minus}
use Rattle.basics.specs.Lists.{natural}
use Rattle.types.specs.Rows.{rows}
use Rattle.types.specs.Kinds as kinds
use Rattle.types.specs.Columns as columns
use Rattle.types.specs.Table.{bias, bounds_of, numbers, flat, gathered, with, place, words_from, spared_from, word_at, low_in, span_in, is_plain, unpacked, six_at, column, lowest_of, row_at, row_in, no_row, the_rows}
use Rattle.types.specs.Rule.{◌&◌, right}
use Rattle.types.proofs.Computed.{options_sum, words_by_sums, computed, computed_is}
use Rattle.types.proofs.Rule.{left, rest, rule_at, rows_right}

-- ---- differences that are not negative

sub_natural : (a b : ℕ) → b ≤ a → pos (natural (sub_ℕ a b)) ≡ sub_ℕ a b
sub_natural a b h = rw (le-ltb a b h)

pub difference : (a b : ℤ) → a ≤ℤ b → pos (natural (b -ℤ a)) ≡ b -ℤ a
difference (pos zero) (pos b) h = refl
difference (pos (suc a)) (pos b) h = sub_natural b (suc a) (leb→le (suc a) b h.le)
difference (pos a) (negsuc b) h = absurd h.le
difference (negsuc a) (pos b) h = refl
difference (negsuc a) (negsuc b) h = sub_natural (suc a) (suc b) (omega (arith, leb→le b a h.le))

-- ---- six numbers as a row; a row's six numbers, and the row again

pub lowest_back : (z : ℤ) → minus bias ≤ℤ z → lowest_of (natural (z +ℤ pos bias)) ≡ z
lowest_back z h = ap (λ (x : ℤ). x -ℤ pos bias) (difference (minus bias) z h) ∙ +ℤ-neg_ℤ_cancel z (pos bias)

highest_back : (lo hi : ℤ) → lo ≤ℤ hi → lo +ℤ pos (natural (hi -ℤ lo)) ≡ hi
highest_back lo hi h = +ℤ_comm lo (pos (natural (hi -ℤ lo))) ∙ ap (λ (x : ℤ). x +ℤ lo) (difference lo hi h) ∙ -ℤ-+ℤ_cancel hi lo

abbrev row_from : List ℕ → Row
row_from ns =
    record {
      kind = get_or ns columns.kind 0;
      mark = get_or ns columns.mark 0;
      lowest = lowest_of (get_or ns columns.lowest 0);
      highest = lowest_of (get_or ns columns.lowest 0) +ℤ pos (get_or ns columns.span 0);
      first = get_or ns columns.first 0;
      count = get_or ns columns.count 0;
    }

abbrev pub six_of : Row → List ℕ
six_of r = r.kind ∷ r.mark ∷ (bounds_of r).low ∷ (bounds_of r).span ∷ r.first ∷ r.count ∷ []

row_back : (r : Row) → minus bias ≤ℤ r.lowest → r.lowest ≤ℤ r.highest → row_from (six_of r) ≡ r
row_back r held ordered =
    let lo : lowest_of (natural (r.lowest +ℤ pos bias)) ≡ r.lowest = lowest_back r.lowest held in
    let hi : lowest_of (natural (r.lowest +ℤ pos bias)) +ℤ pos (span_of r) ≡ r.highest = ap (λ (z : ℤ). z +ℤ pos (span_of r)) lo ∙ highest_back r.lowest r.highest ordered in
    λ i. record { kind = r.kind; mark = r.mark; lowest = lo i; highest = hi i; first = r.first; count = r.count }

-- ---- the test of words and rows together

unfoldable pub equal : List ℕ → List ℕ → Bool
equal [] [] = true
equal [] (n ∷ ns) = false
equal (m ∷ ms) [] = false
equal (m ∷ ms) (n ∷ ns) = eqb m n & equal ms ns

equal_is : (ms ns : List ℕ) → T (equal ms ns) → ms ≡ ns
unfolding equal
equal_is [] [] t = refl
equal_is [] (n ∷ ns) t = absurd t
equal_is (m ∷ ms) [] t = absurd t
equal_is (m ∷ ms) (n ∷ ns) t = ap₂ (λ (k : ℕ) (ks : List ℕ). k ∷ ks) (eqb→eq m n (left (eqb m n) (equal ms ns) t)) (equal_is ms ns (rest (eqb m n) (equal ms ns) t))

-- of a component whose word says that its type is plain: it is, and the word has its bounds
unfoldable pub right_bounds : List ℕ → List Row → ℕ → Row → Bool
right_bounds tb all w r = is_plain (row_in all r.first) & eqb (low_in tb w) (bounds_of (row_in all r.first)).low & eqb (span_in tb w) (bounds_of (row_in all r.first)).span

-- a row is one that edition 1 has, and what its word spares a walk is right
unfoldable pub right_word : List ℕ → List Row → ℕ → Row → Bool
right_word tb all w r =
    ltb r.mark 2
    & ltb r.kind kinds.selector
    & cond (eqb r.kind kinds.sequence) (eqb (w / spared_from) (options_sum (row_in all) r.first r.count)) true
    & cond (eqb r.kind kinds.component) (cond (ltb 0 (w / spared_from)) (right_bounds tb all w r) true) true

-- each word unpacks to its row and spares what it should, and there are as many words as rows
unfoldable pub stand : List ℕ → List Row → List ℕ → List Row → Bool
stand tb all [] [] = true
stand tb all [] (r ∷ rs) = false
stand tb all (w ∷ ws) [] = false
stand tb all (w ∷ ws) (r ∷ rs) = equal (unpacked tb w) (six_of r) & right_word tb all w r & stand tb all ws rs

abbrev pub stands : List ℕ → List Row → Bool
stands tb rs = stand tb rs (drop words_from tb) rs

stand_length : (tb : List ℕ) (all : List Row) (ws : List ℕ) (rs : List Row) → T (stand tb all ws rs) → length ws ≡ length rs
unfolding stand
stand_length tb all [] [] t = refl
stand_length tb all [] (r ∷ rs) t = absurd t
stand_length tb all (w ∷ ws) [] t = absurd t
stand_length tb all (w ∷ ws) (r ∷ rs) t = ap suc (stand_length tb all ws rs (rest (right_word tb all w r) (stand tb all ws rs) (rest (equal (unpacked tb w) (six_of r)) _ t)))

-- what the test of a list says of each word
stand_at : (tb : List ℕ) (all : List Row) (ws : List ℕ) (rs : List Row) → T (stand tb all ws rs) → (i : ℕ) → i < length rs → (unpacked tb (get_or ws i 0) ≡ six_of (row_in rs i)) × T (right_word tb all (get_or ws i 0) (row_in rs i))
unfolding stand
stand_at tb all [] [] t i h = absurd (omega arith)
stand_at tb all [] (r ∷ rs) t i h = absurd t
stand_at tb all (w ∷ ws) [] t i h = absurd t
stand_at tb all (w ∷ ws) (r ∷ rs) t zero h = (equal_is (unpacked tb w) (six_of r) (left (equal (unpacked tb w) (six_of r)) _ t), left (right_word tb all w r) (stand tb all ws rs) (rest (equal (unpacked tb w) (six_of r)) _ t))
stand_at tb all (w ∷ ws) (r ∷ rs) t (suc i) h = stand_at tb all ws rs (rest (right_word tb all w r) (stand tb all ws rs) (rest (equal (unpacked tb w) (six_of r)) _ t)) i (omega arith)

-- ---- each row of a table that passes the test

module _ (tb : List ℕ) (rs : List Row) (t : T (right rs)) (s : T (stands tb rs)) where
  pub many : length tb - words_from ≡ length rs
  many = sym (length-drop words_from tb) ∙ stand_length tb rs (drop words_from tb) rs s

  six_there : (i : ℕ) → i < length rs → six_at tb i ≡ six_of (row_in rs i)
  six_there i h =
      let there : words_from + i < length tb = omega (arith, many) in
      rw (lt-ltb (words_from + i) (length tb) there, ← get_or-drop words_from tb i 0) (stand_at tb rs (drop words_from tb) rs s i h).0

  -- what its word spares a walk is right
  pub word_right : (i : ℕ) → i < length rs → T (right_word tb rs (word_at tb i) (row_in rs i))
  word_right i h = subst (λ (w : ℕ). T (right_word tb rs w (row_in rs i))) (get_or-drop words_from tb i 0) (stand_at tb rs (drop words_from tb) rs s i h).1

  -- the columns of a row of the list
  pub column_there : (i k : ℕ) → i < length rs → column tb i k ≡ get_or (six_of (row_in rs i)) k 0
  unfolding column
  column_there i k h = ap (λ (six : List ℕ). get_or six k 0) (six_there i h)

  row_there : (i : ℕ) → i < length rs → row_at tb i ≡ row_in rs i
  unfolding row_at column
  row_there i h = ap row_from (six_there i h) ∙ row_back (row_in rs i) (rule_at rs t i h).held (rule_at rs t i h).ordered

  row_past : (i : ℕ) → length rs ≤ i → row_at tb i ≡ row_in rs i
  unfolding row_at column
  row_past i h =
      let past : length tb ≤ words_from + i = omega (arith, many) in
      let six : six_at tb i ≡ [] = rw (le-ltb (words_from + i) (length tb) past) in
      ap row_from six ∙ sym (get_or-eq_default rs no_row {n = i} h)

  pub numbers_stand : row_at tb ≡ row_in rs
  numbers_stand = fun_ext (λ i. elim (dec_lt i (length rs)) [ yes h ↦ row_there i h | no h ↦ row_past i (omega arith) ])

-- ---- the table of source 000, computed over all its rows

computed_stand : T (stands (computed rows) rows)
unfolding rows computed flat gathered with place options_sum words_by_sums stand right_word right_bounds equal
computed_stand = tt

pub rows_stand : T (stands (numbers rows) rows)
rows_stand = subst (λ (tb : List ℕ). T (stands tb rows)) (computed_is rows) computed_stand

pub the_numbers_stand : row_at (numbers rows) ≡ the_rows
the_numbers_stand = numbers_stand (numbers rows) rows rows_right rows_stand
