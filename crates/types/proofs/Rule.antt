-- The rule of a type table: a test that is computed once over all rows says it of each row, and the table of source 000 passes.
-- Assumes nothing.
use mathlib.Core.Path.{◌≡◌, refl, sym, subst, ◌∙◌}
use mathlib.Core.Bool.{Bool, true, false, cond}
use mathlib.Core.List.{List, [], ◌∷◌}
use Prim.Native.Nat.{ℕ, zero, suc, ◌+◌, ◌<◌, ◌≤◌}
use native.Mathlib.Nat.{add-zero, zero-add, add-suc, suc-add, le_of_suc-le-suc, not-suc-le-zero}
use native.Mathlib.Omega.{arith}
use lib.Dec.{T, leb, ltb, leb→le, ltb→lt}
use lib.IntN.{pos}
use lib.Signed.{le_z, le_z_yes}
use lib.ListN.{length, get_or}
use Rattle.types.specs.Row.{Row, span_of, minus}
use Rattle.types.specs.Kinds as kinds
use Rattle.types.specs.Rows.{rows, row_count}
use Rattle.types.specs.Table.{bias, row_in, no_row}
use Rattle.types.specs.Rule.{◌&◌, most_values, reach, parts, opens, are_of, is_coded, is_type, has_type, marked, right_row, right_from, right, RowRule}

pub left : (a b : Bool) → T (a & b) → T a
left true b t = tt
left false b t = t

pub rest : (a b : Bool) → T (a & b) → T b
rest true b t = t
rest false b t = absurd t

-- the test of a list is the test of each of its rows
from : (table : ℕ → Row) (rs : List Row) (i : ℕ) → T (right_from table i rs) → (k : ℕ) → k < length rs → T (right_row table (i + k) (get_or rs k no_row))
unfolding right_from
from table [] i t k h = absurd (not-suc-le-zero h)
from table (r ∷ rs) i t zero h = subst (λ (m : ℕ). T (right_row table m r)) (sym (add-zero i)) (left (right_row table i r) (right_from table (suc i) rs) t)
from table (r ∷ rs) i t (suc k) h =
    subst (λ (m : ℕ). T (right_row table m (get_or rs k no_row))) (suc-add i k ∙ sym (add-suc i k))
    (from table rs (suc i) (rest (right_row table i r) (right_from table (suc i) rs) t) k (le_of_suc-le-suc h))

-- what the test of a row says
row_rule : (rs : List Row) (i : ℕ) → i < length rs → T (right_row (row_in rs) i (row_in rs i)) → RowRule rs i
unfolding right_row
row_rule rs i h t₀ =
    let r = row_in rs i in
    let size = cond (ltb r.kind kinds.sequence) true (le_z (pos 0) r.lowest) in
    let made = are_of kinds.component (row_in rs) r.first (parts r) in
    let more = are_of kinds.known (row_in rs) (r.first + parts r) (opens r) in
    let item = cond (has_type r) (is_type (row_in rs r.first)) true in
    let t₁ = rest (leb (reach r) i) _ t₀ in
    let t₂ = rest (le_z r.lowest r.highest) _ t₁ in
    let t₃ = rest (ltb (span_of r) most_values) _ t₂ in
    let t₄ = rest (le_z (minus bias) r.lowest) _ t₃ in
    let t₅ = rest (leb r.kind kinds.known) _ t₄ in
    let t₆ = rest (marked r) _ t₅ in
    let t₇ = rest size _ t₆ in
    let t₈ = rest made _ t₇ in
    let t₉ = rest more _ t₈ in
    let least : reach r ≤ i = leb→le (reach r) i (left (leb (reach r) i) _ t₀) in
    record {
      smaller = least;
      exists = omega arith;
      ordered = le_z_yes (left (le_z r.lowest r.highest) _ t₁);
      few = ltb→lt (span_of r) most_values (left (ltb (span_of r) most_values) _ t₂);
      held = le_z_yes (left (le_z (minus bias) r.lowest) _ t₃);
      kind_known = leb→le r.kind kinds.known (left (leb r.kind kinds.known) _ t₄);
      mark_known = left (marked r) _ t₅;
      sizes = left size _ t₆;
      components = left made _ t₇;
      additions = left more _ t₈;
      typed = left item _ t₉;
      coded = rest item _ t₉;
    }

-- the rule at each row of a table that passes the test
pub rule_at : (rs : List Row) → T (right rs) → (i : ℕ) → i < length rs → RowRule rs i
rule_at rs t i h = row_rule rs i h (subst (λ (k : ℕ). T (right_row (row_in rs) k (row_in rs i))) (zero-add i) (from (row_in rs) rs 0 t i h))

-- the table of source 000 passes, computed over all its rows
pub rows_right : T (right rows)
unfolding rows right_from right_row reach parts opens are_of is_coded
rows_right = tt

pub rows_rule : (i : ℕ) → i < length rows → RowRule rows i
rows_rule = rule_at rows rows_right

pub rows_length : length rows ≡ row_count
unfolding rows
rows_length = refl
