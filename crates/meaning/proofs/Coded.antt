-- Every value and index of a table that keeps the rule takes at least one bit, so a message has no more cells than bits.
-- Assumes nothing.
use Prim.Native.Nat.{ℕ, ◌+◌, ◌<◌, ◌≤◌}
use mathlib.Core.Path.{◌≡◌}
use mathlib.Core.Bool.{Bool, true, false, cond}
use mathlib.Core.List.{List}
use lib.Dec.{T, ltb, eqb, ltb→lt}
use lib.IntN.{ℤ}
use lib.ListN.{length}
use Rattle.types.specs.Shape.{Field}
use Rattle.types.specs.Row.{Row, span_of}
use Rattle.types.specs.Kinds as kinds
use Rattle.types.specs.Rows.{rows}
use Rattle.types.specs.Table.{type_of, row_in, the_rows}
use Rattle.types.specs.Rule.{is_coded, right}
use Rattle.types.proofs.Rule.{rule_at, rows_right}
use Rattle.meaning.specs.Values.{Value}
use Rattle.meaning.specs.Steps.{ok}
use Rattle.meaning.specs.Reading.{read}
use Rattle.meaning.proofs.Owned.{Owns, Own, types_fit}
use Rattle.meaning.proofs.Bound.{bounded}

-- a field that takes a bit
abbrev Coded : Field → Type 0
Coded f = 0 < f.span

-- types that edition 2 alone has are allowed
abbrev Extended : Type 0
Extended = Unit {0}

own_coded : (i : ℕ) (r : Row) → T (cond (is_coded r) (ltb 0 (span_of r)) true) → Own Coded Extended i r
unfolding is_coded
own_coded i r = go (ltb r.kind kinds.sequence) (eqb r.kind kinds.sequence) (eqb r.kind kinds.choice) (eqb r.kind kinds.selector)
  where
    go : (a b c d : Bool) → T (cond (cond a true (cond c true d)) (ltb 0 (span_of r)) true) → Owns Coded Extended i r a b c d
    go true b c d t = ltb→lt 0 (span_of r) t
    go false true c d t = tt
    go false false true d t = ltb→lt 0 (span_of r) t
    go false false false true t = (tt, ltb→lt 0 (span_of r) t)
    go false false false false t = λ p. p

first_kinds : (r : Row) → T (ltb r.kind kinds.sequence) → T (cond (is_coded r) (ltb 0 (span_of r)) true) → 0 < span_of r
unfolding is_coded
first_kinds r k = go (ltb r.kind kinds.sequence) k
  where
    go : (a : Bool) → T a → T (cond (cond a true (cond (eqb r.kind kinds.choice) true (eqb r.kind kinds.selector))) (ltb 0 (span_of r)) true) → 0 < span_of r
    go true h t = ltb→lt 0 (span_of r) t
    go false h t = absurd h

module _ (rs : List Row) (keeps : T (right rs)) where
  -- a message of a row of a table that keeps the rule has no more cells than bits
  pub cells_in_bits : (row : ℕ) → row < length rs → (bs : List ℕ) (i j : ℕ) (v : Value) (cells : List ℤ) → read (type_of (row_in rs) row) bs i ≡ ok v cells j → i + length cells ≤ j
  cells_in_bits row h = bounded (type_of (row_in rs) row) (types_fit Coded Extended rs keeps (λ i l. own_coded i (row_in rs i) (rule_at rs keeps i l).coded) (λ i l m. (tt, λ k. first_kinds (row_in rs i) k (rule_at rs keeps i l).coded)) (row + 1) row h)

-- of edition 1
pub few_cells : (row : ℕ) → row < length rows → (bs : List ℕ) (i j : ℕ) (v : Value) (cells : List ℤ) → read (type_of the_rows row) bs i ≡ ok v cells j → i + length cells ≤ j
few_cells = cells_in_bits rows rows_right
