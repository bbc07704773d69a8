-- A table of numbers that a walk can go by without looking twice: it keeps the rule, has only what edition 1 has, and what its words spare a walk is right.
use Rattle.std.specs.Prelude.{ℕ, ◌+◌, ◌/◌, ◌≤◌, ◌<◌, List, true, cond, ◌≡◌, length, T}
use Rattle.types.specs.Kinds as kinds
use Rattle.types.specs.Columns as columns
use Rattle.types.specs.Table.{bias, words_from, first_room, spared_from, word_at, low_in, span_in, column, row_at, root_at, is_plain, options_of}
use Rattle.types.specs.Rule.{reach, parts, opens, are_of, is_coded, is_type, has_type}

-- what the word of a row spares a walk to find out
abbrev pub spared_at : List ℕ → ℕ → ℕ
spared_at tb row = word_at tb row / spared_from

-- the word of a component has the bounds of its type, which is one field
pub record Direct (tb : List ℕ) (row : ℕ) : Type 0 where
  pub plain : is_plain (row_at tb (row_at tb row).first) ≡ true
  pub low : low_in tb (word_at tb row) ≡ column tb (row_at tb row).first columns.lowest
  pub span : span_in tb (word_at tb row) ≡ column tb (row_at tb row).first columns.span

pub record Ready (tb : List ℕ) : Type 0 where
  pub bounded : words_from ≤ length tb  -- all bounds are there
  pub few : length tb ≤ words_from + first_room  -- and no more rows than a word has room for
  pub smaller : (i : ℕ) → reach (row_at tb i) ≤ i  -- a row refers only to rows with a smaller number
  pub exists : (i : ℕ) → words_from + reach (row_at tb i) ≤ length tb  -- and those exist
  pub components : (i : ℕ) → T (are_of kinds.component (row_at tb) (row_at tb i).first (parts (row_at tb i)))  -- a sequence and a choice are made of components
  pub additions : (i : ℕ) → T (are_of kinds.known (row_at tb) ((row_at tb i).first + parts (row_at tb i)) (opens (row_at tb i)))  -- behind them stand the open values that are known
  pub typed : (i : ℕ) → T (cond (has_type (row_at tb i)) (is_type (row_at tb (row_at tb i).first)) true)  -- an item and a component's type is a type
  pub root : (i : ℕ) → root_at tb i ≡ row_at tb i  -- no extension bit gives a cell, and no number chooses an open value
  pub wide : (i : ℕ) → words_from + i < length tb → T (is_coded (row_at tb i)) → 0 < column tb i columns.span  -- a value or an index takes at least one bit
  pub sized : (i : ℕ) → (row_at tb i).kind ≡ kinds.list → bias ≤ column tb i columns.lowest  -- a size is not negative
  pub direct : (i : ℕ) → (row_at tb i).kind ≡ kinds.component → 0 < spared_at tb i → Direct tb i  -- of a component, that its word has its type's bounds
  pub options : (i : ℕ) → (row_at tb i).kind ≡ kinds.sequence → spared_at tb i ≡ options_of (row_at tb) (row_at tb i).first (row_at tb i).count  -- of a sequence, how many components are OPTIONAL

-- ---- what a walk has in hand

-- a row that is a type
pub record TypeRow (tb : List ℕ) (row : ℕ) : Type 0 where
  pub there : words_from + row < length tb
  pub is : T (is_type (row_at tb row))

-- n components or alternatives from row f on
pub record PartRows (tb : List ℕ) (f n : ℕ) : Type 0 where
  pub there : words_from + (f + n) ≤ length tb
  pub are : T (are_of kinds.component (row_at tb) f n)
