-- The columns of a row, in the word of the row.
-- Assumes nothing.
use mathlib.Core.Path.{◌≡◌}
use mathlib.Core.List.{List}
use Prim.Native.Nat.{ℕ, ◌+◌, ◌/◌, ◌%◌, ◌<◌}
use lib.ListN.{length}
use borrow.Author.Tests.{lt-ltb, ne_eqb}
use Rattle.types.specs.Kinds as kinds
use Rattle.types.specs.Columns as columns
use Rattle.types.specs.Table.{kind_room, mark_from, mark_room, first_from, first_room, count_from, count_room, words_from, word_at, low_in, span_in, column}

module _ (tb : List ℕ) (row : ℕ) (there : words_from + row < length tb) where
  pub word_kind : column tb row columns.kind ≡ word_at tb row % kind_room
  unfolding column
  word_kind = rw (lt-ltb (words_from + row) (length tb) there)

  pub word_mark : column tb row columns.mark ≡ word_at tb row / mark_from % mark_room
  unfolding column
  word_mark = rw (lt-ltb (words_from + row) (length tb) there)

  pub word_first : column tb row columns.first ≡ word_at tb row / first_from % first_room
  unfolding column
  word_first = rw (lt-ltb (words_from + row) (length tb) there)

  pub word_count : column tb row columns.count ≡ word_at tb row / count_from % count_room
  unfolding column
  word_count = rw (lt-ltb (words_from + row) (length tb) there)

  -- a row that is no component has the bounds in its word
  module _ (own : word_at tb row % kind_room ≡ kinds.component → ⊥) where
    pub word_low : column tb row columns.lowest ≡ low_in tb (word_at tb row)
    unfolding column
    word_low = rw (lt-ltb (words_from + row) (length tb) there, ne_eqb (word_at tb row % kind_room) kinds.component own)

    pub word_span : column tb row columns.span ≡ span_in tb (word_at tb row)
    unfolding column
    word_span = rw (lt-ltb (words_from + row) (length tb) there, ne_eqb (word_at tb row % kind_room) kinds.component own)
