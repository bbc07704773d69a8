-- `types::column` meets its contract: what each column takes from the word of the row; 0 past the end, and behind the last column.
-- Assumes nothing.
use mathlib.Core.Path.{◌≡◌, sym, ap, ◌∙◌}
use mathlib.Core.List.{List}
use Prim.Native.Nat.{ℕ, ◌+◌, ◌%◌, ◌<◌, ◌≤◌}
use native.Mathlib.Omega.{arith}
use lib.ListN.{length, get_or, get_or-eq_default}
use Rattle.types.specs.Columns as columns
use Rattle.types.specs.Kinds as kinds
use Rattle.types.specs.Table.{bias, kind_room, words_from, word_at, low_in, span_in, unpacked, column}
use borrow.Author.Tests.{lt-ltb, le-ltb, eq-eqb, ne_eqb}
use Rattle.types.proofs.column.Goals.{then-rows-le-WORDS_FROM-via-then-rows-le-WORDS_FROM, then-rows-le-WORDS_FROM-via-else-rows-le-WORDS_FROM+then-rows-row}
use Rattle.types.proofs.column.Goals as goal

module _ (tb : List ℕ) (row : ℕ) where
  module _ {w k : ℕ} (h : words_from + row < length tb) (ew : w ≡ word_at tb row) where
    -- where the row has a word, column k is number k of those that the word stands for
    there : {n : ℕ} → k ≡ n → get_or (unpacked tb w) n 0 ≡ column tb row k
    unfolding column
    there {n} e = ap (λ (x : ℕ). get_or (unpacked tb x) n 0) ew ∙ rw (e, lt-ltb (words_from + row) (length tb) h)

    -- a component has no bounds of its own
    low_none : w % kind_room ≡ kinds.component → k ≡ columns.lowest → bias ≡ column tb row k
    unfolding column
    low_none is e = rw (e, lt-ltb (words_from + row) (length tb) h, ← ew, eq-eqb (w % kind_room) kinds.component is)

    low_there : (w % kind_room ≡ kinds.component → ⊥) → k ≡ columns.lowest → low_in tb w ≡ column tb row k
    unfolding column
    low_there is e = rw (e, lt-ltb (words_from + row) (length tb) h, ← ew, ne_eqb (w % kind_room) kinds.component is)

    span_none : w % kind_room ≡ kinds.component → k ≡ columns.span → 0 ≡ column tb row k
    unfolding column
    span_none is e = rw (e, lt-ltb (words_from + row) (length tb) h, ← ew, eq-eqb (w % kind_room) kinds.component is)

    span_there : (w % kind_room ≡ kinds.component → ⊥) → k ≡ columns.span → span_in tb w ≡ column tb row k
    unfolding column
    span_there is e = rw (e, lt-ltb (words_from + row) (length tb) h, ← ew, ne_eqb (w % kind_room) kinds.component is)

  past : (k : ℕ) → length tb ≤ words_from + row → 0 ≡ column tb row k
  unfolding column
  past k h = rw (le-ltb (words_from + row) (length tb) h)

  behind : (k : ℕ) → words_from + row < length tb → 6 ≤ k → 0 ≡ column tb row k
  unfolding column
  behind k h l = rw (lt-ltb (words_from + row) (length tb) h) (sym (get_or-eq_default (unpacked tb (word_at tb row)) 0 l))

pub returns-then-rows-le-WORDS_FROM-clause-is : goal.returns-then-rows-le-WORDS_FROM-clause-is
returns-then-rows-le-WORDS_FROM-clause-is c = past _ _ _ (elim c.then-rows-le-WORDS_FROM.branch [ then-rows-le-WORDS_FROM-via-then-rows-le-WORDS_FROM w ↦ omega arith | then-rows-le-WORDS_FROM-via-else-rows-le-WORDS_FROM+then-rows-row w ↦ omega arith ])

pub returns-in-0-clause-is : goal.returns-in-0-clause-is
returns-in-0-clause-is c = there _ _ (omega arith) c.word_at-word.ensures.0 c.in-0.is

pub returns-in-1-clause-is : goal.returns-in-1-clause-is
returns-in-1-clause-is c = there _ _ (omega arith) c.word_at-word.ensures.0 c.in-1.is

pub returns-in-2-clause-is : goal.returns-in-2-clause-is
returns-in-2-clause-is c = low_none _ _ (omega arith) c.word_at-word.ensures.0 c.if-kind-eq-COMPONENT.true c.in-2.is

pub returns-in-2-2-clause-is : goal.returns-in-2-2-clause-is
returns-in-2-2-clause-is c = c.low_in.ensures.0 ∙ low_there _ _ (omega arith) c.word_at-word.ensures.0 c.if-kind-eq-COMPONENT.false c.in-2.is

pub returns-in-3-clause-is : goal.returns-in-3-clause-is
returns-in-3-clause-is c = span_none _ _ (omega arith) c.word_at-word.ensures.0 c.if-kind-eq-COMPONENT-2.true c.in-3.is

pub returns-in-3-2-clause-is : goal.returns-in-3-2-clause-is
returns-in-3-2-clause-is c = c.span_in.ensures.0 ∙ span_there _ _ (omega arith) c.word_at-word.ensures.0 c.if-kind-eq-COMPONENT-2.false c.in-3.is

pub returns-in-4-clause-is : goal.returns-in-4-clause-is
returns-in-4-clause-is c = there _ _ (omega arith) c.word_at-word.ensures.0 c.in-4.is

pub returns-in-5-clause-is : goal.returns-in-5-clause-is
returns-in-5-clause-is c = there _ _ (omega arith) c.word_at-word.ensures.0 c.in-5.is

pub returns-in_default-clause-is : goal.returns-in_default-clause-is
returns-in_default-clause-is c = behind _ _ _ (omega arith) (omega (arith, c.in_default))
