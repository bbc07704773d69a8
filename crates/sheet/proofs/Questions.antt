-- What the questions about a choice and a list answer, in the numbers of the table that the code reads.
-- Assumes nothing.
use Prim.Native.Nat.{ℕ, ◌+◌, ◌-◌, ◌<◌, ◌≤◌}
use native.Mathlib.Nat.{add-zero}
use native.Mathlib.Omega.{arith}
use mathlib.Core.Path.{◌≡◌, refl, sym, ap, ◌∙◌}
use mathlib.Core.List.{List}
use borrow.Author.Tests.{lt-ltb, le-ltb, eq-eqb, ne_eqb}
use lib.IntN.{ℤ, pos}
use lib.ListN.{length}
use Rattle.std.specs.Prelude.{Result, Ok, Err}
use Rattle.basics.specs.Lists.{natural}
use Rattle.answers.specs.declared.Refusal.{Refusal}
use Rattle.answers.specs.Refusals.{unknown_type, no_value}
use Rattle.types.specs.Shape.{field}
use Rattle.types.specs.Columns as columns
use Rattle.types.specs.Kinds as kinds
use Rattle.types.specs.Table.{bias, column, row_at}
use Rattle.types.proofs.Steps.{sub_natural, span_column}
use Rattle.meaning.specs.Writing.{write_whole}
use Rattle.walking.specs.Walked.{sized}
use Rattle.sheet.specs.Moving.{number_by, choice_by, chosen_at, listed_by, entries_at}
use Rattle.sheet.proofs.Cells.{Counted, counted_ok, counted_no}

module _ (tb : List ℕ) (cells : List ℤ) (row place : ℕ) {kind : ℕ} (ek : kind ≡ column tb row columns.kind) where
  kind_is : (row_at tb row).kind ≡ kind
  unfolding row_at
  kind_is = sym ek

  -- ---- a choice

  pub chosen_unknown : {why : Refusal} → (kind ≡ kinds.choice → ⊥) → why ≡ unknown_type → Err why ≡ chosen_at tb row cells place
  unfolding chosen_at row_at
  chosen_unknown isnt ew = rw (← ek, ne_eqb kind kinds.choice isnt) (ap Err ew)

  module _ (is : kind ≡ kinds.choice) {span : ℕ} (es : span ≡ column tb row columns.span) {r : Result ℕ Refusal} (er : r ≡ number_by 0 (write_whole (field (pos 0) span) cells place)) where
    chosen_by : chosen_at tb row cells place ≡ choice_by tb (row_at tb row).first (write_whole (field (pos 0) span) cells place)
    unfolding chosen_at
    chosen_by = rw (kind_is, is, span_column tb row, ← es) refl

    pub chosen_refused : {why : Refusal} → r ≡ Err why → Err why ≡ chosen_at tb row cells place
    unfolding choice_by
    chosen_refused e = sym (chosen_by ∙ rw (counted_no cells place 0 span er e) refl)

    pub index_counted : {index : ℕ} → r ≡ Ok index → Counted cells place 0 span index
    index_counted e = counted_ok cells place 0 span er e

    pub chosen_of : {index first t : ℕ} → r ≡ Ok index → first ≡ column tb row columns.first → t ≡ column tb (first + index) columns.first → Ok (record { index = index; row = t; place = place + 1 }) ≡ chosen_at tb row cells place
    unfolding choice_by row_at
    chosen_of {index} e ef et =
        let C = counted_ok cells place 0 span er e in
        let same : C.more ≡ index = omega (arith, C.sum) in
        sym (chosen_by ∙ rw (C.is, same, ← ef, ← et) refl)

  -- ---- a list

  pub entries_unknown : {why : Refusal} → (kind ≡ kinds.list → ⊥) → why ≡ unknown_type → Err why ≡ entries_at tb row cells place
  unfolding entries_at row_at
  entries_unknown isnt ew = rw (← ek, ne_eqb kind kinds.list isnt) (ap Err ew)

  module _ (is : kind ≡ kinds.list) where
    pub entries_behind : {why : Refusal} → length cells < place → why ≡ no_value (length cells) → Err why ≡ entries_at tb row cells place
    unfolding entries_at row_at
    entries_behind h ew = rw (← ek, eq-eqb kind kinds.list is, lt-ltb (length cells) place h) (ap Err ew)

    module _ (h : place ≤ length cells) {low least span item : ℕ} (el : low ≡ column tb row columns.lowest) (elo : least ≡ low - bias) (es : span ≡ column tb row columns.span) (ei : item ≡ column tb row columns.first) where
      least_is : natural (row_at tb row).lowest ≡ least
      unfolding row_at
      least_is = sub_natural (column tb row columns.lowest) bias ∙ ap (λ (n : ℕ). n - bias) (sym el) ∙ sym elo

      item_is : (row_at tb row).first ≡ item
      unfolding row_at
      item_is = sym ei

      entries_by : entries_at tb row cells place ≡ listed_by item least (sized span (write_whole (field (pos least) span) cells) place)
      unfolding entries_at
      entries_by = rw (kind_is, is, le-ltb (length cells) place h, least_is, span_column tb row, ← es, item_is) refl

      pub entries_fixed : span ≡ 0 → Ok (record { count = least; row = item; place = place }) ≡ entries_at tb row cells place
      unfolding sized listed_by
      entries_fixed z = sym (entries_by ∙ rw z (ap (λ (n : ℕ). Ok (record { count = n; row = item; place = place })) (add-zero least)))

      module _ (isnt : span ≡ 0 → ⊥) {r : Result ℕ Refusal} (er : r ≡ number_by least (write_whole (field (pos least) span) cells place)) where
        entries_sized : entries_at tb row cells place ≡ listed_by item least (write_whole (field (pos least) span) cells place)
        unfolding sized
        entries_sized = entries_by ∙ rw (ne_eqb span 0 isnt) refl

        pub entries_refused : {why : Refusal} → r ≡ Err why → Err why ≡ entries_at tb row cells place
        unfolding listed_by
        entries_refused e = sym (entries_sized ∙ rw (counted_no cells place least span er e) refl)

        pub size_counted : {count : ℕ} → r ≡ Ok count → Counted cells place least span count
        size_counted e = counted_ok cells place least span er e

        pub entries_of : {count : ℕ} → r ≡ Ok count → Ok (record { count = count; row = item; place = place + 1 }) ≡ entries_at tb row cells place
        unfolding listed_by
        entries_of e = let C = counted_ok cells place least span er e in sym (entries_sized ∙ rw (C.is, ← C.sum) refl)
