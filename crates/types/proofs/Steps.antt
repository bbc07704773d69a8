-- The type of a row, one step at a time, in the numbers of any flat table as edition 1 takes it: what a reader or a writer that walks the table goes by.
-- Assumes nothing.
use mathlib.Core.Path.{◌≡◌, refl, sym, ap, ◌∙◌}
use mathlib.Core.Bool.{cond}
use mathlib.Core.List.{List}
use Prim.Native.Nat.{ℕ, zero, suc, ◌+◌, ◌-◌, ◌<◌, ◌≤◌, min}
use native.Mathlib.Decide.{dec_lt}
use native.Mathlib.Omega.{arith}
use borrow.Author.Tests.{lt-ltb, le-ltb, eq-eqb, ne_eqb}
use lib.Dec.{eqb}
use lib.IntN.{ℤ, pos, sub_ℕ, ◌-ℤ◌, +ℤ_comm, +ℤ-neg_ℤ_cancel, pos-+ℤ-pos}
use Rattle.types.specs.Shape.{Ty, field, told, last}
use Rattle.types.specs.Shape.Ty.{num, seq, choice, list, ext}
use Rattle.types.specs.Shape.Fields.{none, must, may}
use Rattle.types.specs.Row.{Row, span_of}
use Rattle.basics.specs.Lists.{natural}
use Rattle.types.specs.Kinds as kinds
use Rattle.types.specs.Columns as columns
use Rattle.types.specs.Table.{bias, column, lowest_of, row_at, first_edition, root_at, value_outside, fields_of, alts_of, body_of, type_by, type_at}

-- ---- a row's span and least size, as columns

pub sub_natural : (a b : ℕ) → natural (sub_ℕ a b) ≡ a - b
sub_natural a b = elim (dec_lt a b) [ yes h ↦ rw (lt-ltb a b h) (omega arith) | no h ↦ rw (le-ltb a b (omega arith)) ]

pub span_column : (tb : List ℕ) (row : ℕ) → span_of (row_at tb row) ≡ column tb row columns.span
unfolding row_at
span_column tb row = ap natural (ap (λ (z : ℤ). z -ℤ lowest_of (column tb row columns.lowest)) (+ℤ_comm (lowest_of (column tb row columns.lowest)) (pos (column tb row columns.span))) ∙ +ℤ-neg_ℤ_cancel (pos (column tb row columns.span)) (lowest_of (column tb row columns.lowest)))

-- ---- a row as edition 1 takes it, in columns

module _ (tb : List ℕ) (row : ℕ) where
  pub root_span : span_of (root_at tb row) ≡ column tb row columns.span
  unfolding first_edition
  root_span = span_column tb row

  pub root_first : (root_at tb row).first ≡ column tb row columns.first
  unfolding first_edition row_at
  root_first = refl

  pub root_count : (root_at tb row).count ≡ column tb row columns.count
  unfolding first_edition row_at
  root_count = refl

  -- a mark, asked whether it is 0
  pub root_mark : eqb (root_at tb row).mark 0 ≡ eqb (column tb row columns.mark) 0
  unfolding first_edition row_at
  root_mark = go (column tb row columns.mark)
    where
      go : (m : ℕ) → eqb (min m 1) 0 ≡ eqb m 0
      go zero = refl
      go (suc m) = let e : min (suc m) 1 ≡ 1 = omega arith in rw (e, ne_eqb (suc m) 0 (λ z. omega arith))

  -- a kind, asked for one that edition 1 has
  pub root_kind : {kind : ℕ} → kind ≡ column tb row columns.kind → (kind ≡ kinds.selector → ⊥) → (root_at tb row).kind ≡ kind
  unfolding first_edition row_at
  root_kind {kind} e h = rw (← e, ne_eqb kind kinds.selector h)

  pub root_selector : {kind : ℕ} → kind ≡ column tb row columns.kind → kind ≡ kinds.selector → (root_at tb row).kind ≡ kinds.known
  unfolding first_edition row_at
  root_selector {kind} e h = rw (← e, eq-eqb kind kinds.selector h)

-- ---- a row's type

pub type_none : (table : ℕ → Row) (d row : ℕ) → d ≡ 0 → type_at table d row ≡ seq none
unfolding type_at
type_none table d row e = rw e refl

pub type_step : (table : ℕ → Row) (d row : ℕ) → (d ≡ 0 → ⊥) → type_at table d row ≡ type_by table (type_at table (d - 1)) row (table row)
unfolding type_at
type_step table zero row h = absurd (h refl)
type_step table (suc d) row h = let e : d ≡ suc d - 1 = omega arith in ap (λ (k : ℕ). type_by table (type_at table k) row (table row)) e

module _ (tb : List ℕ) (look : ℕ → Ty) (row : ℕ) where
  abbrev here : Ty
  here = body_of (root_at tb) look row (root_at tb row)

  pub type_plain : {mark : ℕ} → mark ≡ column tb row columns.mark → mark ≡ 0 → type_by (root_at tb) look row (root_at tb row) ≡ here
  unfolding type_by
  type_plain e is = rw (root_mark tb row, ← e, is)

  pub type_extended : {mark : ℕ} → mark ≡ column tb row columns.mark → (mark ≡ 0 → ⊥) → type_by (root_at tb) look row (root_at tb row) ≡ ext here
  unfolding type_by first_edition row_at
  type_extended {mark} e h =
      let one : min mark 1 ≡ 1 = elim (dec_lt 0 mark) [ yes p ↦ omega arith | no p ↦ absurd (h (omega arith)) ] in
      rw (← e, one)

  module _ {kind : ℕ} (ek : kind ≡ column tb row columns.kind) where
    pub body_number : {low span : ℕ} → low ≡ column tb row columns.lowest → span ≡ column tb row columns.span → kind < kinds.sequence → here ≡ num (told (value_outside kind) row (field (lowest_of low) span))
    unfolding body_of first_edition row_at
    body_number {low} {span} el es h =
        let k : (root_at tb row).kind ≡ kind = root_kind tb row ek (λ e. omega arith) in
        rw (root_span tb row, k, ← el, ← es, lt-ltb kind kinds.sequence h)

    module _ (h : kinds.sequence ≤ kind) where
      pub body_sequence : {f n : ℕ} → f ≡ column tb row columns.first → n ≡ column tb row columns.count → kind ≡ kinds.sequence → here ≡ seq (fields_of (root_at tb) look f n)
      unfolding body_of
      body_sequence ef en is =
          let k : (root_at tb row).kind ≡ kind = root_kind tb row ek (λ e. omega arith) in
          rw (k, root_first tb row, root_count tb row, ← ef, ← en, le-ltb kind kinds.sequence h, eq-eqb kind kinds.sequence is)

      module _ (a : kind ≡ kinds.sequence → ⊥) where
        pub body_choice : {f n : ℕ} → f ≡ column tb row columns.first → n ≡ column tb row columns.span → kind ≡ kinds.choice → here ≡ choice row (alts_of (root_at tb) look f n)
        unfolding body_of
        body_choice ef en is =
            let k : (root_at tb row).kind ≡ kind = root_kind tb row ek (λ e. omega arith) in
            rw (root_span tb row, k, root_first tb row, ← ef, ← en, le-ltb kind kinds.sequence h, ne_eqb kind kinds.sequence a, eq-eqb kind kinds.choice is)

        -- whatever is neither of the others is a list
        pub body_list : {low span item : ℕ} → low ≡ column tb row columns.lowest → span ≡ column tb row columns.span → item ≡ column tb row columns.first → (kind ≡ kinds.choice → ⊥) → here ≡ list row (low - bias) span (look item)
        unfolding body_of first_edition row_at
        body_list {low} {span} {item} el es ei b = elim (dec_lt kind kinds.selector) [ yes p ↦ at kind (root_kind tb row ek (λ e. omega arith)) h a b (λ e. omega arith) | no q ↦ elim (dec_lt kinds.selector kind) [ yes p ↦ at kind (root_kind tb row ek (λ e. omega arith)) h a b (λ e. omega arith) | no p ↦ at kinds.known (root_selector tb row ek (omega arith)) (omega arith) (λ e. omega arith) (λ e. omega arith) (λ e. omega arith) ] ]
          where
            at : (k : ℕ) → (root_at tb row).kind ≡ k → kinds.sequence ≤ k → (k ≡ kinds.sequence → ⊥) → (k ≡ kinds.choice → ⊥) → (k ≡ kinds.selector → ⊥) → here ≡ list row (low - bias) span (look item)
            at k ik l x y z = rw (root_span tb row, ik, root_first tb row, ← el, ← es, ← ei, le-ltb k kinds.sequence l, ne_eqb k kinds.sequence x, ne_eqb k kinds.choice y, ne_eqb k kinds.selector z, sub_natural low bias)

-- ---- components and alternatives

module _ (tb : List ℕ) (look : ℕ → Ty) where
  pub fields_none : (f n : ℕ) → n ≡ 0 → fields_of (root_at tb) look f n ≡ none
  unfolding fields_of
  fields_none f n e = rw e refl

  pub fields_step : (f n : ℕ) → 0 < n
      → fields_of (root_at tb) look f n
      ≡ cond (eqb (column tb f columns.mark) 0) (must (look (column tb f columns.first)) (fields_of (root_at tb) look (f + 1) (n - 1))) (may (look (column tb f columns.first)) (fields_of (root_at tb) look (f + 1) (n - 1)))
  unfolding fields_of
  fields_step f zero h = absurd (omega arith)
  fields_step f (suc n) h = rw (root_mark tb f, root_first tb f) (let e : n ≡ suc n - 1 = omega arith in ap (λ (k : ℕ). cond (eqb (column tb f columns.mark) 0) (must (look (column tb f columns.first)) (fields_of (root_at tb) look (f + 1) k)) (may (look (column tb f columns.first)) (fields_of (root_at tb) look (f + 1) k))) e)

pub last_of : (table : ℕ → Row) (look : ℕ → Ty) (n f : ℕ) → last (alts_of table look f n) ≡ n
unfolding alts_of last
last_of table look zero f = refl
last_of table look (suc n) f = ap suc (last_of table look n (f + 1))

-- the least size, back from its distance
pub least_back : (least : ℕ) → lowest_of (least + bias) ≡ pos least
least_back least = ap (λ (z : ℤ). z -ℤ pos bias) (sym (pos-+ℤ-pos least bias)) ∙ +ℤ-neg_ℤ_cancel (pos least) (pos bias)
