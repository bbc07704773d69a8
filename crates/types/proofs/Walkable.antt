-- What a walk goes by in a ready table: the type of a row and the rows that it refers to, in the numbers of the row's word.
-- Assumes nothing.
use mathlib.Core.Path.{◌≡◌, refl, sym, ap, ap₂, subst, ◌∙◌, fun_ext}
use mathlib.Core.Bool.{Bool, true, false, cond}
use mathlib.Core.List.{List}
use Prim.Native.Nat.{ℕ, zero, suc, ◌+◌, ◌-◌, ◌/◌, ◌%◌, ◌<◌, ◌≤◌, min}
use native.Mathlib.Omega.{arith}
use borrow.Author.Tests.{lt-ltb, eq-eqb, ne_eqb, eqb-true}
use lib.Dec.{T, eqb, ltb, eqb→eq, ltb→lt}
use lib.ListN.{length}
use Rattle.types.specs.Shape.{Ty, field, told}
use Rattle.types.specs.Shape.Ty.{num, seq, choice, list}
use Rattle.types.specs.Row.{Row, span_of}
use Rattle.types.specs.Kinds as kinds
use Rattle.types.specs.Columns as columns
use Rattle.types.specs.Table.{bias, kind_room, mark_from, mark_room, first_from, first_room, count_from, count_room, spared_from, words_from, word_at, low_in, span_in, is_plain, options_of, column, lowest_of, row_at, first_edition, root_at, value_outside, fields_of, alts_of, body_of, type_by, type_of}
use Rattle.types.specs.Rule.{reach, parts, opens, are_of, is_coded, is_type, marked}
use Rattle.types.specs.Ready.{Ready, Direct, TypeRow, PartRows}
use Rattle.types.proofs.Rule.{left, rest}
use Rattle.types.proofs.Depth.{reach_part, type_by_lem}
use Rattle.types.proofs.Words.{word_kind, word_mark, word_first, word_count, word_low, word_span}
use Rattle.types.proofs.Steps.{span_column, root_mark, type_plain, body_number, body_sequence, body_choice, body_list}

-- of some components, the first and those behind it
parts_first : (kind : ℕ) (table : ℕ → Row) (f n : ℕ) → 0 < n → T (are_of kind table f n) → (table f).kind ≡ kind
unfolding are_of
parts_first kind table f zero h t = absurd (omega arith)
parts_first kind table f (suc n) h t = eqb→eq (table f).kind kind (left (eqb (table f).kind kind) (are_of kind table (f + 1) n) t)

parts_more : (kind : ℕ) (table : ℕ → Row) (f n : ℕ) → 0 < n → T (are_of kind table f n) → T (are_of kind table (f + 1) (n - 1))
unfolding are_of
parts_more kind table f zero h t = absurd (omega arith)
parts_more kind table f (suc n) h t = let e : n ≡ suc n - 1 = omega arith in subst (λ (m : ℕ). T (are_of kind table (f + 1) m)) e (rest (eqb (table f).kind kind) (are_of kind table (f + 1) n) t)

parts_behind : (kind : ℕ) (table : ℕ → Row) (k f n : ℕ) → k ≤ n → T (are_of kind table f n) → T (are_of kind table (f + k) (n - k))
parts_behind kind table zero f n h t = let e : f ≡ f + 0 = omega arith in let d : n ≡ n - 0 = omega arith in subst (λ (m : ℕ). T (are_of kind table m (n - 0))) e (subst (λ (m : ℕ). T (are_of kind table f m)) d t)
parts_behind kind table (suc k) f n h t =
    let e : f + 1 + k ≡ f + suc k = omega arith in
    let d : n - 1 - k ≡ n - suc k = omega arith in
    subst (λ (m : ℕ). T (are_of kind table m (n - suc k))) e (subst (λ (m : ℕ). T (are_of kind table (f + 1 + k) m)) d (parts_behind kind table k (f + 1) (n - 1) (omega arith) (parts_more kind table f n (omega arith) t)))

-- of n components from row f, how many are OPTIONAL: by the first, and by those behind it
options_step : (table : ℕ → Row) (f n : ℕ) → 0 < n → options_of table f n ≡ cond (eqb (table f).mark 0) (options_of table (f + 1) (n - 1)) (suc (options_of table (f + 1) (n - 1)))
unfolding options_of
options_step table f zero h = absurd (omega arith)
options_step table f (suc n) h = let e : n ≡ suc n - 1 = omega arith in ap (λ (k : ℕ). cond (eqb (table f).mark 0) (options_of table (f + 1) k) (suc (options_of table (f + 1) k))) e

-- a plain row, in columns
plain_columns : (tb : List ℕ) (row : ℕ) → is_plain (row_at tb row) ≡ true → (column tb row columns.mark ≡ 0) × (column tb row columns.kind < kinds.sequence)
unfolding row_at
plain_columns tb row e = go (eqb (column tb row columns.mark) 0) refl e
  where
    go : (b : Bool) → eqb (column tb row columns.mark) 0 ≡ b → cond b (ltb (column tb row columns.kind) kinds.sequence) false ≡ true → (column tb row columns.mark ≡ 0) × (column tb row columns.kind < kinds.sequence)
    go true m k = (eqb-true (column tb row columns.mark) 0 m, ltb→lt (column tb row columns.kind) kinds.sequence (subst T (sym k) tt))
    go false m k = absurd (let z : ◌≡◌ {A = ℕ} 0 1 = cc in omega arith)

-- whole numbers, enumerations and choices are coded
coded_number : (r : Row) → r.kind < kinds.sequence → T (is_coded r)
unfolding is_coded
coded_number r h = rw (lt-ltb r.kind kinds.sequence h) tt

coded_choice : (r : Row) → r.kind ≡ kinds.choice → T (is_coded r)
unfolding is_coded
coded_choice r e = rw e tt

-- a type that is no selector is of a kind before the components
type_kind : (r : Row) → T (is_type r) → (r.kind ≡ kinds.selector → ⊥) → r.kind < kinds.component
type_kind r t other = go (ltb r.kind kinds.component) refl t
  where
    go : (b : Bool) → ltb r.kind kinds.component ≡ b → T (cond b true (eqb r.kind kinds.selector)) → r.kind < kinds.component
    go true e u = ltb→lt r.kind kinds.component (subst T (sym e) tt)
    go false e u = absurd (other (eqb→eq r.kind kinds.selector u))

-- what edition 1 leaves as it is has no mark above 1 and is no selector
root_known : (r : Row) → first_edition r ≡ r → (r.mark ≤ 1) × (r.kind ≡ kinds.selector → ⊥)
unfolding first_edition
root_known r e =
    let m : min r.mark 1 ≡ r.mark = ap (λ (q : Row). q.mark) e in
    (omega arith, λ is. let k : cond (eqb r.kind kinds.selector) kinds.known r.kind ≡ r.kind = ap (λ (q : Row). q.kind) e in let z : kinds.known ≡ r.kind = rw (eq-eqb r.kind kinds.selector is) at k in omega arith)

module _ {tb : List ℕ} (R : Ready tb) where
  -- the types of the rows, as edition 1 takes them
  abbrev pub look : ℕ → Ty
  look = type_of (root_at tb)

  same : root_at tb ≡ row_at tb
  same = fun_ext R.root

  marks : (i : ℕ) → T (marked (root_at tb i))
  marks i = subst (λ (r : Row). T (marked r)) (sym (R.root i)) (rw (lt-ltb (row_at tb i).mark 2 (omega (arith, (root_known (row_at tb i) (R.root i)).0))) tt)

  pub ready_type : (row : ℕ) → look row ≡ type_by (root_at tb) look row (root_at tb row)
  ready_type =
      type_by_lem (root_at tb)
      (subst (λ (table : ℕ → Row). (i : ℕ) → reach (table i) ≤ i) (sym same) R.smaller)
      (subst (λ (table : ℕ → Row). (i : ℕ) → T (are_of kinds.component table (table i).first (parts (table i)))) (sym same) R.components)
      (subst (λ (table : ℕ → Row). (i : ℕ) → T (are_of kinds.known table ((table i).first + parts (table i)) (opens (table i)))) (sym same) R.additions)
      marks

  -- ---- a row that is a type

  pub row_small : {row : ℕ} → TypeRow tb row → row < first_room
  row_small t = omega (arith, R.few, t.there)

  module _ {row : ℕ} (t : TypeRow tb row) {word : ℕ} (e : word ≡ word_at tb row) where
    kind_is : word % kind_room ≡ column tb row columns.kind
    kind_is = ap (λ (w : ℕ). w % kind_room) e ∙ sym (word_kind tb row t.there)

    kind_of : (row_at tb row).kind ≡ word % kind_room
    unfolding row_at
    kind_of = sym kind_is

    pub kind_small : word % kind_room < kinds.component
    kind_small = omega (arith, kind_of, type_kind (row_at tb row) t.is (root_known (row_at tb row) (R.root row)).1)

    own : word_at tb row % kind_room ≡ kinds.component → ⊥
    own is = let k = kind_small in omega (arith, ap (λ (w : ℕ). w % kind_room) e)

    low_is : low_in tb word ≡ column tb row columns.lowest
    low_is = ap (low_in tb) e ∙ sym (word_low tb row t.there own)

    span_is : span_in tb word ≡ column tb row columns.span
    span_is = ap (span_in tb) e ∙ sym (word_span tb row t.there own)

    first_is : word / first_from % first_room ≡ column tb row columns.first
    first_is = ap (λ (w : ℕ). w / first_from % first_room) e ∙ sym (word_first tb row t.there)

    count_is : word / count_from % count_room ≡ column tb row columns.count
    count_is = ap (λ (w : ℕ). w / count_from % count_room) e ∙ sym (word_count tb row t.there)

    pub mark_is : word / mark_from % mark_room ≡ column tb row columns.mark
    mark_is = ap (λ (w : ℕ). w / mark_from % mark_room) e ∙ sym (word_mark tb row t.there)

    abbrev body : Ty
    body = body_of (root_at tb) look row (root_at tb row)

    pub number_body : word % kind_room < kinds.sequence → body ≡ num (told (value_outside (column tb row columns.kind)) row (field (lowest_of (low_in tb word)) (span_in tb word)))
    number_body h = body_number tb look row refl low_is span_is (omega (arith, kind_is))

    -- its value takes at least one bit
    pub number_wide : word % kind_room < kinds.sequence → 0 < span_in tb word
    number_wide h = omega (arith, R.wide row t.there (coded_number (row_at tb row) (omega (arith, kind_of))), span_is)

    pub choice_wide : word % kind_room ≡ kinds.choice → 0 < span_in tb word
    choice_wide is = omega (arith, R.wide row t.there (coded_choice (row_at tb row) (kind_of ∙ is)), span_is)

    module _ (h : kinds.sequence ≤ word % kind_room) where
      pub sequence_body : word % kind_room ≡ kinds.sequence → body ≡ seq (fields_of (root_at tb) look (word / first_from % first_room) (word / count_from % count_room))
      sequence_body is = body_sequence tb look row kind_is h first_is count_is is

      module _ (a : word % kind_room ≡ kinds.sequence → ⊥) where
        pub choice_body : word % kind_room ≡ kinds.choice → body ≡ choice row (alts_of (root_at tb) look (word / first_from % first_room) (span_in tb word))
        choice_body is = body_choice tb look row kind_is h a first_is span_is is

        pub list_body : (word % kind_room ≡ kinds.choice → ⊥) → body ≡ list row (low_in tb word - bias) (span_in tb word) (look (word / first_from % first_room))
        list_body b = body_list tb look row kind_is h a low_is span_is first_is b

    -- the rows that it refers to

    first_of : (row_at tb row).first ≡ word / first_from % first_room
    unfolding row_at
    first_of = sym first_is

    count_of : (row_at tb row).count ≡ word / count_from % count_room
    unfolding row_at
    count_of = sym count_is

    span_of_lem : span_of (row_at tb row) ≡ span_in tb word
    span_of_lem = span_column tb row ∙ sym span_is

    module _ (is : word % kind_room ≡ kinds.sequence) where
      sequence_reach : reach (row_at tb row) ≡ word / first_from % first_room + word / count_from % count_room + span_in tb word
      unfolding reach
      sequence_reach = rw (kind_of ∙ is, first_of, count_of, span_of_lem)

      sequence_made : parts (row_at tb row) ≡ word / count_from % count_room
      unfolding parts
      sequence_made = rw (kind_of ∙ is) count_of

      pub sequence_below : word / first_from % first_room + word / count_from % count_room ≤ row
      sequence_below = omega (arith, R.smaller row, sequence_reach)

      pub sequence_parts : PartRows tb (word / first_from % first_room) (word / count_from % count_room)
      sequence_parts =
          record {
            there = omega (arith, R.exists row, sequence_reach);
            are = subst (λ (n : ℕ). T (are_of kinds.component (row_at tb) (word / first_from % first_room) n)) sequence_made (subst (λ (f : ℕ). T (are_of kinds.component (row_at tb) f (parts (row_at tb row)))) first_of (R.components row));
          }

      pub sequence_options : word / spared_from ≡ options_of (root_at tb) (word / first_from % first_room) (word / count_from % count_room)
      sequence_options = ap (λ (w : ℕ). w / spared_from) e ∙ R.options row (kind_of ∙ is) ∙ ap (λ (table : ℕ → Row). options_of table (row_at tb row).first (row_at tb row).count) (sym same) ∙ ap₂ (options_of (root_at tb)) first_of count_of

    module _ (is : word % kind_room ≡ kinds.choice) where
      choice_reach : reach (row_at tb row) ≡ word / first_from % first_room + (span_in tb word + 1) + word / count_from % count_room
      unfolding reach
      choice_reach = rw (kind_of ∙ is, first_of, count_of, span_of_lem)

      choice_made : parts (row_at tb row) ≡ span_in tb word + 1
      unfolding parts
      choice_made = rw (kind_of ∙ is) (ap (λ (n : ℕ). n + 1) span_of_lem)

      pub choice_below : word / first_from % first_room + (span_in tb word + 1) ≤ row
      choice_below = omega (arith, R.smaller row, choice_reach)

      pub choice_parts : PartRows tb (word / first_from % first_room) (span_in tb word + 1)
      choice_parts =
          record {
            there = omega (arith, R.exists row, choice_reach);
            are = subst (λ (n : ℕ). T (are_of kinds.component (row_at tb) (word / first_from % first_room) n)) choice_made (subst (λ (f : ℕ). T (are_of kinds.component (row_at tb) f (parts (row_at tb row)))) first_of (R.components row));
          }

    module _ (h : kinds.sequence ≤ word % kind_room) (a : word % kind_room ≡ kinds.sequence → ⊥) (b : word % kind_room ≡ kinds.choice → ⊥) where
      list_kind : (row_at tb row).kind ≡ kinds.list
      list_kind = kind_of ∙ (let k = kind_small in two_left (word % kind_room) k h a b)
        where
          two_left : (k : ℕ) → k < kinds.component → kinds.sequence ≤ k → (k ≡ kinds.sequence → ⊥) → (k ≡ kinds.choice → ⊥) → k ≡ kinds.list
          two_left zero l m x y = absurd (omega arith)
          two_left (suc zero) l m x y = absurd (omega arith)
          two_left (suc (suc zero)) l m x y = absurd (x refl)
          two_left (suc (suc (suc zero))) l m x y = absurd (y refl)
          two_left (suc (suc (suc (suc zero)))) l m x y = refl
          two_left (suc (suc (suc (suc (suc k))))) l m x y = absurd (omega arith)

      list_reach : reach (row_at tb row) ≡ word / first_from % first_room + 1
      unfolding reach
      list_reach = rw (list_kind, first_of)

      pub list_below : word / first_from % first_room < row
      list_below = omega (arith, R.smaller row, list_reach)

      pub list_item : TypeRow tb (word / first_from % first_room)
      list_item = record { there = omega (arith, R.exists row, list_reach); is = subst (λ (f : ℕ). T (is_type (row_at tb f))) first_of (rw list_kind at (R.typed row)) }

      pub list_sized : bias ≤ low_in tb word
      list_sized = omega (arith, R.sized row list_kind, low_is)

  -- ---- components and alternatives

  pub parts_at : {f n : ℕ} (k : ℕ) → k ≤ n → PartRows tb f n → PartRows tb (f + k) (n - k)
  parts_at {f} {n} k h P = record { there = omega (arith, P.there); are = parts_behind kinds.component (row_at tb) k f n h P.are }

  module _ {g m : ℕ} (P : PartRows tb g m) (h : 0 < m) {word : ℕ} (e : word ≡ word_at tb g) where
    pub part_there : words_from + g < length tb
    part_there = omega (arith, P.there)

    part_kind : (row_at tb g).kind ≡ kinds.component
    part_kind = parts_first kinds.component (row_at tb) g m h P.are

    pub part_first : word / first_from % first_room ≡ column tb g columns.first
    part_first = ap (λ (w : ℕ). w / first_from % first_room) e ∙ sym (word_first tb g part_there)

    pub part_mark : word / mark_from % mark_room ≡ column tb g columns.mark
    part_mark = ap (λ (w : ℕ). w / mark_from % mark_room) e ∙ sym (word_mark tb g part_there)

    part_of : (row_at tb g).first ≡ word / first_from % first_room
    unfolding row_at
    part_of = sym part_first

    part_reach : reach (row_at tb g) ≡ word / first_from % first_room + 1
    part_reach = reach_part (row_at tb g) part_kind ∙ ap (λ (f : ℕ). f + 1) part_of

    pub part_below : word / first_from % first_room < g
    part_below = omega (arith, R.smaller g, part_reach)

    pub part_row_lem : TypeRow tb (word / first_from % first_room)
    part_row_lem = record { there = omega (arith, R.exists g, part_reach); is = subst (λ (f : ℕ). T (is_type (row_at tb f))) part_of (rw part_kind at (R.typed g)) }

    pub part_next : PartRows tb (g + 1) (m - 1)
    part_next = record { there = omega (arith, P.there); are = parts_more kinds.component (row_at tb) g m h P.are }

    -- how many are OPTIONAL, from here on
    pub options_none : word / mark_from % mark_room ≡ 0 → options_of (root_at tb) g m ≡ options_of (root_at tb) (g + 1) (m - 1)
    options_none z = options_step (root_at tb) g m h ∙ rw (root_mark tb g, sym part_mark ∙ z)

    pub options_one : (word / mark_from % mark_room ≡ 0 → ⊥) → options_of (root_at tb) g m ≡ suc (options_of (root_at tb) (g + 1) (m - 1))
    options_one z = options_step (root_at tb) g m h ∙ rw (root_mark tb g, ← part_mark, ne_eqb (word / mark_from % mark_room) 0 z)

    module _ (some : 0 < word / spared_from) where
      abbrev type : ℕ
      type = word / first_from % first_room

      own_bounds : Direct tb g
      own_bounds = R.direct g part_kind (omega (arith, ap (λ (w : ℕ). w / spared_from) e))

      direct_plain : (column tb type columns.mark ≡ 0) × (column tb type columns.kind < kinds.sequence)
      direct_plain = plain_columns tb type (ap (λ (f : ℕ). is_plain (row_at tb f)) (sym part_of) ∙ own_bounds.plain)

      direct_span : span_in tb word ≡ column tb type columns.span
      direct_span = ap (span_in tb) e ∙ own_bounds.span ∙ ap (λ (f : ℕ). column tb f columns.span) part_of

      -- a component whose word spares the look at its type: a number with the bounds that stand in the word
      pub part_direct : look type ≡ num (told (value_outside (column tb type columns.kind)) type (field (lowest_of (low_in tb word)) (span_in tb word)))
      part_direct =
          let low : low_in tb word ≡ column tb type columns.lowest = ap (low_in tb) e ∙ own_bounds.low ∙ ap (λ (f : ℕ). column tb f columns.lowest) part_of in
          ready_type type ∙ type_plain tb look type refl direct_plain.0 ∙ body_number tb look type refl low direct_span direct_plain.1

      -- and its value takes at least one bit
      pub part_wide : 0 < span_in tb word
      unfolding row_at
      part_wide = omega (arith, R.wide type part_row_lem.there (coded_number (row_at tb type) direct_plain.1), direct_span)
