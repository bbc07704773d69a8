-- What reading tells of a code outside its range (document 02, A2): never 4, but 41 to 44 with the row of a type whose kind the number says and whose range the code at the place is above; with any other number row 0.
-- Assumes nothing.
use Prim.Native.Nat.{ℕ, ◌+◌, ◌-◌, ◌<◌, ◌≤◌, ◌^◌}
use mathlib.Core.Path.{◌≡◌, refl, sym, subst, ◌∙◌}
use mathlib.Core.Bool.{Bool, true, false, cond}
use mathlib.Core.Logic.{◌⊎◌, inl, inr}
use mathlib.Core.List.{List, []}
use native.Mathlib.Decide.{dec_lt}
use native.Mathlib.Omega.{arith}
use borrow.Author.Tests.{lt-ltb, eq-eqb}
use lib.IntN.{ℤ}
use lib.Dec.{T, leb, ltb, eqb, ltb→lt, eqb→eq}
use lib.ListN.{length}
use Rattle.answers.specs.GivenBack as number
use Rattle.answers.specs.declared.Refusal.{Refusal}
use Rattle.answers.specs.Refusals.{naming, short_by}
use Rattle.basics.specs.Lists.{natural}
use Rattle.bits.specs.Numbers.{width, halvings, Binary}
use Rattle.bits.specs.Fetching.{field_bits, code}
use Rattle.bits.proofs.Bytes.{code_lt}
use Rattle.types.specs.Shape.{Ty, Field, index_in, size_in}
use Rattle.types.specs.Row.{Row, span_of}
use Rattle.types.specs.Kinds as kinds
use Rattle.types.specs.Rows.{rows, row_count}
use Rattle.types.specs.Table.{type_of, the_rows, value_in}
use Rattle.types.specs.Rule.{is_coded}
use Rattle.types.proofs.Rule.{rule_at, rows_right, rows_length}
use Rattle.meaning.specs.Values.{Value}
use Rattle.meaning.specs.Steps.{ok, refused, Step, pure, ◌>>=◌}
use Rattle.meaning.specs.Walk.{walk}
use Rattle.meaning.specs.Reading.{free, Source, source, within, part, read_whole, unextended, read_extension, reader, read}
use Rattle.meaning.proofs.Every.{Each, in_walk}
use Rattle.meaning.proofs.Sides.{whole_short, whole_outside, whole_read}
use Rattle.meaning.proofs.Tested.{all_rows, row_passes}
use Rattle.meaning.proofs.Plain.{plain_kind, row_plain, no_marks}
use Rattle.meaning.proofs.Owned.{Owns, Own, types_fit}
use Rattle.meaning.proofs.Numbers.{Refuses, refuses_then, refuses_test, unextended_refuses}
use Rattle.answers.specs.Reasons.{reason_number}
use Rattle.answers.specs.declared.reasons.Reason.TheVariants as reason

-- the number says the kind of the row
abbrev pub SaysKind : ℕ → ℕ → Type 0
SaysKind n kind =
    ((n ≡ number.number_outside) × (kind ≡ kinds.whole_number))
    ⊎ (((n ≡ number.item_outside) × (kind ≡ kinds.enumeration))
    ⊎ (((n ≡ number.alternative_outside) × (kind ≡ kinds.choice))
    ⊎ ((n ≡ number.size_outside) × (kind ≡ kinds.list))))

-- a refusal that names a row: the row is there and has the kind that the number says, its field is coded and wholly there at the place, and the code is above the row's range
pub record Names (bs : List ℕ) (why : Refusal) : Type 0 where
  pub there : why.row < row_count
  pub says : SaysKind (reason_number why.reason) (the_rows why.row).kind
  pub coded : 0 < span_of (the_rows why.row)
  pub held : width (span_of (the_rows why.row)) ≤ length bs - why.place
  pub above : span_of (the_rows why.row) < code bs why.place (width (span_of (the_rows why.row)))

-- 3 or 5 with row 0; or it names a row
abbrev pub Told : List ℕ → Refusal → Type 0
Told bs why = (((reason_number why.reason ≡ number.short) ⊎ (reason_number why.reason ≡ number.extended)) × (why.row ≡ 0)) ⊎ Names bs why

-- ---- the fields of a row

-- a field that a code of its bits can't be above; or one that belongs to a row, whose kind its number says
pub record Belongs (f : Field) : Type 0 where
  pub there : f.row < row_count
  pub says : SaysKind (reason_number f.outside) (the_rows f.row).kind
  pub coded : 0 < f.span
  pub span : f.span ≡ span_of (the_rows f.row)

abbrev Owned : Field → Type 0
Owned f = (f.span + 1 ≡ 2 ^ width f.span) ⊎ Belongs f

-- by one test, computed over all rows: what has values to tell apart is no component
field_row : Row → Bool
field_row r = cond (ltb 0 (span_of r)) (ltb r.kind kinds.component) true

rows_are : T (all_rows field_row rows)
unfolding rows all_rows field_row
rows_are = tt

-- the fields of a row belong to it
module _ (i : ℕ) (h : i < row_count) where
  abbrev r : Row
  r = the_rows i

  value_belongs : r.kind < kinds.sequence → 0 < span_of r → Belongs (value_in i r)
  value_belongs k c = record { there = h; says = go (eqb r.kind kinds.enumeration) refl; coded = c; span = refl }
    where
      go : (b : Bool) → eqb r.kind kinds.enumeration ≡ b → SaysKind (reason_number (cond b reason.ItemOutside reason.NumberOutside)) r.kind
      go true e = inr (inl (refl, eqb→eq r.kind kinds.enumeration (subst T (sym e) tt)))
      go false e = inl (refl, first r.kind k (λ z. subst T (sym (eq-eqb r.kind kinds.enumeration z) ∙ e) tt))
        where
          first : (n : ℕ) → n < kinds.sequence → (n ≡ kinds.enumeration → ⊥) → n ≡ kinds.whole_number
          first n l other = elim (dec_lt 0 n) [ yes p ↦ absurd (other (omega arith)) | no p ↦ omega arith ]

  index_belongs : r.kind ≡ kinds.choice → 0 < span_of r → Belongs (index_in i (span_of r))
  index_belongs e c = record { there = h; says = inr (inr (inl (refl, e))); coded = c; span = refl }

  size_belongs : r.kind ≡ kinds.list → 0 < span_of r → Belongs (size_in i (natural r.lowest) (span_of r))
  size_belongs e c = record { there = h; says = inr (inr (inr (refl, e))); coded = c; span = refl }

  only_list : (n : ℕ) → ltb n kinds.sequence ≡ false → eqb n kinds.sequence ≡ false → eqb n kinds.choice ≡ false → n < kinds.component → n ≡ kinds.list
  only_list n ea eb ec l =
      elim (dec_lt n kinds.sequence) [
        | yes p ↦ absurd (differ (lt-ltb n kinds.sequence p) ea)
        | no p ↦ elim (dec_lt kinds.sequence n) [
          | yes q ↦ elim (dec_lt kinds.choice n) [
            | yes u ↦ omega arith
            | no u ↦ absurd (differ (eq-eqb n kinds.choice (omega arith)) ec)
          ]
          | no q ↦ absurd (differ (eq-eqb n kinds.sequence (omega arith)) eb)
        ]
      ]
    where
      differ : {b : Bool} → b ≡ true → b ≡ false → ⊥
      differ e f = subst T (sym e ∙ f) tt

  own_fields : Own Owned ⊥ i r
  unfolding field_row is_coded
  own_fields =
      go (ltb r.kind kinds.sequence) refl (eqb r.kind kinds.sequence) refl (eqb r.kind kinds.choice) refl (eqb r.kind kinds.selector) refl
      (rule_at rows rows_right i held).coded (row_passes field_row rows rows_are i held) (plain_kind r (row_plain i))
    where
      held : i < length rows
      held = subst (λ (n : ℕ). i < n) (sym rows_length) h

      narrow : 0 < span_of r → (b : Bool) → ltb 0 (span_of r) ≡ b → T (cond b (ltb r.kind kinds.component) true) → r.kind < kinds.component
      narrow p true e t = ltb→lt r.kind kinds.component t
      narrow p false e t = absurd (subst T (sym (lt-ltb 0 (span_of r) p) ∙ e) tt)

      go : (a : Bool) → ltb r.kind kinds.sequence ≡ a → (b : Bool) → eqb r.kind kinds.sequence ≡ b → (c : Bool) → eqb r.kind kinds.choice ≡ c → (d : Bool) → eqb r.kind kinds.selector ≡ d
          → T (cond (cond a true (cond c true d)) (ltb 0 (span_of r)) true) → T (cond (ltb 0 (span_of r)) (ltb r.kind kinds.component) true) → T (cond d false true) → Owns Owned ⊥ i r a b c d
      go true ea b eb c ec d ed t v u = inr (value_belongs (ltb→lt r.kind kinds.sequence (subst T (sym ea) tt)) (ltb→lt 0 (span_of r) t))
      go false ea true eb c ec d ed t v u = tt
      go false ea false eb true ec d ed t v u = inr (index_belongs (eqb→eq r.kind kinds.choice (subst T (sym ec) tt)) (ltb→lt 0 (span_of r) t))
      go false ea false eb false ec true ed t v u = absurd u
      go false ea false eb false ec false ed t v u = λ p. inr (size_belongs (only_list r.kind ea eb ec (narrow p (ltb 0 (span_of r)) refl v)) p)

pub types_owned : (row : ℕ) → row < row_count → Each Owned ⊥ (type_of the_rows row)
types_owned row h =
    types_fit Owned ⊥ rows rows_right (λ i l. own_fields i (subst (λ (n : ℕ). i < n) rows_length l)) (λ i l m. absurd (no_marks i m)) (row + 1) row (subst (λ (n : ℕ). row < n) (sym rows_length) h)

-- ---- reading

module _ (bs : List ℕ) (binary : Binary bs) where
  whole_told : (f : Field) → Owned f → (i : ℕ) → Refuses (Told bs) (read_whole f (source bs free) i)
  whole_told f o i =
      let w = width f.span in
      elim (dec_lt (length bs - i) w) [
        | yes lacks ↦ rw (whole_short bs free f i tt lacks) (inl (inl refl, refl))
        | no q ↦ let held : w ≤ length bs - i = omega arith in elim (dec_lt f.span (code bs i w)) [
          | yes high ↦ rw (whole_outside bs free f i tt held high) (above o held high)
          | no v ↦ let fits : code bs i w ≤ f.span = omega arith in rw (whole_read bs free f i (code bs i w) tt held refl fits) tt
        ]
      ]
    where
      above : Owned f → width f.span ≤ length bs - i → f.span < code bs i (width f.span) → Told bs (naming f.outside f.row i)
      above (inl full) held high = absurd (omega (arith, full, code_lt bs binary i (width f.span) (width f.span) (omega arith)))
      above (inr b) held high =
          inr (record {
            there = b.there;
            says = b.says;
            coded = subst (λ (n : ℕ). 0 < n) b.span b.coded;
            held = subst (λ (n : ℕ). width n ≤ length bs - i) b.span held;
            above = subst (λ (n : ℕ). n < code bs i (width n)) b.span high;
          })

  extension_told : (i : ℕ) → Refuses (Told bs) (read_extension (source bs free) i)
  unfolding read_extension part within
  extension_told i = refuses_then (Told bs) _ (unextended i) (refuses_test (Told bs) (leb 1 (length (field_bits bs i 1))) (ok (code bs i 1) [] (i + 1)) (short_by (1 - length (field_bits bs i 1)) i) tt (inl (inl refl, refl))) (λ n m. unextended_refuses (Told bs) i n m (inl (inr refl, refl)))

  abbrev OnlyTold : (X : Type 0) → Step Source ℤ X → Step Source ℤ X → Type 0
  OnlyTold X f g = (i : ℕ) → Refuses (Told bs) (f (source bs free) i)

  owned_told : (t : Ty) → Each Owned ⊥ t → OnlyTold Value (walk t reader) (walk t reader)
  unfolding pure ◌>>=◌ halvings
  owned_told t = in_walk OnlyTold {S' = reader} (record {
    fit_bit = inl refl;
    fit_octet = inl refl;
    at_pure = λ x i. tt;
    at_bind = λ {X} {Y} {f} {g} {k} F G i. refuses_then (Told bs) (f (source bs free) i) (λ x. k x (source bs free)) (F i) (λ x m. G x m);
    at_guard = λ u. absurd u;
    at_whole = whole_told;
    at_extension = extension_told;
    at_number = λ u. absurd u;
    at_open = λ u. absurd u;
  }) t

-- of every row of the table, at every place of bits: 3 or 5 with row 0, or 41 to 44 with a row that has a field there whose code is above its range
pub outside_told : (row : ℕ) → row < row_count → (bs : List ℕ) → Binary bs → (i : ℕ) (why : Refusal) → read (type_of the_rows row) bs i ≡ refused why → Told bs why
outside_told row h bs binary i why e = subst (Refuses (Told bs)) e (owned_told bs binary (type_of the_rows row) (types_owned row h) i)

-- row 0, a single bit, is never named: every code of its bit is in its range
pub row_zero_never : (bs : List ℕ) → Binary bs → (why : Refusal) → Names bs why → why.row ≡ 0 → ⊥
unfolding rows halvings
row_zero_never bs binary why n z =
    let high : 1 < code bs why.place 1 = subst (λ (row : ℕ). span_of (the_rows row) < code bs why.place (width (span_of (the_rows row)))) z n.above in
    omega (arith, high, code_lt bs binary why.place 1 1 (omega arith))
