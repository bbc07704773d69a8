-- A single field as the code fetches it: its extension bit, where it has one, and its number.
-- Assumes nothing.
use Prim.Native.Nat.{ℕ, zero, suc, ◌+◌, ◌-◌, ◌<◌, ◌≤◌, ◌^◌}
use mathlib.Core.Bool.{Bool, true, false, cond}
use mathlib.Core.List.{List, [], ◌∷◌}
use mathlib.Core.Path.{◌≡◌, refl, sym, ap, subst, ◌∙◌, fun_ext}
use native.Mathlib.Omega.{arith}
use borrow.Author.Tests.{lt-ltb, le-ltb, le-leb, lt-leb}
use lib.Dec.{leb}
use lib.IntN.{ℤ, pos, ◌+ℤ◌}
use lib.ListN.{length}
use Rattle.answers.specs.Refusals.{too_long, unknown_type, short_by, naming, extended}
use Rattle.answers.specs.declared.Refusal.{Refusal}
use Rattle.bits.specs.Numbers.{width}
use Rattle.bits.specs.Bytes.{bits_of}
use Rattle.bits.specs.Fetching.{field_bits, code, fetched_bits, fetched}
use Rattle.bits.specs.declared.Cursor.{Cursor}
use Rattle.bits.proofs.Numbers.{width_fewest}
use Rattle.bits.proofs.Fetching.{fetched_inside}
use Rattle.types.specs.Shape.{Ty, Field, field, told}
use Rattle.types.specs.Shape.Ty.{num, ext}
use Rattle.types.specs.Kinds as kinds
use Rattle.types.specs.Columns as columns
use Rattle.types.specs.Row.{Row}
use Rattle.types.specs.Rows.{rows}
use Rattle.types.specs.Table.{numbers, column, lowest_of, value_outside, row_at, root_at, type_by, type_of, the_rows}
use Rattle.types.specs.Ready.{Ready}
use Rattle.types.proofs.Rule.{rows_length}
use Rattle.types.proofs.Numbers.{the_numbers_stand}
use Rattle.types.proofs.Ready.{the_table_ready}
use Rattle.types.proofs.Walkable.{ready_type}
use Rattle.types.proofs.Steps.{type_plain, type_extended, body_number}
use Rattle.meaning.specs.Values as values
use Rattle.meaning.specs.Steps.{Got, pure, prepend, and_then, ◌>>=◌}
use Rattle.meaning.specs.Steps.Got.{ok, refused}
use Rattle.meaning.specs.Walk.{walk}
use Rattle.meaning.specs.Reading.{source, free, within, part, judged, read_whole, unextended, read_extension, reader, read}
use Rattle.meaning.specs.Fields.{is_field, field_got, field_at}
use Rattle.std.specs.Prelude.{Result, Ok, Err}

-- ---- a number, by what is fetched

unfoldable number_by : Field → ℕ → Result (ℕ × Cursor) Refusal → Result (ℤ × Cursor) Refusal
number_by f at (Ok (n, next)) = cond (leb n f.span) (Ok (f.lowest +ℤ pos n, next)) (Err (naming f.outside f.row at))
number_by f at (Err why) = Err why

number_read : (bs : List ℕ) (f : Field) (at : ℕ) → field_got (read (num f) bs at) ≡ number_by f at (fetched_bits bs at (width f.span))
unfolding number_by fetched_bits field_got walk ◌>>=◌ and_then prepend pure read_whole part within judged
number_read bs f at = there (leb (width f.span) (length (field_bits bs at (width f.span))))
  where
    n : ℕ
    n = code bs at (width f.span)

    fine : (b : Bool) → field_got (and_then (and_then (ok n [] (at + width f.span)) (λ m next. cond b (ok m ((f.lowest +ℤ pos m) ∷ []) next) (refused (naming f.outside f.row at)))) (λ m j. ok (values.whole (f.lowest +ℤ pos m)) [] j)) ≡ cond b (Ok (f.lowest +ℤ pos n, record { at = at + width f.span })) (Err (naming f.outside f.row at))
    fine true = refl
    fine false = refl

    there : (b : Bool) → field_got (and_then (and_then (cond b (ok n [] (at + width f.span)) (refused (short_by (width f.span - length (field_bits bs at (width f.span))) at))) (judged f at)) (λ m j. ok (values.whole (f.lowest +ℤ pos m)) [] j)) ≡ number_by f at (cond b (Ok (n, record { at = at + width f.span })) (Err (short_by (width f.span - length (field_bits bs at (width f.span))) at)))
    there true = fine (leb n f.span)
    there false = refl

-- as the code finds it
module _ (bytes : List ℕ) (few : length bytes ≤ 2048) (at : ℕ) (f : Field) (narrow : f.span < 2 ^ 32) {w : ℕ} (ew : w ≡ width f.span) {got : Result (ℕ × Cursor) Refusal} (eg : got ≡ fetched bytes at w) where
  seen : field_got (read (num f) (bits_of bytes) at) ≡ number_by f at got
  seen =
      let narrow-width : w ≤ 32 = omega (arith, width_fewest f.span 32 narrow) in
      number_read (bits_of bytes) f at
      ∙ ap (number_by f at) (ap (fetched_bits (bits_of bytes) at) (sym ew) ∙ sym (fetched_inside bytes at w narrow-width few) ∙ sym eg)

  pub number_stops : {why : Refusal} → got ≡ Err why → Err why ≡ field_got (read (num f) (bits_of bytes) at)
  unfolding number_by
  number_stops e = sym (seen ∙ rw e refl)

  module _ {n : ℕ} {behind : Cursor} (e : got ≡ Ok (n, behind)) where
    pub number_high : {why : Refusal} → why ≡ naming f.outside f.row at → f.span < n → Err why ≡ field_got (read (num f) (bits_of bytes) at)
    unfolding number_by
    number_high ew' high = ap Err ew' ∙ sym (seen ∙ rw (e, lt-leb n f.span high) refl)

    pub number_fine : {v : ℤ} → n ≤ f.span → v ≡ f.lowest +ℤ pos n → Ok (v, behind) ≡ field_got (read (num f) (bits_of bytes) at)
    unfolding number_by
    number_fine h ev = ap (λ (z : ℤ). Ok (z, behind)) ev ∙ sym (seen ∙ rw (e, le-leb n f.span h) refl)

-- ---- an extension bit before it

unfoldable extended_by : List ℕ → Ty → ℕ → Result (ℕ × Cursor) Refusal → Result (ℤ × Cursor) Refusal
extended_by bs t at (Ok (zero, next)) = field_got (read t bs next.at)
extended_by bs t at (Ok (suc n, next)) = Err (extended at)
extended_by bs t at (Err why) = Err why

extended_one : (bs : List ℕ) (t : Ty) (at m : ℕ) (next : Cursor) → extended_by bs t at (Ok (suc m, next)) ≡ Err (extended at)
unfolding extended_by
extended_one bs t at m next = refl

extended_read : (bs : List ℕ) (t : Ty) (at : ℕ) → field_got (read (ext t) bs at) ≡ extended_by bs t at (fetched_bits bs at 1)
unfolding extended_by fetched_bits field_got walk ◌>>=◌ and_then prepend read_extension part within unextended
extended_read bs t at = there (leb 1 (length (field_bits bs at 1)))
  where
    silent : (g : Got ℤ values.Value) → field_got (prepend [] g) ≡ field_got g
    silent (ok v out q) = refl
    silent (refused why) = refl

    off : (n : ℕ) → field_got (and_then (and_then (ok n [] (at + 1)) (unextended at)) (λ x. walk t reader (source bs free))) ≡ extended_by bs t at (Ok (n, record { at = at + 1 }))
    off zero = silent (walk t reader (source bs free) (at + 1))
    off (suc n) = refl

    there : (b : Bool) → field_got (and_then (and_then (cond b (ok (code bs at 1) [] (at + 1)) (refused (short_by (1 - length (field_bits bs at 1)) at))) (unextended at)) (λ x. walk t reader (source bs free))) ≡ extended_by bs t at (cond b (Ok (code bs at 1, record { at = at + 1 })) (Err (short_by (1 - length (field_bits bs at 1)) at)))
    there true = off (code bs at 1)
    there false = refl

-- ---- the row's answer

same : {tb : List ℕ} → tb ≡ numbers rows → root_at tb ≡ the_rows
same e = ap root_at e ∙ fun_ext the_table_ready.root ∙ the_numbers_stand

kind_column : {tb : List ℕ} (row : ℕ) → tb ≡ numbers rows → column tb row columns.kind ≡ (the_rows row).kind
unfolding row_at
kind_column row e = ap (λ (l : List ℕ). column l row columns.kind) e ∙ ap (λ (t : ℕ → Row). (t row).kind) the_numbers_stand

pub no_row : (row : ℕ) (bytes : List ℕ) (at : ℕ) → 414 ≤ row → field_at row bytes at ≡ Err unknown_type
unfolding field_at is_field
no_row row bytes at h = rw (le-ltb row (length rows) (omega (arith, rows_length)))

module _ (row : ℕ) (known : row < 414) {tb : List ℕ} (etb : tb ≡ numbers rows) {kind : ℕ} (ek : kind ≡ column tb row columns.kind) (bytes : List ℕ) (at : ℕ) where
  is_kind : (the_rows row).kind ≡ kind
  is_kind = sym (ek ∙ kind_column row etb)

  pub no_field : kinds.sequence ≤ kind → field_at row bytes at ≡ Err unknown_type
  unfolding field_at is_field
  no_field h = rw (lt-ltb row (length rows) (omega (arith, rows_length)), is_kind, le-ltb kind kinds.sequence h)

  module _ (number : kind < kinds.sequence) where
    pub field_long : 2048 < length bytes → field_at row bytes at ≡ Err too_long
    unfolding field_at is_field
    field_long h = rw (lt-ltb row (length rows) (omega (arith, rows_length)), is_kind, lt-ltb kind kinds.sequence number, lt-ltb 2048 (length bytes) h)

    module _ (few : length bytes ≤ 2048) where
      field_read : field_at row bytes at ≡ field_got (read (type_of the_rows row) (bits_of bytes) at)
      unfolding field_at is_field
      field_read = rw (lt-ltb row (length rows) (omega (arith, rows_length)), is_kind, lt-ltb kind kinds.sequence number, le-ltb 2048 (length bytes) few)

      module _ {low span mark : ℕ} (el : low ≡ column tb row columns.lowest) (es : span ≡ column tb row columns.span) (em : mark ≡ column tb row columns.mark) where
        abbrev number_type : Ty
        number_type = num (told (value_outside kind) row (field (lowest_of low) span))

        ready : Ready tb
        ready = subst Ready (sym etb) the_table_ready

        by_row : type_of the_rows row ≡ type_by (root_at tb) (type_of (root_at tb)) row (root_at tb row)
        by_row = ap (λ (t : ℕ → Row). type_of t row) (sym (same etb)) ∙ ready_type ready row

        pub field_plain : {r : Result (ℤ × Cursor) Refusal} → mark ≡ 0 → r ≡ field_got (read number_type (bits_of bytes) at) → r ≡ field_at row bytes at
        field_plain is er =
            let t : type_of the_rows row ≡ number_type = by_row ∙ type_plain tb (type_of (root_at tb)) row em is ∙ body_number tb (type_of (root_at tb)) row ek el es number in
            er ∙ sym (field_read ∙ ap (λ (ty : Ty). field_got (read ty (bits_of bytes) at)) t)

        module _ (isnt : mark ≡ 0 → ⊥) {got : Result (ℕ × Cursor) Refusal} (eg : got ≡ fetched bytes at 1) where
          extended_is : field_at row bytes at ≡ extended_by (bits_of bytes) number_type at got
          extended_is =
              let t : type_of the_rows row ≡ ext number_type = by_row ∙ type_extended tb (type_of (root_at tb)) row em isnt ∙ ap ext (body_number tb (type_of (root_at tb)) row ek el es number) in
              field_read
              ∙ ap (λ (ty : Ty). field_got (read ty (bits_of bytes) at)) t
              ∙ extended_read (bits_of bytes) number_type at
              ∙ ap (extended_by (bits_of bytes) number_type at) (sym (fetched_inside bytes at 1 (omega arith) few) ∙ sym eg)

          pub field_cut : {why : Refusal} → got ≡ Err why → Err why ≡ field_at row bytes at
          unfolding extended_by
          field_cut e = sym (extended_is ∙ rw e refl)

          module _ {n : ℕ} {behind : Cursor} (e : got ≡ Ok (n, behind)) where
            pub field_on : {why : Refusal} → why ≡ extended at → (n ≡ 0 → ⊥) → Err why ≡ field_at row bytes at
            field_on {why} ew some = ap Err ew ∙ sym (extended_is ∙ ap (extended_by (bits_of bytes) number_type at) e ∙ go n some)
              where
                go : (m : ℕ) → (m ≡ 0 → ⊥) → extended_by (bits_of bytes) number_type at (Ok (m, behind)) ≡ Err (extended at)
                go zero h = absurd (h refl)
                go (suc m) h = extended_one (bits_of bytes) number_type at m behind

            pub field_off : {r : Result (ℤ × Cursor) Refusal} → n ≡ 0 → r ≡ field_got (read number_type (bits_of bytes) behind.at) → r ≡ field_at row bytes at
            unfolding extended_by
            field_off z er = er ∙ sym (extended_is ∙ rw (e, z) refl)
