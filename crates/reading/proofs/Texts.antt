-- A Description as the code reads it without the table; and that few cells hold the value in few bytes.
-- Assumes nothing.
use Prim.Native.Nat.{ℕ, ◌+◌, ◌*◌, ◌<◌, ◌≤◌, ◌^◌}
use mathlib.Core.List.{List, []}
use mathlib.Core.Path.{◌≡◌, refl, sym, ap, ◌∙◌}
use native.Mathlib.Omega.{arith}
use lib.IntN.{ℤ, pos, ◌+ℤ◌}
use lib.ListN.{length, set}
use Rattle.answers.specs.declared.Answer.{Answer}
use Rattle.bits.specs.Numbers.{halvings, width}
use Rattle.types.specs.Shape.{Field, field, told, index_in, size_in}
use Rattle.types.specs.Shape.Ty.{num, list}
use Rattle.types.specs.Table.{bias, lowest_of, type_of, the_rows}
use Rattle.std.specs.Prelude.{Some}
use Rattle.types.proofs.Steps.{least_back}
use Rattle.types.proofs.Description.{character, octet, texts}
use Rattle.meaning.specs.Values.{Value, items}
use Rattle.meaning.specs.Steps.{Got, ok, and_then}
use Rattle.meaning.specs.Walk.{times, walk, alternative}
use Rattle.meaning.specs.Reading.{source, free, read_whole, reader}
use Rattle.meaning.specs.Messages.{read_typed, read_typed_sheet, row_named}
use Rattle.meaning.proofs.Sides.{read_whole_lem}
use Rattle.walking.specs.Packed.{refused_from, up_to, went_by}
use Rattle.walking.specs.Walked.{Walked, silent, IsItself}
use Rattle.walking.specs.Went.{Went}
use Rattle.walking.proofs.Laws.{after_number, unheard}
use Rattle.walking.proofs.Rows.{walk_sized}
use Rattle.walking.proofs.Texts.{description_named, size_few, size_some, walk_text, first_text, second_text, text_put}
use Rattle.reading.specs.Given.{message_in, Placed, Counted}
use Rattle.reading.specs.Taken.{taken_by}
use Rattle.reading.specs.Telling.{told_went}
use Rattle.reading.proofs.Telling.{told_taken, told_refused, times_full}
use Rattle.reading.proofs.Steps.{taken_stops, taken_within, taken_end, taken_walk}
use Rattle.answers.specs.declared.reasons.Reason.TheVariants as reason

-- ---- a string: its size, and its items

module _ {b : List ℕ} {total : ℕ} (P : Placed b total 1) (row least top span : ℕ) (nine : width span ≡ 9) (r : ℕ) (e : (lowest : ℤ) → read_whole (field lowest span) (message_in b total) 1 ≡ taken_by lowest span 1 r) where
  module _ (item : ℕ) where
    abbrev one : Field
    one = told reason.NumberOutside item (field (pos 0) top)

    abbrev string : Got ℤ Value
    string = walk (list row least span (num one)) reader (message_in b total) 1

    string_is : string ≡ and_then (read_whole (size_in row least span) (message_in b total) 1) (λ n i. and_then (times (least + n) (walk (num one) reader) (message_in b total) i) (λ vs j. ok (items vs) [] j))
    string_is = walk_sized reader (message_in b total) row least span (num one) 1 (size_some nine)

  pub string_stops : (t : ℕ) {s s' : List ℤ} {c : ℕ} → refused_from ≤ r → went_by t ≡ told_went reason.SizeOutside row (went_by r) → refused_from ≤ t → (item : ℕ) → Walked silent total (string item) s c (went_by t) s'
  string_stops t h et k item = rw (string_is item) (taken_stops P (size_in row least span) t (told_refused _ row P (pos least) span r (e (pos least)) t h et) _ k)

  module _ (h : r < refused_from) where
    pub size_within : r < 512
    size_within = omega (arith, taken_within P (field (pos least) span) r (e (pos least)) h, size_few nine)

    pub items_placed : Placed b total 10
    items_placed = record { place = omega (arith, taken_end P (field (pos least) span) r (e (pos least)) h); few = P.few; padded = P.padded }

    pub string_goes : {s s₁ s₂ : List ℤ} {c c₁ : ℕ} {v : ℤ} {w : Went} → v ≡ lowest_of (least + bias) +ℤ pos r → Counted s c → s₁ ≡ set s c v → c₁ ≡ up_to (c + 1) → top + 1 ≡ 2 ^ width top → Walked silent total (times (least + r) (walk (num (field (pos 0) top)) reader) (message_in b total) 10) s₁ c₁ w s₂ → (item : ℕ) → Walked silent total (string item) s c w s₂
    string_goes ev C es ec full u item =
        rw (string_is item)
        (after_number {q = 10} _ C.room refl (taken_walk P (size_in row least span) r (told_taken _ row P (pos least) span r (e (pos least)) h) h IsItself r refl (omega arith) (ev ∙ ap (λ (z : ℤ). z +ℤ pos r) (least_back least)) C es ec)
        (unheard {agrees = silent} _ _ (rw (times_full reason.NumberOutside item b total (pos 0) top full (least + r) 10) u)))

-- ---- a Description: its index, and a string

module _ {b : List ℕ} {total : ℕ} (P : Placed b total 0) (r : ℕ) (e : (lowest : ℤ) → read_whole (field lowest 1) (message_in b total) 0 ≡ taken_by lowest 1 0 r) where
  abbrev description : Got ℤ Value
  description = walk (type_of the_rows 129) reader (message_in b total) 0

  pub text_stops : (t : ℕ) {s s' : List ℤ} {c : ℕ} → refused_from ≤ r → went_by t ≡ told_went reason.AlternativeOutside 129 (went_by r) → refused_from ≤ t → Walked silent total description s c (went_by t) s'
  text_stops t h et k = rw (walk_text reader (message_in b total) 0) (taken_stops P (index_in 129 1) t (told_refused _ 129 P (pos 0) 1 r (e (pos 0)) t h et) _ k)

  module _ (h : r < refused_from) where
    pub index_within : r ≤ 1
    index_within = taken_within P (field (pos 0) 1) r (e (pos 0)) h

    pub string_placed : Placed b total 1
    unfolding halvings
    string_placed = record { place = taken_end P (field (pos 0) 1) r (e (pos 0)) h; few = P.few; padded = P.padded }

    module _ {s s₁ s₂ : List ℤ} {c c₁ : ℕ} {v : ℤ} {w : Went} (ev : v ≡ pos 0 +ℤ pos r) (C : Counted s c) (es : s₁ ≡ set s c v) (ec : c₁ ≡ up_to (c + 1)) where
      text_goes : Walked silent total (alternative texts r reader (message_in b total) 1) s₁ c₁ w s₂ → Walked silent total description s c w s₂
      unfolding halvings
      text_goes u =
          rw (walk_text reader (message_in b total) 0)
          (after_number _ C.room refl (taken_walk P (index_in 129 1) r (told_taken _ 129 P (pos 0) 1 r (e (pos 0)) h) h IsItself r refl refl ev C es ec) (unheard {agrees = silent} _ _ u))

      pub text_first : r ≡ 0 → Walked silent total (walk (list 125 1 511 (num character)) reader (message_in b total) 1) s₁ c₁ w s₂ → Walked silent total description s c w s₂
      text_first z u = text_goes (rw (z, first_text reader (message_in b total)) u)

      pub text_second : (r ≡ 0 → ⊥) → Walked silent total (walk (list 126 2 510 (num octet)) reader (message_in b total) 1) s₁ c₁ w s₂ → Walked silent total description s c w s₂
      text_second z u = let one : r ≡ 1 = omega (arith, index_within) in text_goes (rw (one, second_text reader (message_in b total)) u)

-- ---- how many cells: one for the index in 1 bit, one for the size in 9, one for an item in 7 or more

module _ (bs : List ℕ) where
  counted : (f : Field) (i m n : ℕ) (cells : List ℤ) → read_whole f (source bs free) i ≡ ok n cells m → (length cells ≡ 1) × (m ≡ i + width f.span)
  counted f i m n cells e = let W = read_whole_lem bs free f i e in (sym (ap length W.puts), sym W.next)

  text_cells : (q : ℕ) (v : Value) (cells : List ℤ) → walk (type_of the_rows 129) reader (source bs free) 0 ≡ ok v cells q → 7 * length cells ≤ q + 4
  unfolding halvings
  text_cells q v cells e =
      text_put reader (source bs free) (λ i j a. 7 * a + i ≤ j) (λ i j a. 7 * a + i + 2 ≤ j) (λ i j a. 7 * a ≤ j + 4)
      (λ i. omega arith)
      (λ f least most i m n o w j a t. let c = counted f i m n o w in omega arith)
      (λ f nine i m n o w j a t. let c = counted f i m n o w in omega arith)
      (λ i m n o w j a t. let c = counted (index_in 129 1) i m n o w in omega arith)
      q v cells e

  -- the cells of a short one hold it
  pub text_room : length bs ≤ 512 → (v : Value) (cells : List ℤ) (q : ℕ) → walk (type_of the_rows 129) reader (source bs free) 0 ≡ ok v cells q → q ≤ length bs → length cells ≤ 73
  text_room few v cells q e h = omega (arith, text_cells q v cells e)

-- ---- what the entry answers for the row of a Description

pub row_text : (bytes : List ℕ) (row : ℕ) (sheet : List ℤ) {a : Answer} {s : List ℤ} → row ≡ 129 → a ≡ read_typed (Some 129) bytes (length sheet) → s ≡ read_typed_sheet (Some 129) bytes sheet → (a ≡ read_typed (row_named row) bytes (length sheet)) × (s ≡ read_typed_sheet (row_named row) bytes sheet)
row_text bytes row sheet e ea es = rw (e, description_named) (ea, es)
