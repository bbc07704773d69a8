-- A field of a type in a row is read as the bare field is, but that a code outside is told by that row; and where every code is in its range, no row is told.
-- Assumes nothing.
use Prim.Native.Nat.{ℕ, zero, suc, ◌+◌, ◌-◌, ◌/◌, ◌%◌, ◌<◌, ◌≤◌, ◌^◌}
use mathlib.Core.List.{List, []}
use mathlib.Core.Path.{◌≡◌, refl, sym, ap, ap₂, ◌∙◌, fun_ext}
use native.Mathlib.Decide.{dec_lt}
use native.Mathlib.Omega.{arith}
use borrow.Author.Tests.{eq-eqb, ne_eqb}
use lib.IntN.{ℤ, pos, ◌+ℤ◌}
use lib.ListN.{length, take}
use Rattle.bits.specs.Numbers.{width}
use Rattle.bits.specs.Bytes.{bits_of}
use Rattle.bits.specs.Fetching.{code}
use Rattle.bits.proofs.Numbers.{binary_take}
use Rattle.bits.proofs.Bytes.{bits_of_binary, code_lt}
use Rattle.answers.specs.GivenBack as given
use Rattle.answers.specs.Reasons.{reason_number}
use Rattle.answers.specs.declared.reasons.Reason.{Reason}
use Rattle.answers.specs.Refusals.{naming}
use Rattle.types.specs.Shape.{field, told}
use Rattle.types.specs.Shape.Ty.{num}
use Rattle.types.specs.Table.{lowest_of}
use Rattle.meaning.specs.Values.{Value, Values, whole, item}
use Rattle.meaning.specs.Steps.{Got, ok, refused, prepend, and_then, pure, ◌>>=◌}
use Rattle.meaning.specs.Walk.{times, walk}
use Rattle.meaning.specs.Reading.{source, free, read_whole, reader}
use Rattle.meaning.proofs.Sides.{whole_read, whole_short, whole_outside}
use Rattle.walking.specs.Went.{Went}
use Rattle.walking.specs.Went.Went.{No}
use Rattle.walking.specs.Packed.{refused_from, place_room, number_room, reason_in, went_by}
use Rattle.walking.specs.Walked.{Walked, Answered, silent}
use Rattle.walking.proofs.Packed.{went_on, went_no, not_outside, is_outside}
use Rattle.walking.proofs.Rows.{walk_number}
use Rattle.reading.specs.Given.{message_in, Placed}
use Rattle.reading.specs.Taken.{taken_by}
use Rattle.reading.specs.Telling.{told_refusal, told_went}
use Rattle.reading.proofs.Answers.{unless_no, unless_on}

-- what reading means, told so
unfoldable told_got : {X : Type 0} → Reason → ℕ → Got ℤ X → Got ℤ X
told_got reason row (ok x out next) = ok x out next
told_got reason row (refused why) = refused (told_refusal reason row why)

module _ (reason : Reason) (row : ℕ) where
  -- ---- a refusal in one number

  pub told_stays : {r : ℕ} → refused_from ≤ r → (r / place_room % number_room ≡ given.outside → ⊥) → went_by r ≡ told_went reason row (went_by r)
  unfolding told_went told_refusal
  told_stays {r} h isnt = rw (went_no r h, ne_eqb (reason_number (reason_in (r / place_room % number_room))) given.outside (not_outside (r / place_room % number_room) isnt))

  pub told_went_lem : {r : ℕ} → refused_from ≤ r → r / place_room % number_room ≡ given.outside → No (naming reason row (r % place_room)) ≡ told_went reason row (went_by r)
  unfolding told_went told_refusal
  told_went_lem {r} h is = rw (went_no r h, eq-eqb (reason_number (reason_in (r / place_room % number_room))) given.outside (is_outside (r / place_room % number_room) is))

  pub told_on : (r : ℕ) → r < refused_from → went_by r ≡ told_went reason row (went_by r)
  unfolding told_went
  told_on r h = rw (went_on r h)

  -- ---- a field

  module _ (bs : List ℕ) (lowest : ℤ) (span at : ℕ) where
    whole_told : read_whole (told reason row (field lowest span)) (source bs free) at ≡ told_got reason row (read_whole (field lowest span) (source bs free) at)
    unfolding told_got told_refusal
    whole_told =
        elim (dec_lt (length bs - at) (width span)) [
          | yes h ↦ whole_short bs free (told reason row (field lowest span)) at tt h ∙ ap (told_got reason row) (sym (whole_short bs free (field lowest span) at tt h))
          | no h ↦
              elim (dec_lt span (code bs at (width span))) [
                | yes o ↦ whole_outside bs free (told reason row (field lowest span)) at tt (omega arith) o ∙ ap (told_got reason row) (sym (whole_outside bs free (field lowest span) at tt (omega arith) o))
                | no o ↦ whole_read bs free (told reason row (field lowest span)) at (code bs at (width span)) tt (omega arith) refl (omega arith) ∙ ap (told_got reason row) (sym (whole_read bs free (field lowest span) at (code bs at (width span)) tt (omega arith) refl (omega arith)))
              ]
        ]

  -- ---- one step behind the other

  told_prepend : {X : Type 0} (out : List ℤ) (g : Got ℤ X) → prepend out (told_got reason row g) ≡ told_got reason row (prepend out g)
  unfolding prepend told_got
  told_prepend out (ok x more next) = refl
  told_prepend out (refused why) = refl

  told_then : {X Y : Type 0} (g : Got ℤ X) (k : X → ℕ → Got ℤ Y) → and_then (told_got reason row g) (λ x j. told_got reason row (k x j)) ≡ told_got reason row (and_then g k)
  unfolding and_then told_got
  told_then (ok x out next) k = told_prepend out (k x next)
  told_then (refused why) k = refl

  walk_told : (bs : List ℕ) (lowest : ℤ) (span at : ℕ) → walk (num (told reason row (field lowest span))) reader (source bs free) at ≡ told_got reason row (walk (num (field lowest span)) reader (source bs free) at)
  unfolding told_got
  walk_told bs lowest span at =
      walk_number reader (source bs free) (told reason row (field lowest span)) at
      ∙ ap (λ (g : Got ℤ ℕ). and_then g (λ n j. ok (whole (lowest +ℤ pos n)) [] j)) (whole_told bs lowest span at)
      ∙ told_then (read_whole (field lowest span) (source bs free) at) (λ n j. ok (whole (lowest +ℤ pos n)) [] j)
      ∙ ap (told_got reason row) (sym (walk_number reader (source bs free) (field lowest span) at))

  -- numbers of one range, one behind the other
  times_told : (bs : List ℕ) (lowest : ℤ) (span n at : ℕ) → times n (walk (num (told reason row (field lowest span))) reader) (source bs free) at ≡ told_got reason row (times n (walk (num (field lowest span)) reader) (source bs free) at)
  unfolding times ◌>>=◌ pure told_got
  times_told bs lowest span zero at = refl
  times_told bs lowest span (suc n) at =
      ap₂ (λ (g : Got ℤ Value) (k : ℕ → Got ℤ Values). and_then g (λ v j. and_then (k j) (λ vs i. ok (item v vs) [] i))) (walk_told bs lowest span at) (fun_ext (times_told bs lowest span n))
      ∙ ap (λ (k : Value → ℕ → Got ℤ Values). and_then (told_got reason row (walk (num (field lowest span)) reader (source bs free) at)) k)
      (fun_ext (λ v. fun_ext (λ j. told_then (times n (walk (num (field lowest span)) reader) (source bs free) j) (λ vs i. ok (item v vs) [] i))))
      ∙ told_then (walk (num (field lowest span)) reader (source bs free) at) (λ v j. and_then (times n (walk (num (field lowest span)) reader) (source bs free) j) (λ vs i. ok (item v vs) [] i))

  -- ---- where every code of the bits is in the range

  module _ (b : List ℕ) (total : ℕ) (lowest : ℤ) (span : ℕ) (full : span + 1 ≡ 2 ^ width span) where
    whole_full : (at : ℕ) → read_whole (told reason row (field lowest span)) (message_in b total) at ≡ read_whole (field lowest span) (message_in b total) at
    whole_full at =
        let bs = take total (bits_of b) in
        elim (dec_lt (length bs - at) (width span)) [
          | yes h ↦ whole_short bs free (told reason row (field lowest span)) at tt h ∙ sym (whole_short bs free (field lowest span) at tt h)
          | no h ↦
              let n : code bs at (width span) ≤ span = omega (arith, code_lt bs (binary_take total (bits_of b) (bits_of_binary b)) at (width span) (width span) (omega arith)) in
              whole_read bs free (told reason row (field lowest span)) at (code bs at (width span)) tt (omega arith) refl n
              ∙ sym (whole_read bs free (field lowest span) at (code bs at (width span)) tt (omega arith) refl n)
        ]

    pub times_full : (n at : ℕ) → times n (walk (num (told reason row (field lowest span))) reader) (message_in b total) at ≡ times n (walk (num (field lowest span)) reader) (message_in b total) at
    unfolding times ◌>>=◌ pure
    times_full zero at = refl
    times_full (suc n) at =
        ap₂ (λ (g : Got ℤ Value) (k : ℕ → Got ℤ Values). and_then g (λ v j. and_then (k j) (λ vs i. ok (item v vs) [] i)))
        (walk_number reader (message_in b total) (told reason row (field lowest span)) at
        ∙ ap (λ (g : Got ℤ ℕ). and_then g (λ n j. ok (whole (lowest +ℤ pos n)) [] j)) (whole_full at)
        ∙ sym (walk_number reader (message_in b total) (field lowest span) at))
        (fun_ext (times_full n))

  walked_told : {X : Type 0} {agrees : X → ℕ → Type 0} {end c : ℕ} (g : Got ℤ X) {s s' : List ℤ} {w : Went} → Walked agrees end g s c w s' → Walked agrees end (told_got reason row g) s c (told_went reason row w) s'
  unfolding Answered told_got told_went
  walked_told (ok x out next) t = let (n, r, a, l, st, h) = t.told in record { told = (n, ap (told_went reason row) r, a, l, st, h) }
  walked_told (refused why) t = record { told = ap (told_went reason row) t.told }

  -- numbers that were read one behind the other
  pub run_told : (b : List ℕ) (total n at low span : ℕ) {s s' : List ℤ} {c : ℕ} (r : ℕ) → Walked silent total (times n (walk (num (field (lowest_of low) span)) reader) (message_in b total) at) s c (went_by r) s'
      → (t : ℕ) → went_by t ≡ told_went reason row (went_by r) → Walked silent total (times n (walk (num (told reason row (field (lowest_of low) span))) reader) (message_in b total) at) s c (went_by t) s'
  run_told b total n at low span r u t e = rw (times_told (take total (bits_of b)) (lowest_of low) span n at, e) (walked_told _ u)

  -- ---- a field that was taken

  module _ {b : List ℕ} {total at : ℕ} (P : Placed b total at) (lowest : ℤ) (span r : ℕ) (e : read_whole (field lowest span) (message_in b total) at ≡ taken_by lowest span at r) where
    pub told_taken : r < refused_from → read_whole (told reason row (field lowest span)) (message_in b total) at ≡ taken_by lowest span at r
    unfolding told_got
    told_taken h =
        whole_told (take total (bits_of b)) lowest span at
        ∙ ap (told_got reason row) (e ∙ unless_on _ r h)
        ∙ sym (unless_on _ r h)

    pub told_refused : (t : ℕ) → refused_from ≤ r → went_by t ≡ told_went reason row (went_by r) → read_whole (told reason row (field lowest span)) (message_in b total) at ≡ taken_by lowest span at t
    unfolding told_got told_went
    told_refused t h et =
        whole_told (take total (bits_of b)) lowest span at
        ∙ ap (told_got reason row) (e ∙ unless_no _ (went_no r h))
        ∙ sym (unless_no _ (et ∙ ap (told_went reason row) (went_no r h)))
