-- A whole number and an extension bit, as the code reads them.
-- Assumes nothing.
use Prim.Native.Nat.{ℕ, zero, suc, ◌+◌, ◌-◌, ◌<◌, ◌≤◌, ◌^◌}
use mathlib.Core.List.{List}
use mathlib.Core.Path.{◌≡◌, refl, sym, ap, ◌∙◌}
use native.Mathlib.Omega.{arith}
use borrow.Author.Tests.{eq-eqb, ne_eqb}
use lib.IntN.{ℤ}
use lib.ListN.{length, take, drop, length-drop, take-append-drop}
use lib.Seq.{length-take-le, take-append-le, drop-append-le}
use Rattle.bits.specs.Numbers.{val, width}
use Rattle.bits.specs.Bytes.{bits_of}
use Rattle.bits.specs.Fetching.{code}
use Rattle.bits.proofs.Bytes.{bits_of_length}
use Rattle.answers.specs.Refusals.{naming, short_by, extended}
use Rattle.types.specs.Shape.{field, told}
use Rattle.meaning.specs.Steps.{refused}
use Rattle.meaning.specs.Reading.{free, unextended, read_whole, read_extension}
use Rattle.meaning.proofs.Steps.{then_fails}
use Rattle.meaning.proofs.Sides.{part_read, whole_read, whole_short, whole_outside, extension_read, extension_short}
use Rattle.walking.specs.Went.Went.{No}
use Rattle.walking.specs.Packed.{went_by}
use Rattle.walking.specs.Walked.{opened}
use Rattle.reading.specs.Given.{message_in, Placed}
use Rattle.reading.specs.Taken.{taken_by, begun_by}
use Rattle.reading.proofs.Answers.{unless_no, unless_on}
use Rattle.answers.specs.declared.reasons.Reason.{Reason}

pub positive : (n : ℕ) → (n ≡ 0 → ⊥) → 0 < n
positive zero isnt = absurd (isnt refl)
positive (suc n) isnt = omega arith

-- ---- the bits of the message

module _ {b : List ℕ} {total at : ℕ} (P : Placed b total at) where
  pub message_length : length (take total (bits_of b)) ≡ total
  message_length = length-take-le total (bits_of b) (omega (arith, bits_of_length b))

  -- a code that lies in the message is that of the padded bytes
  pub message_code : (w : ℕ) → at + w ≤ total → code (bits_of b) at w ≡ code (take total (bits_of b)) at w
  message_code w h =
      let bs = bits_of b in
      let l = message_length in
      ap (λ (x : List ℕ). val (take w (drop at x))) (sym (take-append-drop total bs))
      ∙ ap (λ (x : List ℕ). val (take w x)) (drop-append-le at (take total bs) (drop total bs) (omega arith))
      ∙ ap val (take-append-le w (drop at (take total bs)) (drop total bs) (simp length-drop (omega arith)))

  pub message_left : (w : ℕ) → at + w ≤ total → w ≤ length (take total (bits_of b)) - at
  message_left w h = omega (arith, message_length)

  -- ---- a field

  -- whatever the reason and the row by which a code outside is told: the bare field has 4 and row 0
  module _ (reason : Reason) (row span : ℕ) {w : ℕ} (ew : w ≡ width span) where
    pub taken_short : (r : ℕ) → total < at + w → went_by r ≡ No (short_by (at + w - total) at) → (lowest : ℤ) → read_whole (told reason row (field lowest span)) (message_in b total) at ≡ taken_by lowest span at r
    taken_short r h e lowest =
        let lack : width span - (length (take total (bits_of b)) - at) ≡ at + w - total = omega (arith, message_length, P.place) in
        whole_short (take total (bits_of b)) free (told reason row (field lowest span)) at tt (omega (arith, message_length)) ∙ ap (λ (n : ℕ). refused (short_by n at)) lack ∙ sym (unless_no _ e)

    module _ {n : ℕ} (h : at + w ≤ total) (en : n ≡ code (bits_of b) at w) where
      there : code (take total (bits_of b)) at (width span) ≡ n
      there = ap (code (take total (bits_of b)) at) (sym ew) ∙ sym (message_code w h) ∙ sym en

      pub taken_outside : (r : ℕ) → span < n → went_by r ≡ No (naming reason row at) → (lowest : ℤ) → read_whole (told reason row (field lowest span)) (message_in b total) at ≡ taken_by lowest span at r
      taken_outside r o e lowest = whole_outside (take total (bits_of b)) free (told reason row (field lowest span)) at tt (message_left (width span) (omega arith)) (omega (arith, there)) ∙ sym (unless_no _ e)

      pub taken_code : n ≤ span → span < 2 ^ 32 → (lowest : ℤ) → read_whole (told reason row (field lowest span)) (message_in b total) at ≡ taken_by lowest span at n
      taken_code o narrow lowest = whole_read (take total (bits_of b)) free (told reason row (field lowest span)) at n tt (message_left (width span) (omega arith)) there o ∙ sym (unless_on _ _ (omega arith))

  -- ---- an extension bit

  module _ (mark : ℕ) where
    pub begin_none : mark ≡ 0 → opened mark (read_extension (message_in b total)) at ≡ begun_by at
    unfolding opened
    begin_none e = rw (eq-eqb mark 0 e) (sym (unless_on _ _ (omega arith)))

    module _ (some : mark ≡ 0 → ⊥) where
      pub begin_short : (r : ℕ) → total ≤ at → went_by r ≡ No (short_by 1 at) → opened mark (read_extension (message_in b total)) at ≡ begun_by r
      unfolding opened
      begin_short r h e =
          let lack : 1 - (length (take total (bits_of b)) - at) ≡ 1 = omega (arith, message_length) in
          rw (ne_eqb mark 0 some) (extension_short (take total (bits_of b)) free at tt (omega (arith, message_length)) ∙ ap (λ (n : ℕ). refused (short_by n at)) lack ∙ sym (unless_no _ e))

      module _ {n : ℕ} (h : at < total) (en : n ≡ code (bits_of b) at 1) where
        bit : code (take total (bits_of b)) at 1 ≡ n
        bit = sym (message_code 1 (omega arith)) ∙ sym en

        pub begin_on : (r : ℕ) → (n ≡ 0 → ⊥) → went_by r ≡ No (extended at) → opened mark (read_extension (message_in b total)) at ≡ begun_by r
        unfolding opened read_extension unextended
        begin_on r o e = rw (ne_eqb mark 0 some) (then_fails (unextended at) (part_read at 1 (take total (bits_of b)) free at tt (message_left 1 (omega arith))) (ap (λ (k : ℕ). unextended at k (at + 1)) bit ∙ set_bit n o) ∙ sym (unless_no _ e))
          where
            set_bit : (k : ℕ) → (k ≡ 0 → ⊥) → unextended at k (at + 1) ≡ refused (extended at)
            set_bit zero z = absurd (z refl)
            set_bit (suc k) z = refl

        pub begin_off : n ≡ 0 → opened mark (read_extension (message_in b total)) at ≡ begun_by (at + 1)
        unfolding opened
        begin_off z = rw (ne_eqb mark 0 some) (extension_read (take total (bits_of b)) free at tt (message_left 1 (omega arith)) (bit ∙ z) ∙ sym (unless_on _ _ (omega arith)))
