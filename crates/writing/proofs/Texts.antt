-- A Description as the code writes it without the table; and that few bytes hold the message of few cells.
-- Assumes nothing.
use Prim.Native.Nat.{ℕ, ◌+◌, ◌*◌, ◌/◌, ◌<◌, ◌≤◌}
use mathlib.Core.List.{List, []}
use mathlib.Core.Path.{◌≡◌, refl, sym, ap, subst, ◌∙◌}
use native.Mathlib.Omega.{arith}
use lib.IntN.{ℤ, pos}
use lib.ListN.{length}
use Rattle.bits.specs.Numbers.{halvings, to_bits, width}
use Rattle.bits.proofs.Numbers.{to_bits_length}
use Rattle.types.specs.Shape.{Field, field, index_in}
use Rattle.types.specs.Shape.Ty.{num, list}
use Rattle.types.specs.Table.{bias, lowest_of, type_of, the_rows}
use Rattle.types.proofs.Steps.{least_back}
use Rattle.types.proofs.Description.{texts}
use Rattle.meaning.specs.Values.{Value, items}
use Rattle.meaning.specs.Steps.{Got, and_then}
use Rattle.meaning.specs.Steps.Got.{ok}
use Rattle.meaning.specs.Walk.{times, alternative}
use Rattle.meaning.specs.Writing.{write_whole, writer, write}
use Rattle.meaning.proofs.Sides.{write_whole_lem}
use Rattle.walking.specs.Packed.{place_room, refused_from, up_to, went_by}
use Rattle.walking.specs.Walked.{Walked, silent}
use Rattle.walking.specs.Went.{Went}
use Rattle.walking.specs.Went.Went.{On}
use Rattle.meaning.proofs.Unowned.{whole_unowned, items_unowned}
use Rattle.walking.proofs.Laws.{unheard, ran}
use Rattle.walking.proofs.Packed.{went_on}
use Rattle.walking.proofs.Rows.{walk_sized}
use Rattle.walking.proofs.Texts.{size_some, walk_text, first_text, second_text, text_put}
use Rattle.writing.specs.Target.{Clean, Stored}
use Rattle.writing.specs.Cells.{Taken}
use Rattle.writing.proofs.Target.{handed_on, followed}
use Rattle.writing.proofs.Leaves.{gathered_stops, gathered_put}

-- ---- a number that is taken, put, and followed by what it tells

module _ {cells : List ℤ} {f : Field} {k r : ℕ} (T : Taken cells f k r) where
  abbrev number : Got ℕ ℕ
  number = write_whole f cells k

  stopped : {Y : Type 0} {s s'' : List ℕ} {c : ℕ} (next : ℕ → ℕ → Got ℕ Y) → refused_from ≤ r → Walked silent (length cells) (and_then number next) s c (went_by r) s''
  stopped {s = s} next h = handed_on {s' = s} next r h (gathered_stops r T.gathered h)

  module _ (h : r < refused_from) (w : ℕ) (ew : w ≡ width f.span) {s s' : List ℕ} {c c' : ℕ} (en : c' ≡ up_to (c + w)) (P : Stored s c (to_bits w r) s') where
    pub was_put : Walked silent (length cells) number s c (On 0 (k + 1) c') s'
    was_put = gathered_put r T.gathered w h ew en P

    went : {Y : Type 0} {s'' : List ℕ} {r₂ : Went} (next : ℕ → ℕ → Got ℕ Y) → Clean s c → Walked silent (length cells) (next r (k + 1)) s' c' r₂ s'' → Walked silent (length cells) (and_then number next) s c r₂ s''
    went {s'' = s''} {r₂} next C u =
        followed next C was_put (λ Q.
        let both : ok r (to_bits (width f.span) r) (k + 1) ≡ ok Q.x Q.out (k + 1) = sym (T.told h) ∙ Q.is in
        let same : r ≡ Q.x = cc in
        subst (λ (n : ℕ). Walked silent (length cells) (next n (k + 1)) s' c' r₂ s'') same u)

-- ---- a string: its size, and its items

module _ {cells : List ℤ} (least : ℕ) {span : ℕ} (top : ℕ) (nine : width span ≡ 9) {r : ℕ} (T : Taken cells (field (lowest_of (least + bias)) span) 1 r) where
  abbrev string : Got ℕ Value
  string = write (list 0 least span (num (field (pos 0) top))) cells 1

  string_is : string ≡ and_then (number T) (λ n i. and_then (times (least + n) (write (num (field (pos 0) top))) cells i) (λ vs j. ok (items vs) [] j))
  string_is = rw least_back (walk_sized writer cells 0 least span (num (field (pos 0) top)) 1 (size_some nine) ∙ rw (whole_unowned cells 1 _ _ (pos least) span) refl)

  pub string_stops : {s s'' : List ℕ} {c : ℕ} → refused_from ≤ r → Walked silent (length cells) string s c (went_by r) s''
  string_stops h = rw string_is (stopped T _ h)

  pub string_goes : {s s' s'' : List ℕ} {c c' : ℕ} {r₂ : Went} → r < refused_from → c' ≡ up_to (c + 9) → Stored s c (to_bits 9 r) s' → Clean s c → Walked silent (length cells) (times (least + r) (write (num (field (pos 0) top))) cells 2) s' c' r₂ s'' → Walked silent (length cells) string s c r₂ s''
  string_goes h en P C u = rw string_is (went T h 9 (sym nine) en P _ C (unheard _ _ u))

-- ---- a Description: its index, and a string

module _ {cells : List ℤ} {r : ℕ} (T : Taken cells (field (pos 0) 1) 0 r) where
  abbrev description : Got ℕ Value
  description = write (type_of the_rows 129) cells 0

  pub text_stops : {s s'' : List ℕ} {c : ℕ} → refused_from ≤ r → Walked silent (length cells) description s c (went_by r) s''
  text_stops h = rw (walk_text writer cells 0, whole_unowned cells 0 _ _ (pos 0) 1) (stopped T _ h)

  module _ (h : r < refused_from) {s s' s'' : List ℕ} {c c' : ℕ} {r₂ : Went} (en : c' ≡ up_to (c + 1)) (P : Stored s c (to_bits 1 r) s') (C : Clean s c) where
    text_goes : Walked silent (length cells) (alternative texts r writer cells 1) s' c' r₂ s'' → Walked silent (length cells) description s c r₂ s''
    unfolding halvings
    text_goes u = rw (walk_text writer cells 0, whole_unowned cells 0 _ _ (pos 0) 1) (went T h 1 refl en P _ C (unheard _ _ u))

    pub text_first : r ≡ 0 → Walked silent (length cells) (write (list 0 1 511 (num (field (pos 0) 127))) cells 1) s' c' r₂ s'' → Walked silent (length cells) description s c r₂ s''
    text_first z u = text_goes (rw (z, first_text writer cells, items_unowned cells 1 _ _ _ _ _ _ _) u)

    pub text_second : (r ≡ 0 → ⊥) → Walked silent (length cells) (write (list 0 2 510 (num (field (pos 0) 255))) cells 1) s' c' r₂ s'' → Walked silent (length cells) description s c r₂ s''
    text_second z u = let one : r ≡ 1 = omega (arith, T.small h) in text_goes (rw (one, second_text writer cells, items_unowned cells 1 _ _ _ _ _ _ _) u)

-- ---- how many bits: one for the index, nine for the size, at most eight for an item

module _ (cells : List ℤ) where
  counted : (f : Field) (i m n : ℕ) (bits : List ℕ) → write_whole f cells i ≡ ok n bits m → (length bits ≡ width f.span) × (m ≡ i + 1)
  counted f i m n bits e = let W = write_whole_lem cells f i e in (sym (ap length W.puts) ∙ to_bits_length (width f.span) n, sym W.next)

  text_bits : (q : ℕ) (v : Value) (bits : List ℕ) → write (type_of the_rows 129) cells 0 ≡ ok v bits q → length bits ≤ 8 * q
  unfolding halvings
  text_bits q v bits e =
      text_put writer cells (λ i j a. a + 8 * i ≤ 8 * j) (λ i j a. a + 8 * i ≤ 8 * j + 1) (λ i j a. a ≤ 8 * j)
      (λ i. omega arith)
      (λ f least most i m n o w j a t. let c = counted f i m n o w in omega arith)
      (λ f nine i m n o w j a t. let c = counted f i m n o w in omega arith)
      (λ i m n o w j a t. let c = counted (index_in 129 1) i m n o w in omega arith)
      q v bits e

  -- the bytes of a short one hold it
  pub text_room : (r : ℕ) {s s' : List ℕ} → length cells ≤ 64 → Walked silent (length cells) (write (type_of the_rows 129) cells 0) s 0 (went_by r) s' → r < refused_from → r / place_room ≤ 512
  text_room r few t h = let R = ran (went_on r h) t in omega (arith, R.counted, R.within, text_bits _ R.x R.out R.is)
