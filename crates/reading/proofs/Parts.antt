-- The presence bits of a sequence taken at once, and its components, by what is left of the bits.
-- Assumes nothing.
use Prim.Native.Nat.{ℕ, zero, suc, ◌+◌, ◌-◌, ◌/◌, ◌%◌, ◌<◌, ◌≤◌, ◌^◌}
use mathlib.Core.Bool.{Bool, true, false, cond}
use mathlib.Core.List.{List, [], ◌∷◌, append-nil}
use mathlib.Core.Path.{◌≡◌, refl, sym, ap, ap₂, ◌∙◌}
use native.Mathlib.Decide.{dec_lt}
use native.Mathlib.Numerals.{add-one}
use native.Mathlib.Nat.{zero-add, add-zero}
use native.Mathlib.Omega.{arith}
use borrow.Author.Tests.{eq-eqb, ne_eqb}
use lib.Dec.{eqb}
use lib.IntN.{ℤ, pos}
use lib.ListN.{length, take, drop, get_or}
use lib.Seq.{drop-cons}
use Rattle.bits.specs.Numbers.{val, to_bits, halvings, Binary}
use Rattle.bits.specs.Bytes.{bits_of}
use Rattle.bits.specs.Fetching.{field_bits, code}
use Rattle.bits.proofs.Numbers.{binary_take, binary_drop, to_bits_val}
use Rattle.bits.proofs.Bytes.{bits_of_binary, code_lt}
use Rattle.bits.proofs.Fetching.{field_length}
use Rattle.answers.specs.Refusals.{short_by}
use Rattle.types.specs.Shape.{Ty, Fields}
use Rattle.types.specs.Shape.Fields.{none, must, may}
use Rattle.types.specs.Row.{Row}
use Rattle.types.specs.Table.{mark_from, mark_room, first_from, first_room, word_at, root_at, fields_of, options_of, type_of}
use Rattle.types.specs.Ready.{Ready, PartRows}
use Rattle.types.proofs.Walkable.{part_mark, part_first, options_none, options_one}
use Rattle.meaning.specs.Values.{Parts, absent, there}
use Rattle.meaning.specs.Steps.{Got, ok, refused, and_then, prepend, pure, ◌>>=◌}
use Rattle.meaning.specs.Walk.{bit, flags, fields, walk}
use Rattle.meaning.specs.Reading.{Source, source, free, read_whole, reader}
use Rattle.meaning.proofs.Steps.{then_refused, then_fails}
use Rattle.meaning.proofs.Sides.{whole_read, whole_short}
use Rattle.walking.specs.Went.Went.{No}
use Rattle.walking.specs.Walked.{Walked, Answered}
use Rattle.walking.proofs.Rows.{masked_must, masked_there, masked_absent}
use Rattle.reading.specs.Given.{message_in, Placed}
use Rattle.reading.specs.Taken.{cells, top_bits, behind_of}
use Rattle.reading.proofs.Leaves.{message_length, message_code}
use Rattle.reading.proofs.Tops.{top_bit, top_rest}

-- ---- the presence bits of components

-- how many are OPTIONAL
unfoldable mays : Fields → ℕ
mays none = 0
mays (must t fs) = mays fs
mays (may t fs) = suc (mays fs)

mays_of : (table : ℕ → Row) (look : ℕ → Ty) (n f : ℕ) → mays (fields_of table look f n) ≡ options_of table f n
unfolding mays fields_of options_of
mays_of table look zero f = refl
mays_of table look (suc n) f = go (eqb (table f).mark 0) (mays_of table look n (f + 1))
  where
    go : (b : Bool) → mays (fields_of table look (f + 1) n) ≡ options_of table (f + 1) n
        → mays (cond b (must (look (table f).first) (fields_of table look (f + 1) n)) (may (look (table f).first) (fields_of table look (f + 1) n))) ≡ cond b (options_of table (f + 1) n) (suc (options_of table (f + 1) n))
    go true e = e
    go false e = ap suc e

module _ (bs : List ℕ) (binary : Binary bs) where
  -- one bit: it is the first of those that are taken
  bit_first : (at k : ℕ) → at < length bs → field_bits bs at (suc k) ≡ code bs at 1 ∷ field_bits bs (at + 1) k
  unfolding val
  bit_first at k h =
      let x = get_or bs at 0 in
      let front : drop at bs ≡ x ∷ drop (suc at) bs = drop-cons bs at 0 h in
      let one : code bs at 1 ≡ x = ap (λ (l : List ℕ). val (take 1 l)) front ∙ (omega arith) in
      ap (take (suc k)) front ∙ ap₂ (λ (y : ℕ) (j : ℕ). y ∷ take k (drop j bs)) (sym one) (sym (add-one at))

  bit_read : (at : ℕ) → at < length bs → read_whole bit (source bs free) at ≡ ok (code bs at 1) (pos (code bs at 1) ∷ []) (at + 1)
  unfolding halvings
  bit_read at h =
      whole_read bs free bit at (code bs at 1) tt (omega arith) refl (omega (arith, code_lt bs binary at 1 1 (omega arith)))
      ∙ ap (λ (z : ℤ). ok (code bs at 1) (z ∷ []) (at + 1)) (ap pos (zero-add (code bs at 1)))

  bit_short : (at : ℕ) → length bs ≤ at → read_whole bit (source bs free) at ≡ refused (short_by 1 at)
  unfolding halvings
  bit_short at h = let none : length bs - at ≡ 0 = omega arith in whole_short bs free bit at tt (omega arith) ∙ ap (λ (n : ℕ). refused (short_by (1 - n) at)) none

  flags_read : (fs : Fields) (at : ℕ) → at + mays fs ≤ length bs → flags fs reader (source bs free) at ≡ ok (field_bits bs at (mays fs)) (cells (field_bits bs at (mays fs))) (at + mays fs)
  unfolding flags mays cells pure ◌>>=◌ and_then prepend
  flags_read none at h = ap (ok [] []) (sym (add-zero at))
  flags_read (must t fs) at h = flags_read fs at h
  flags_read (may t fs) at h =
      let e : at + 1 + mays fs ≡ at + suc (mays fs) = omega arith in
      rw (bit_first at (mays fs) (omega arith), bit_read at (omega arith), flags_read fs (at + 1) (omega arith))
      (ap₂ (λ (l : List ℤ) (j : ℕ). ok (code bs at 1 ∷ field_bits bs (at + 1) (mays fs)) (pos (code bs at 1) ∷ l) j) (append-nil (cells (field_bits bs (at + 1) (mays fs)))) e)

  flags_lack : (fs : Fields) (at : ℕ) → at ≤ length bs → length bs < at + mays fs → flags fs reader (source bs free) at ≡ refused (short_by 1 (length bs))
  unfolding flags mays pure ◌>>=◌
  flags_lack none at l h = absurd (omega arith)
  flags_lack (must t fs) at l h = flags_lack fs at l h
  flags_lack (may t fs) at l h = elim (dec_lt at (length bs)) [
    | yes u ↦ then_fails _ (bit_read at u) (then_refused _ (flags_lack fs (at + 1) (omega arith) (omega arith)))
    | no u ↦ let e : at ≡ length bs = omega arith in then_refused _ (bit_short at (omega arith) ∙ ap (λ (i : ℕ). refused (short_by 1 i)) e)
  ]

-- as the code takes them: all at once, as one number
module _ {b : List ℕ} {total at : ℕ} (P : Placed b total at) (tb : List ℕ) (look : ℕ → Ty) (f n : ℕ) {options : ℕ} (eo : options ≡ options_of (root_at tb) f n) where
  abbrev bs : List ℕ
  bs = take total (bits_of b)

  all_mays : mays (fields_of (root_at tb) look f n) ≡ options
  all_mays = mays_of (root_at tb) look n f ∙ sym eo

  bits_binary : Binary bs
  bits_binary = binary_take total (bits_of b) (bits_of_binary b)

  flags_there : {mask : ℕ} → at + options ≤ total → mask ≡ code (bits_of b) at options → flags (fields_of (root_at tb) look f n) reader (message_in b total) at ≡ ok (to_bits options mask) (cells (to_bits options mask)) (at + options)
  flags_there {mask} h em =
      let l : options ≤ length bs - at = omega (arith, message_length P) in
      let is : field_bits bs at options ≡ to_bits options mask =
      sym (ap (to_bits options) (em ∙ message_code P options h) ∙ (rw (field_length bs at options l) at (to_bits_val (field_bits bs at options) (binary_take options (drop at bs) (binary_drop at bs bits_binary)))))
      in
      flags_read bs bits_binary (fields_of (root_at tb) look f n) at (omega (arith, message_length P, all_mays))
      ∙ ap (λ (k : ℕ). ok (field_bits bs at k) (cells (field_bits bs at k)) (at + k)) all_mays
      ∙ ap (λ (l : List ℕ). ok l (cells l) (at + options)) is

  -- as they stand at the top of a number
  pub flags_top : (bits : ℕ) → at + options ≤ total → bits / 2 ^ (64 - options) ≡ code (bits_of b) at options → flags (fields_of (root_at tb) look f n) reader (message_in b total) at ≡ ok (top_bits (options_of (root_at tb) f n) bits) (cells (top_bits options bits)) (at + options)
  flags_top bits h em = flags_there h em ∙ ap (λ (k : ℕ). ok (top_bits k bits) (cells (top_bits options bits)) (at + options)) eo

  flags_short : total < at + options → flags (fields_of (root_at tb) look f n) reader (message_in b total) at ≡ refused (short_by 1 total)
  flags_short h =
      flags_lack bs bits_binary (fields_of (root_at tb) look f n) at (omega (arith, message_length P, P.place)) (omega (arith, message_length P, all_mays))
      ∙ ap (λ (i : ℕ). refused (short_by 1 i)) (message_length P)

  pub flags_stop : {Y : Type 0} {agrees : Y → ℕ → Type 0} {s s' : List ℤ} {c : ℕ} (k : List ℕ → ℕ → Got ℤ Y) → total < at + options → Walked agrees total (and_then (flags (fields_of (root_at tb) look f n) reader (message_in b total) at) k) s c (No (short_by 1 total)) s'
  unfolding Answered
  flags_stop k h = rw (then_refused k (flags_short h)) (record { told = refl })

-- ---- components, by what is left of the bits

-- m components from row g on, of which those are there whose bits at the top of f are 1, by the first of them and its word
module _ (src : Source) {tb : List ℕ} (R : Ready tb) {g m : ℕ} (P : PartRows tb g m) (h : 0 < m) {word : ℕ} (e : word ≡ word_at tb g) (few : options_of (root_at tb) g m < 64) (f q : ℕ) {f₂ m₂ : ℕ} (em : m₂ ≡ m - 1) (ef : f₂ ≡ behind_of (word / mark_from % mark_room) f) where
  abbrev mark : ℕ
  mark = word / mark_from % mark_room

  abbrev left : ℕ
  left = options_of (root_at tb) g m

  abbrev left₂ : ℕ
  left₂ = options_of (root_at tb) (g + 1) m₂

  abbrev parts : ℕ → ℕ → Fields
  parts i n = fields_of (root_at tb) (type_of (root_at tb)) i n

  abbrev those : Got ℤ Parts
  those = fields (parts g m) (top_bits left f) reader src q

  abbrev rest : ℕ → Got ℤ Parts
  rest i = fields (parts (g + 1) m₂) (top_bits left₂ f₂) reader src i

  -- how many bits are left, and which
  left_same : mark ≡ 0 → left ≡ left₂
  left_same z = options_none R P h e z ∙ ap (options_of (root_at tb) (g + 1)) (sym em)

  left_less : (mark ≡ 0 → ⊥) → left ≡ suc left₂
  left_less some = options_one R P h e some ∙ ap (λ (n : ℕ). suc (options_of (root_at tb) (g + 1) n)) (sym em)

  bits_same : mark ≡ 0 → top_bits left f ≡ top_bits left₂ f₂
  unfolding behind_of
  bits_same z = ap₂ top_bits (left_same z) (sym (ef ∙ rw (eq-eqb mark 0 z) refl))

  bits_less : (mark ≡ 0 → ⊥) → to_bits (left - 1) (f / 2 ^ (64 - left)) ≡ top_bits left₂ f₂
  unfolding behind_of
  bits_less some =
      let l = left_less some in
      let less : left - 1 ≡ left₂ = omega arith in
      ap₂ (λ (j k : ℕ). to_bits j (f / 2 ^ (64 - k))) less l ∙ top_rest left₂ f (omega (arith, few)) ∙ ap (top_bits left₂) (sym (ef ∙ rw (ne_eqb mark 0 some) refl))

  first_bit : (mark ≡ 0 → ⊥) → f < 2 ^ 64 → f / 2 ^ (64 - left) / 2 ^ (left - 1) % 2 ≡ f / 2 ^ 63
  first_bit some small =
      let l = left_less some in
      let less : left - 1 ≡ left₂ = omega arith in
      ap₂ (λ (j k : ℕ). f / 2 ^ (64 - k) / 2 ^ j % 2) less l ∙ top_bit left₂ f (omega (arith, few)) small

  pub fewer_left : left₂ ≤ left
  fewer_left = go mark refl
    where
      go : (k : ℕ) → mark ≡ k → left₂ ≤ left
      go zero z = omega (arith, left_same z)
      go (suc k) z = omega (arith, left_less (λ y. omega arith))

  module _ (small : f < 2 ^ 64) {here : ℕ} (eh : here ≡ cond (eqb mark 0) (2 ^ 63) f) where
    pub part_there : 2 ^ 63 ≤ here → those ≡ and_then (walk (type_of (root_at tb) (word / first_from % first_room)) reader src q) (λ v i. and_then (rest i) (λ ps j. ok (there v ps) [] j))
    part_there set = go mark refl
      where
        with : ℕ → List ℕ → Got ℤ Parts
        with n l = and_then (walk (type_of (root_at tb) (word / first_from % first_room)) reader src q) (λ v i. and_then (fields (parts (g + 1) n) l reader src i) (λ ps j. ok (there v ps) [] j))

        go : (k : ℕ) → mark ≡ k → those ≡ with m₂ (top_bits left₂ f₂)
        go zero z = masked_must reader src tb (type_of (root_at tb)) (f / 2 ^ (64 - left)) g m left q h (part_mark R P h e) (part_first R P h e) z ∙ ap₂ with (sym em) (bits_same z)
        go (suc k) z =
            let some : mark ≡ 0 → ⊥ = λ y. omega arith in
            let is : here ≡ f = rw (ne_eqb mark 0 some) at eh in
            masked_there reader src tb (type_of (root_at tb)) (f / 2 ^ (64 - left)) g m left q h (part_mark R P h e) some (omega (arith, left_less some)) (part_first R P h e) (λ y. omega (arith, first_bit some small))
            ∙ ap₂ with (sym em) (bits_less some)

    pub part_absent : here < 2 ^ 63 → those ≡ and_then (rest q) (λ ps j. ok (absent ps) [] j)
    part_absent unset = go mark refl
      where
        without : ℕ → List ℕ → Got ℤ Parts
        without n l = and_then (fields (parts (g + 1) n) l reader src q) (λ ps j. ok (absent ps) [] j)

        go : (k : ℕ) → mark ≡ k → those ≡ without m₂ (top_bits left₂ f₂)
        go zero z = absurd (let is : here ≡ 2 ^ 63 = rw (eq-eqb mark 0 z) at eh in omega arith)
        go (suc k) z =
            let some : mark ≡ 0 → ⊥ = λ y. omega arith in
            let is : here ≡ f = rw (ne_eqb mark 0 some) at eh in
            masked_absent reader src tb (type_of (root_at tb)) (f / 2 ^ (64 - left)) g m left q h (part_mark R P h e) some (omega (arith, left_less some)) (first_bit some small ∙ (omega arith)) ∙ ap₂ without (sym em) (bits_less some)
