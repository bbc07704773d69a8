-- A whole number, presence bits and a run of numbers, as the code writes them.
-- Assumes nothing.
use Prim.Native.Nat.{ℕ, ◌+◌, ◌-◌, ◌*◌, ◌<◌, ◌≤◌, ◌^◌, min}
use native.Mathlib.Omega.{arith}
use mathlib.Core.Path.{◌≡◌, refl, sym, ap, ap₂, subst, ◌∙◌}
use mathlib.Core.List.{List, [], ◌++◌, append-nil}
use borrow.Author.Tests.{lt-ltb, le-ltb}
use lib.Arith.{digits_lt}
use lib.Pow.{pow-add, pow_mono, high}
use lib.IntN.{ℤ, pos, negsuc, ◌-ℤ◌, ◌+ℤ◌}
use lib.ListN.{length, get_or}
use mir.Facts.{to_z-of_z}
use mir.Syntax.{w64}
use mir.Val.{SFits, to_z, of_z}
use Rattle.bits.specs.Numbers.{to_bits, halvings, width}
use Rattle.bits.proofs.Numbers.{to_bits_add, to_bits_low, width_holds, width_fewest}
use Rattle.answers.specs.Refusals.{no_value}
use Rattle.answers.specs.declared.Refusal.{Refusal}
use Rattle.types.specs.Shape.{Field, field}
use Rattle.types.specs.Shape.Ty.{num}
use Rattle.types.specs.Table.{lowest_of}
use Rattle.meaning.specs.Values.{Value, whole, item}
use Rattle.meaning.specs.Steps.{Got, Step, prepend, and_then}
use Rattle.meaning.specs.Steps.Got.{ok, refused}
use Rattle.meaning.specs.Walk.{bit, bits, times}
use Rattle.meaning.specs.Writing.{write_whole, write_above, writer, write}
use Rattle.meaning.proofs.Steps.{pass_le, fail_le}
use Rattle.walking.specs.Walked.{Walked, Answered, silent}
use Rattle.walking.specs.Packed.{refused_from, up_to, went_by, refusal_in}
use Rattle.walking.specs.Went.{Went}
use Rattle.walking.specs.Went.Went.{On, No}
use Rattle.walking.proofs.Laws.{unheard, times_step}
use Rattle.walking.proofs.Packed.{went_on, went_no}
use Rattle.walking.proofs.Rows.{walk_number}
use Rattle.writing.specs.Target.{Clean, Stored}
use Rattle.writing.specs.Cells.{height_in, silenced, Gathered, Taken}
use Rattle.writing.proofs.Silence.{as_silent, prepend_none, prepend_more, bits_fine, bits_refused, bits_none, times_fine, times_refused, times_over, times_split}
use Rattle.writing.proofs.Target.{put_out, handed_on, followed}

-- ---- a step whose bits were gathered into a number: it stops, or they are put

module _ {X : Type 0} {cells : List ℤ} {g : Got ℕ X} {w q : ℕ} (r : ℕ) (G : Gathered cells g w q r) where
  refused_by : refused_from ≤ r → silenced g ≡ refused (refusal_in r)
  refused_by h = G.is ∙ rw (went_no r h) refl

  pub gathered_stops : {s s'' : List ℕ} {at : ℕ} → refused_from ≤ r → Walked silent (length cells) g s at (went_by r) s''
  unfolding silenced Answered
  gathered_stops h = as_silent {X = Unit {0}} (refused (refusal_in r)) g (sym (refused_by h)) (record { told = went_no r h })

  put_by : r < refused_from → silenced g ≡ ok (tt {0}) (to_bits w r) q
  put_by h = G.is ∙ rw (went_on r h) refl

  put_all : {s s' : List ℕ} {at next : ℕ} → r < refused_from → next ≡ up_to (at + w) → Stored s at (to_bits w r) s' → Walked silent (length cells) g s at (On 0 q next) s'
  unfolding silenced
  put_all h en P = as_silent {X = Unit {0}} (ok (tt {0}) (to_bits w r) q) g (sym (put_by h)) (put_out w r {X = Unit {0}} {g = ok (tt {0}) (to_bits w r) q} (refl {0}) (G.within h) en P)

  -- the code has the width as another number, which is equal
  pub gathered_put : (v : ℕ) {s s' : List ℕ} {at next : ℕ} → r < refused_from → v ≡ w → next ≡ up_to (at + v) → Stored s at (to_bits v r) s' → Walked silent (length cells) g s at (On 0 q next) s'
  gathered_put v {s} {s'} {at} {next} h ev en P = put_all h (en ∙ ap (λ (j : ℕ). up_to (at + j)) ev) (subst (λ (j : ℕ). Stored s at (to_bits j r) s') ev P)

module _ {X : Type 0} {cells : List ℤ} {g : Got ℕ X} {w q : ℕ} where
  pub gathered_no : {r : ℕ} {why : Refusal} → silenced g ≡ refused why → (went_by r ≡ No why) × (refused_from ≤ r) → Gathered cells g w q r
  gathered_no {r} e n = record { is = e ∙ rw n.0 refl; held = λ h. absurd (omega (arith, n.1)); within = λ h. absurd (omega (arith, n.1)) }

  pub gathered_all : {r : ℕ} → silenced g ≡ ok (tt {0}) (to_bits w r) q → r < 2 ^ w → r < refused_from → q ≤ length cells → Gathered cells g w q r
  gathered_all {r} e h small within = record { is = e ∙ rw (went_on r small) refl; held = λ l. h; within = λ l. within }

-- ---- a cell, judged as the code judges it

cell_outside : (span : ℕ) (z : ℤ) (k : ℕ) → span < height_in span z → write_above span z k ≡ refused (no_value k)
unfolding write_above
cell_outside span (pos m) k h = fail_le m span _ _ (omega arith)
cell_outside span (negsuc m) k h = refl

cell_fine : (span : ℕ) (z : ℤ) (k : ℕ) → height_in span z ≤ span → write_above span z k ≡ ok (height_in span z) (to_bits (width span) (height_in span z)) (k + 1)
unfolding write_above
cell_fine span (pos m) k h =
    let same : min m (span + 1) ≡ m = omega arith in
    rw same (pass_le m span _ _ (omega arith))
cell_fine span (negsuc m) k h = absurd (omega arith)

module _ (cells : List ℤ) (low span : ℕ) where
  abbrev f : Field
  f = field (lowest_of low) span

  pub whole_lacks : (k : ℕ) → length cells ≤ k → write_whole f cells k ≡ refused (no_value (length cells))
  unfolding write_whole
  whole_lacks k h = rw (le-ltb k (length cells) h)

  module _ (k : ℕ) (h : k < length cells) {n : ℕ} (en : n ≡ height_in span (get_or cells k (pos 0) -ℤ lowest_of low)) where
    pub whole_outside : span < n → write_whole f cells k ≡ refused (no_value k)
    unfolding write_whole
    whole_outside l = rw (lt-ltb k (length cells) h) (cell_outside span (get_or cells k (pos 0) -ℤ lowest_of low) k (rw en at l))

    pub whole_fine : n ≤ span → write_whole f cells k ≡ ok n (to_bits (width span) n) (k + 1)
    unfolding write_whole
    whole_fine l = rw (lt-ltb k (length cells) h) (cell_fine span (get_or cells k (pos 0) -ℤ lowest_of low) k (rw en at l) ∙ ap (λ (m : ℕ). ok m (to_bits (width span) m) (k + 1)) (sym en))

-- the machine holds a cell as its bits
pub height_held : (span low : ℕ) (z : ℤ) {n : ℕ} → SFits w64 z → n ≡ height_in span (to_z w64 (of_z w64 z) -ℤ lowest_of low) → n ≡ height_in span (z -ℤ lowest_of low)
height_held span low z h e = e ∙ ap (λ (y : ℤ). height_in span (y -ℤ lowest_of low)) (to_z-of_z h)

-- a number of the span is held in its width
pub held_in : {span n w : ℕ} → n ≤ span → w ≡ width span → n < 2 ^ w
held_in {span} l e = rw e (omega (arith, width_holds span))

pub narrow_in : {span w : ℕ} (most : ℕ) → span < 2 ^ most → w ≡ width span → w ≤ most
narrow_in {span} most h e = omega (arith, width_fewest span most h)

module _ (cells : List ℤ) (low span k : ℕ) {r : ℕ} where
  taken_no : {why : Refusal} → write_whole (field (lowest_of low) span) cells k ≡ refused why → (went_by r ≡ No why) × (refused_from ≤ r) → Taken cells (field (lowest_of low) span) k r
  unfolding silenced
  taken_no e n = record { gathered = gathered_no (rw e refl) n; told = λ h. absurd (omega (arith, n.1)); small = λ h. absurd (omega (arith, n.1)) }

  pub taken_lacks : length cells ≤ k → (went_by r ≡ No (no_value (length cells))) × (refused_from ≤ r) → Taken cells (field (lowest_of low) span) k r
  taken_lacks h n = taken_no (whole_lacks cells low span k h) n

  module _ (h : k < length cells) {n : ℕ} (en : n ≡ height_in span (get_or cells k (pos 0) -ℤ lowest_of low)) where
    pub taken_outside : span < n → (went_by r ≡ No (no_value k)) × (refused_from ≤ r) → Taken cells (field (lowest_of low) span) k r
    taken_outside l w = taken_no (whole_outside cells low span k h en l) w

    pub taken_fine : n ≤ span → span < 2 ^ 32 → r ≡ n → Taken cells (field (lowest_of low) span) k r
    unfolding silenced
    taken_fine l narrow e =
        let is : write_whole (field (lowest_of low) span) cells k ≡ ok r (to_bits (width span) r) (k + 1) = whole_fine cells low span k h en l ∙ ap (λ (m : ℕ). ok m (to_bits (width span) m) (k + 1)) (sym e) in
        record { gathered = gathered_all (rw is refl) (held_in (omega arith) refl) (omega arith) (omega arith); told = λ s. is; small = λ s. omega arith }

-- ---- numbers that are gathered into one

gathered : (j w held x : ℕ) → x < 2 ^ w → to_bits j held ++ to_bits w x ≡ to_bits (j + w) (held * 2 ^ w + x)
gathered j w held x h = sym (to_bits_add j w (held * 2 ^ w + x) ∙ ap₂ (λ (a b : List ℕ). a ++ b) (ap (to_bits j) (high held w h)) (to_bits_low w held x))

gathered_small : (j w held x : ℕ) → held < 2 ^ j → x < 2 ^ w → held * 2 ^ w + x < 2 ^ (j + w)
gathered_small j w held x h l = subst (λ (k : ℕ). held * 2 ^ w + x < k) (sym (pow-add 2 j w)) (digits_lt h l)

-- ---- presence bits: the first of them are gathered, and the others are left

module _ (cells : List ℤ) (k options : ℕ) where
  abbrev pub Flags : ℕ → ℕ → Type 0
  Flags mask i = silenced (bits options writer cells k) ≡ prepend (to_bits i mask) (silenced (bits (options - i) writer cells (k + i)))

  pub flags_begin : Flags 0 0
  unfolding to_bits
  flags_begin = let start : k + 0 ≡ k = omega arith in let all : options - 0 ≡ options = omega arith in rw (start, all) (sym (prepend_none (silenced (bits options writer cells k))))

  module _ (mask i : ℕ) (F : Flags mask i) where
    pub flags_end : i ≡ options → silenced (bits options writer cells k) ≡ ok (tt {0}) (to_bits options mask) (k + options)
    unfolding prepend
    flags_end e =
        F
        ∙ ap (prepend (to_bits i mask)) (bits_none writer cells (options - i) (k + i) (omega arith))
        ∙ ap (λ (l : List ℕ). ok tt l (k + i)) (append-nil (to_bits i mask))
        ∙ ap (λ (j : ℕ). ok tt (to_bits j mask) (k + j)) e

    module _ (more : i < options) {r : ℕ} (T : Taken cells bit (k + i) r) where
      pub flags_stop : refused_from ≤ r → Gathered cells (bits options writer cells k) options (k + options) r
      unfolding prepend silenced
      flags_stop h =
          let e : write_whole bit cells (k + i) ≡ refused (refusal_in r) = told_refused (write_whole bit cells (k + i)) (refused_by r T.gathered h) in
          gathered_no (F ∙ ap (prepend (to_bits i mask)) (bits_refused writer cells (options - i) (k + i) (omega arith) e)) (went_no r h, h)
        where
          told_refused : {X : Type 0} (g : Got ℕ X) {why : Refusal} → silenced g ≡ refused why → g ≡ refused why
          told_refused (ok x out j) {why} e = absurd (let z : ◌≡◌ {A = ℕ} 0 1 = cc in omega arith)
          told_refused (refused w) {why} e = let same : w ≡ why = cc in ap refused same

      pub flags_more : r < refused_from → Flags (mask * 2 + r) (i + 1)
      unfolding halvings
      flags_more h =
          let left : options - i - 1 ≡ options - (i + 1) = omega arith in
          let place : k + i + 1 ≡ k + (i + 1) = omega arith in
          F
          ∙ ap (prepend (to_bits i mask)) (bits_fine writer cells (options - i) (k + i) (omega arith) (T.told h))
          ∙ prepend_more (to_bits i mask) (to_bits 1 r) (silenced (bits (options - i - 1) writer cells (k + i + 1)))
          ∙ ap₂ (λ (n q : ℕ). prepend (to_bits i mask ++ to_bits 1 r) (silenced (bits n writer cells q))) left place
          ∙ ap (λ (b : List ℕ). prepend b (silenced (bits (options - (i + 1)) writer cells (k + (i + 1))))) (gathered i 1 mask r (omega (arith, T.small h)))

pub mask_more : {mask n : ℕ} (i : ℕ) → mask < 2 ^ i → n ≤ 1 → mask * 2 + n < 2 ^ (i + 1)
mask_more {mask} {n} i h l = gathered_small i 1 mask n h (omega arith)

pub mask_small : {mask : ℕ} (i : ℕ) → mask < 2 ^ i → i ≤ 32 → mask < 2 ^ 32
mask_small {mask} i h l = let p : 2 ^ i ≤ 2 ^ 32 = pow_mono {i = i} {j = 32} l in omega arith

-- ---- four numbers

module _ (cells : List ℤ) (low span : ℕ) where
  abbrev pub one : Step (List ℤ) ℕ Value
  one = write (num (field (lowest_of low) span))

  one_is : (k : ℕ) → one cells k ≡ and_then (write_whole (field (lowest_of low) span) cells k) (λ n j. ok (whole (lowest_of low +ℤ pos n)) [] j)
  one_is k = walk_number writer cells (field (lowest_of low) span) k

  module _ (k m : ℕ) (more : 0 < m) (h : k < length cells) {n : ℕ} (en : n ≡ height_in span (get_or cells k (pos 0) -ℤ lowest_of low)) where
    pub next_outside : span < n → silenced (times m one cells k) ≡ refused (no_value k)
    unfolding and_then
    next_outside l = times_refused one cells m k more (one_is k ∙ rw (whole_outside cells low span k h en l) refl)

    pub next_fine : {i : ℕ} → i ≡ k + 1 → n ≤ span → silenced (times m one cells k) ≡ prepend (to_bits (width span) n) (silenced (times (m - 1) one cells i))
    unfolding and_then prepend
    next_fine {i} ei l =
        let v = whole (lowest_of low +ℤ pos n) in
        let e : one cells k ≡ ok v (to_bits (width span) n) (k + 1) = one_is k ∙ rw (whole_fine cells low span k h en l) (ap (λ (b : List ℕ). ok v b (k + 1)) (append-nil (to_bits (width span) n))) in
        times_fine one cells m k more e
        ∙ ap (λ (j : ℕ). prepend (to_bits (width span) n) (silenced (times (m - 1) one cells j))) (sym ei)

  -- more bits behind those that are gathered
  join : (whole rest rest₂ : Got ℕ (Unit {0})) (j w held x : ℕ) → x < 2 ^ w → whole ≡ prepend (to_bits j held) rest → rest ≡ prepend (to_bits w x) rest₂ → whole ≡ prepend (to_bits (j + w) (held * 2 ^ w + x)) rest₂
  join all rest rest₂ j w held x h e e₂ = e ∙ ap (prepend (to_bits j held)) e₂ ∙ prepend_more (to_bits j held) (to_bits w x) rest₂ ∙ ap (λ (b : List ℕ). prepend b rest₂) (gathered j w held x h)

  -- four numbers, as the code takes them; the machine holds a cell as its bits
  module _ (k w : ℕ) (ew : w ≡ width span) (there : k + 4 ≤ length cells) where
    -- what `height` gives of the cell i
    pub record Seen (n i : ℕ) : Type 0 where
      pub is : n ≡ height_in span (get_or cells i (pos 0) -ℤ lowest_of low)

    pub seen : (i : ℕ) {n : ℕ} → SFits w64 (get_or cells i (pos 0)) → n ≡ height_in span (to_z w64 (of_z w64 (get_or cells i (pos 0))) -ℤ lowest_of low) → Seen n i
    seen i h e = record { is = height_held span low (get_or cells i (pos 0)) h e }

    abbrev Four : ℕ → Type 0
    Four r = Gathered cells (times 4 one cells k) (4 * w) (k + 4) r

    abbrev left_at : ℕ → ℕ → Got ℕ (Unit {0})
    left_at m i = silenced (times m one cells i)

    abbrev Stopped : ℕ → ℕ → Type 0
    Stopped r i = (went_by r ≡ No (no_value i)) × (refused_from ≤ r)

    more : (i m n : ℕ) → i < length cells → Seen n i → n ≤ span → 0 < m → {j : ℕ} → j ≡ i + 1 → left_at m i ≡ prepend (to_bits w n) (left_at (m - 1) j)
    more i m n h s l some {j} ej = next_fine i m some h s.is ej l ∙ ap (λ (v : ℕ). prepend (to_bits v n) (left_at (m - 1) j)) (sym ew)

    module _ {a : ℕ} (sa : Seen a k) where
      pub four_first : {r : ℕ} → span < a → Stopped r k → Four r
      four_first l n = gathered_no (next_outside k 4 (omega arith) (omega arith) sa.is l) n

      module _ (la : a ≤ span) {b : ℕ} (sb : Seen b (k + 1)) where
        sum_a : left_at 4 k ≡ prepend (to_bits w a) (left_at 3 (k + 1))
        sum_a = more k 4 a (omega arith) sa la (omega arith) refl

        pub four_second : {r : ℕ} → span < b → Stopped r (k + 1) → Four r
        unfolding prepend
        four_second l n = gathered_no (sum_a ∙ ap (prepend (to_bits w a)) (next_outside (k + 1) 3 (omega arith) (omega arith) sb.is l)) n

        module _ (lb : b ≤ span) {two : ℕ} (e₂ : two ≡ a * 2 ^ w + b) {c : ℕ} (sc : Seen c (k + 2)) where
          sum_b : left_at 4 k ≡ prepend (to_bits (w + w) two) (left_at 2 (k + 2))
          sum_b = rw e₂ (join _ _ _ w w a b (held_in lb ew) sum_a (more (k + 1) 3 b (omega arith) sb lb (omega arith) (omega arith)))

          pub four_third : {r : ℕ} → span < c → Stopped r (k + 2) → Four r
          unfolding prepend
          four_third l n = gathered_no (sum_b ∙ ap (prepend (to_bits (w + w) two)) (next_outside (k + 2) 2 (omega arith) (omega arith) sc.is l)) n

          module _ (lc : c ≤ span) {three : ℕ} (e₃ : three ≡ two * 2 ^ w + c) {d : ℕ} (sd : Seen d (k + 3)) where
            sum_c : left_at 4 k ≡ prepend (to_bits (w + w + w) three) (left_at 1 (k + 3))
            sum_c = rw e₃ (join _ _ _ (w + w) w two c (held_in lc ew) sum_b (more (k + 2) 2 c (omega arith) sc lc (omega arith) (omega arith)))

            pub four_fourth : {r : ℕ} → span < d → Stopped r (k + 3) → Four r
            unfolding prepend
            four_fourth l n = gathered_no (sum_c ∙ ap (prepend (to_bits (w + w + w) three)) (next_outside (k + 3) 1 (omega arith) (omega arith) sd.is l)) n

            held : (ld : d ≤ span) → three * 2 ^ w + d < 2 ^ (w + w + w + w)
            held ld =
                gathered_small (w + w + w) w three d
                (rw e₃ (gathered_small (w + w) w two c (rw e₂ (gathered_small w w a b (held_in la ew) (held_in lb ew))) (held_in lc ew))) (held_in ld ew)

            pub four_all : {r : ℕ} → d ≤ span → span < 256 → r ≡ three * 2 ^ w + d → Four r
            unfolding prepend
            four_all {r} ld narrow er =
                let all : w + w + w + w ≡ 4 * w = omega arith in
                let few : 2 ^ (w + w + w + w) ≤ 2 ^ 32 = pow_mono {i = w + w + w + w} {j = 32} (omega (arith, narrow_in 8 narrow ew)) in
                gathered_all
                (join (left_at 4 k) (left_at 1 (k + 3)) (left_at 0 (k + 4)) (w + w + w) w three d (held_in ld ew) sum_c (more (k + 3) 1 d (omega arith) sd ld (omega arith) (omega arith))
                ∙ ap (prepend (to_bits (w + w + w + w) (three * 2 ^ w + d))) (times_over one cells (k + 4))
                ∙ ap (λ (l : List ℕ). ok tt l (k + 4)) (append-nil (to_bits (w + w + w + w) (three * 2 ^ w + d)))
                ∙ ap₂ (λ (i n : ℕ). ok tt (to_bits i n) (k + 4)) all (sym er))
                (rw (er, ← all) (held ld))
                (omega (arith, held ld))
                there

-- ---- items and runs, by the turns of the loops

module _ (f : Step (List ℤ) ℕ Value) (cells : List ℤ) (m q rest : ℕ) (more : m ≡ rest + 1) where
  one_first : times m f cells q ≡ and_then (f cells q) (λ v i. and_then (times rest f cells i) (λ vs j. ok (item v vs) [] j))
  one_first = let less : m - 1 ≡ rest = omega arith in times_step m f cells q (omega arith) ∙ ap (λ (n : ℕ). and_then (f cells q) (λ v i. and_then (times n f cells i) (λ vs j. ok (item v vs) [] j))) less

  pub item_stops : {s s' s'' : List ℕ} {c : ℕ} (r : ℕ) → refused_from ≤ r → Walked silent (length cells) (f cells q) s c (went_by r) s' → Walked silent (length cells) (times m f cells q) s c (went_by r) s''
  item_stops r h t = rw one_first (handed_on _ r h t)

  pub item_turn : {s s' s'' : List ℕ} {c q' c' : ℕ} {r₂ : Went} → Clean s c → Walked silent (length cells) (f cells q) s c (On 0 q' c') s' → Walked silent (length cells) (times rest f cells q') s' c' r₂ s'' → Walked silent (length cells) (times m f cells q) s c r₂ s''
  item_turn C t u = rw one_first (followed _ C t (λ R. unheard _ _ u))

-- a number is an item
pub single : (cells : List ℤ) (low span q : ℕ) {s s' : List ℕ} {c : ℕ} {w : Went} → Walked silent (length cells) (write_whole (field (lowest_of low) span) cells q) s c w s' → Walked silent (length cells) (one cells low span cells q) s c w s'
single cells low span q t = rw (one_is cells low span q) (unheard _ _ t)

-- four numbers
module _ (cells : List ℤ) (low span m q rest : ℕ) (more : m ≡ rest + 4) where
  apart : silenced (and_then (times 4 (one cells low span) cells q) (λ vs i. times rest (one cells low span) cells i)) ≡ silenced (times m (one cells low span) cells q)
  apart = let e : 4 + rest ≡ m = omega arith in sym (times_split (one cells low span) cells 4 rest q) ∙ ap (λ (n : ℕ). silenced (times n (one cells low span) cells q)) e

  pub four_stops : {s s' s'' : List ℕ} {c : ℕ} (r : ℕ) → refused_from ≤ r → Walked silent (length cells) (times 4 (one cells low span) cells q) s c (went_by r) s' → Walked silent (length cells) (times m (one cells low span) cells q) s c (went_by r) s''
  four_stops r h t = as_silent _ _ apart (handed_on _ r h t)

  pub four_turn : {s s' s'' : List ℕ} {c q' c' : ℕ} {r₂ : Went} → Clean s c → Walked silent (length cells) (times 4 (one cells low span) cells q) s c (On 0 q' c') s' → Walked silent (length cells) (times rest (one cells low span) cells q') s' c' r₂ s'' → Walked silent (length cells) (times m (one cells low span) cells q) s c r₂ s''
  four_turn C t u = as_silent _ _ apart (followed _ C t (λ R. u))
