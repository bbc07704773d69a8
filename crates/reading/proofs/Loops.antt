-- The loops of the walk: what is left of components, or of items, answers the whole. Each law takes one turn.
-- Assumes nothing.
use Prim.Native.Nat.{ℕ, ◌+◌, ◌-◌, ◌/◌, ◌%◌, ◌<◌, ◌≤◌, ◌^◌}
use mathlib.Core.Bool.{cond}
use mathlib.Core.List.{List}
use mathlib.Core.Path.{◌≡◌, refl, ap, ◌∙◌}
use native.Mathlib.Omega.{arith}
use lib.Dec.{eqb}
use lib.IntN.{ℤ, pos, ◌+ℤ◌}
use lib.ListN.{length, set, length-set}
use Rattle.bits.specs.Numbers.{width}
use Rattle.types.specs.Shape.{field}
use Rattle.types.specs.Shape.Ty.{num}
use Rattle.types.specs.Columns as columns
use Rattle.types.specs.Table.{mark_from, mark_room, first_from, first_room, spared_from, word_at, low_in, span_in, column, lowest_of, options_of, root_at, value_outside, fields_of, type_of}
use Rattle.types.specs.Ready.{Ready, PartRows}
use Rattle.types.proofs.Walkable.{part_next, part_direct}
use Rattle.meaning.specs.Values.{Value, Parts}
use Rattle.meaning.specs.Steps.{Got, Step}
use Rattle.meaning.specs.Walk.{times, fields, walk}
use Rattle.meaning.specs.Reading.{Source, read_whole, reader}
use Rattle.walking.specs.Went.{Went}
use Rattle.walking.specs.Went.Went.{On}
use Rattle.walking.specs.Packed.{refused_from, place_room, farthest, up_to, went_by}
use Rattle.walking.specs.Walked.{Walked, silent}
use Rattle.walking.proofs.Laws.{ran, nothing, unheard, times_step, times_none}
use Rattle.walking.proofs.Packed.{went_on}
use Rattle.walking.proofs.Rows.{masked_none}
use Rattle.reading.specs.Given.{message_in, Placed, Counted, Onward}
use Rattle.reading.specs.Taken.{taken_by, top_bits, behind_of}
use Rattle.reading.specs.Telling.{told_went}
use Rattle.reading.proofs.Telling.{told_taken, told_refused}
use Rattle.reading.proofs.Steps.{taken_no, taken_on, taken_end, goes_on, goes_no, place_within, count_within}
use Rattle.reading.proofs.Parts.{fewer_left, part_there, part_absent}

-- ---- components

-- the walk through n components from row f on, of which those are there whose bits at the top of g are 1
abbrev pub parts_read : List ℕ → List ℕ → ℕ → ℕ → ℕ → ℕ → ℕ → Got ℤ Parts
parts_read tb b total f n g q = fields (fields_of (root_at tb) (type_of (root_at tb)) f n) (top_bits (options_of (root_at tb) f n) g) reader (message_in b total) q

pub record Left (tb b : List ℕ) (total f₀ n₀ g₀ q₀ : ℕ) (s₀ : List ℤ) (c₀ f n g q : ℕ) (s : List ℤ) (c : ℕ) : Type 0 where
  pub parts : PartRows tb f n
  pub few : options_of (root_at tb) f n < 64
  pub small : g < 2 ^ 64
  pub place : q ≤ total
  pub next : c ≤ farthest
  pub kept : length s ≡ length s₀
  pub onward : Onward total (parts_read tb b total f n g q) s c (parts_read tb b total f₀ n₀ g₀ q₀) s₀ c₀

module _ {tb b : List ℕ} {total f₀ n₀ g₀ q₀ : ℕ} {s₀ : List ℤ} {c₀ f n g q : ℕ} {s : List ℤ} {c : ℕ} (R : Ready tb) (L : Left tb b total f₀ n₀ g₀ q₀ s₀ c₀ f n g q s c) where
  pub left_end : {w : Went} → n ≤ 0 → w ≡ On 0 q c → Walked silent total (parts_read tb b total f₀ n₀ g₀ q₀) s₀ c₀ w s
  left_end h e = let z : n ≡ 0 = omega arith in L.onward _ _ (rw (masked_none _ _ _ _ _ _ _ _ _ z, e) (nothing L.place L.next))

  module _ (h : 0 < n) {word : ℕ} (e : word ≡ word_at tb f) {here g₂ : ℕ} (eh : here ≡ cond (eqb (word / mark_from % mark_room) 0) (2 ^ 63) g) (eg : g₂ ≡ behind_of (word / mark_from % mark_room) g) (small₂ : g₂ < 2 ^ 64) where
    -- behind a component
    past : {q₂ c₂ : ℕ} {s₂ : List ℤ} → q₂ ≤ total → c₂ ≤ farthest → length s₂ ≡ length s
        → ((w : Went) (s' : List ℤ) → Walked silent total (parts_read tb b total (f + 1) (n - 1) g₂ q₂) s₂ c₂ w s' → Walked silent total (parts_read tb b total f n g q) s c w s')
        → Left tb b total f₀ n₀ g₀ q₀ s₀ c₀ (f + 1) (n - 1) g₂ q₂ s₂ c₂
    past place next kept u = record {
      parts = part_next R L.parts h e;
      few = omega (arith, fewer_left (message_in b total) R L.parts h e L.few g q refl eg, L.few);
      small = small₂;
      place = place;
      next = next;
      kept = kept ∙ L.kept;
      onward = λ w s' t. L.onward w s' (u w s' t);
    }

    pub left_absent : here < 2 ^ 63 → Left tb b total f₀ n₀ g₀ q₀ s₀ c₀ (f + 1) (n - 1) g₂ q s c
    left_absent unset = past L.place L.next refl (λ w s' t. rw (part_absent (message_in b total) R L.parts h e L.few g q refl eg L.small eh unset) (unheard _ _ t))

    module _ (there : 2 ^ 63 ≤ here) where
      -- one with its type's bounds in its word
      module _ (some : 0 < word / spared_from) (P : Placed b total q) {span r : ℕ} (es : span ≡ span_in tb word) (er : (lowest : ℤ) → read_whole (field lowest span) (message_in b total) q ≡ taken_by lowest span q r) where
        pub left_refused : (t : ℕ) {s' : List ℤ} → refused_from ≤ r → went_by t ≡ told_went (value_outside (column tb (word / first_from % first_room) columns.kind)) (word / first_from % first_room) (went_by r) → refused_from ≤ t → Walked silent total (parts_read tb b total f₀ n₀ g₀ q₀) s₀ c₀ (went_by t) s'
        left_refused t stop et stopped = L.onward _ _ (rw (part_there (message_in b total) R L.parts h e L.few g q refl eg L.small eh there, part_direct R L.parts h e some, ← es) (taken_no P _ t (told_refused _ _ P _ span r (er _) t stop et) _ stopped))

        pub left_number : {w low c₁ : ℕ} {s₁ : List ℤ} → length s₀ ≤ farthest → r < refused_from → w ≡ width span → low ≡ low_in tb word → s₁ ≡ set s c (lowest_of low +ℤ pos r) → c₁ ≡ up_to (c + 1) → Left tb b total f₀ n₀ g₀ q₀ s₀ c₀ (f + 1) (n - 1) g₂ (q + w) s₁ c₁
        left_number {w} {low} {c₁} {s₁} room on ew el ss ec =
            let C : Counted s c = record { room = omega (arith, L.kept); next = L.next } in
            let end : q + width span ≤ total = taken_end P (field (pos 0) span) r (er (pos 0)) on in
            past (omega (arith, end)) (omega arith) (ap length ss ∙ length-set s c (lowest_of low +ℤ pos r))
            (λ w' s' t. rw (part_there (message_in b total) R L.parts h e L.few g q refl eg L.small eh there, part_direct R L.parts h e some, ← es, ← el) (taken_on P _ r (told_taken _ _ P (lowest_of low) span r (er (lowest_of low)) on) _ on (ap (λ (k : ℕ). q + k) ew) refl C ss ec (unheard _ _ t)))

      -- any other
      module _ (r : ℕ) {s₁ : List ℤ} (t : Walked silent total (walk (type_of (root_at tb) (word / first_from % first_room)) reader (message_in b total) q) s c (went_by r) s₁) where
        pub left_stops : {s' : List ℤ} → refused_from ≤ r → Walked silent total (parts_read tb b total f₀ n₀ g₀ q₀) s₀ c₀ (went_by r) s'
        left_stops stop = L.onward _ _ (rw (part_there (message_in b total) R L.parts h e L.few g q refl eg L.small eh there) (goes_no r _ t stop))

        pub left_walked : length s₀ ≤ farthest → r < refused_from → Left tb b total f₀ n₀ g₀ q₀ s₀ c₀ (f + 1) (n - 1) g₂ (r % place_room) s₁ (r / place_room)
        left_walked room on =
            past (place_within r t on) (count_within r t on) (ran (went_on r on) t).kept
            (λ w' s' u. rw (part_there (message_in b total) R L.parts h e L.few g q refl eg L.small eh there) (goes_on r _ t (omega (arith, L.kept)) on (λ Q. unheard _ _ u)))

-- ---- items

pub record Turns (one : Step Source ℤ Value) (src : Source) (total n₀ q₀ : ℕ) (s₀ : List ℤ) (c₀ n q : ℕ) (s : List ℤ) (c : ℕ) : Type 0 where
  pub place : q ≤ total
  pub next : c ≤ farthest
  pub kept : length s ≡ length s₀
  pub onward : Onward total (times n one src q) s c (times n₀ one src q₀) s₀ c₀

pub turns_first : {one : Step Source ℤ Value} {src : Source} {total n q : ℕ} {s : List ℤ} {c : ℕ} → q ≤ total → c ≤ farthest → Turns one src total n q s c n q s c
turns_first h l = record { place = h; next = l; kept = refl; onward = λ w s' t. t }

module _ {one : Step Source ℤ Value} {src : Source} {total n₀ q₀ : ℕ} {s₀ : List ℤ} {c₀ n q : ℕ} {s : List ℤ} {c : ℕ} (L : Turns one src total n₀ q₀ s₀ c₀ n q s c) where
  pub turns_end : {w : Went} → n ≤ 0 → w ≡ On 0 q c → Walked silent total (times n₀ one src q₀) s₀ c₀ w s
  turns_end h e = let z : n ≡ 0 = omega arith in L.onward _ _ (rw (times_none _ _ _ _ z, e) (nothing L.place L.next))

  module _ (h : 0 < n) (r : ℕ) {s₁ : List ℤ} (t : Walked silent total (one src q) s c (went_by r) s₁) where
    pub turns_stop : {s' : List ℤ} → refused_from ≤ r → Walked silent total (times n₀ one src q₀) s₀ c₀ (went_by r) s'
    turns_stop stop = L.onward _ _ (rw (times_step _ _ _ _ h) (goes_no r _ t stop))

    pub turns_on : length s₀ ≤ farthest → r < refused_from → Turns one src total n₀ q₀ s₀ c₀ (n - 1) (r % place_room) s₁ (r / place_room)
    turns_on room on = record {
      place = place_within r t on;
      next = count_within r t on;
      kept = (ran (went_on r on) t).kept ∙ L.kept;
      onward = λ w s' u. L.onward w s' (rw (times_step _ _ _ _ h) (goes_on r _ t (omega (arith, L.kept)) on (λ Q. unheard _ _ u)));
    }

-- a whole number
module _ (low span : ℕ) {b : List ℕ} {total n₀ q₀ : ℕ} {s₀ : List ℤ} {c₀ n q : ℕ} {s : List ℤ} {c : ℕ} (L : Turns (walk (num (field (lowest_of low) span)) reader) (message_in b total) total n₀ q₀ s₀ c₀ n q s c) (h : 0 < n) (P : Placed b total q)
    {r : ℕ} (er : (lowest : ℤ) → read_whole (field lowest span) (message_in b total) q ≡ taken_by lowest span q r) where
  pub turns_refused : {s' : List ℤ} → refused_from ≤ r → Walked silent total (times n₀ (walk (num (field (lowest_of low) span)) reader) (message_in b total) q₀) s₀ c₀ (went_by r) s'
  turns_refused stop = L.onward _ _ (rw (times_step _ _ _ _ h) (taken_no P (field (lowest_of low) span) r (er (lowest_of low)) _ stop))

  pub turns_number : {w c₁ : ℕ} {s₁ : List ℤ} → length s₀ ≤ farthest → r < refused_from → w ≡ width span → s₁ ≡ set s c (lowest_of low +ℤ pos r) → c₁ ≡ up_to (c + 1) → Turns (walk (num (field (lowest_of low) span)) reader) (message_in b total) total n₀ q₀ s₀ c₀ (n - 1) (q + w) s₁ c₁
  turns_number {w} room on ew ss ec =
      let C : Counted s c = record { room = omega (arith, L.kept); next = L.next } in
      record {
        place = omega (arith, taken_end P (field (pos 0) span) r (er (pos 0)) on);
        next = omega arith;
        kept = ap length ss ∙ length-set s c (lowest_of low +ℤ pos r) ∙ L.kept;
        onward = λ w' s' u. L.onward w' s' (rw (times_step _ _ _ _ h) (taken_on P (field (lowest_of low) span) r (er (lowest_of low)) _ on (ap (λ (k : ℕ). q + k) ew) refl C ss ec (unheard _ _ u)));
      }
