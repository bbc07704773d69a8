-- The walk through a ready table, in the terms of the code: a row's extension bit, what is chosen, a list's size, and an item that is one field.
-- Assumes nothing.
use Prim.Native.Nat.{ℕ, zero, suc, ◌+◌, ◌-◌, ◌/◌, ◌%◌, ◌<◌, ◌≤◌, ◌^◌}
use mathlib.Core.Bool.{cond}
use mathlib.Core.List.{List, [], ◌∷◌}
use mathlib.Core.Path.{◌≡◌, refl, sym, ap, ◌∙◌}
use native.Mathlib.Omega.{arith}
use borrow.Author.Tests.{eq-eqb, ne_eqb}
use lib.Dec.{eqb}
use lib.IntN.{ℤ, pos, ◌+ℤ◌}
use lib.ListN.{length, set, take}
use Rattle.bits.specs.Numbers.{width, halvings}
use Rattle.bits.specs.Bytes.{bits_of}
use Rattle.bits.specs.Fetching.{code}
use Rattle.bits.proofs.Bytes.{code_none}
use Rattle.answers.specs.Refusals.{short_by}
use Rattle.answers.specs.declared.reasons.Reason.TheVariants as reason
use Rattle.types.specs.Shape.{Ty, Fields, Field, field, told, index_in, size_in}
use Rattle.types.specs.Shape.Ty.{num, seq, choice, list}
use Rattle.types.specs.Kinds as kinds
use Rattle.types.specs.Columns as columns
use Rattle.types.specs.Table.{bias, words_from, kind_room, mark_from, mark_room, bounds_from, first_from, first_room, spared_from, word_at, low_in, span_in, column, lowest_of, options_of, root_at, value_outside, fields_of, alts_of, body_of, type_of}
use Rattle.types.specs.Ready.{Ready, TypeRow, PartRows}
use Rattle.types.proofs.Steps.{type_plain, least_back}
use Rattle.types.proofs.Words.{word_kind}
use Rattle.types.proofs.Walkable.{ready_type, mark_is, number_body, number_wide, parts_at, part_there, part_below, part_row_lem, part_first, part_direct, part_wide}
use Rattle.meaning.specs.Steps.{Got, ok, and_then}
use Rattle.meaning.specs.Values.{Value}
use Rattle.meaning.specs.Walk.{walk, fields, times}
use Rattle.meaning.specs.Reading.{Source, free, read_whole, read_extension, reader}
use Rattle.meaning.proofs.Steps.{then_refused, ok_is_not_refused}
use Rattle.meaning.proofs.Sides.{ReadExtension, read_extension_lem, whole_read}
use Rattle.walking.specs.Went.{Went}
use Rattle.walking.specs.Went.Went.{On, No}
use Rattle.walking.specs.Packed.{refused_from, up_to, went_by}
use Rattle.walking.specs.Walked.{Walked, Answered, silent, IsItself, opened, sized}
use Rattle.walking.proofs.Packed.{went_no}
use Rattle.walking.proofs.Laws.{after_number, unheard}
use Rattle.walking.proofs.Rows.{walk_opened, walk_number, walk_sequence, walk_listed, walk_choice, at_chosen}
use Rattle.reading.specs.Given.{message_in, Placed, Counted, Filled}
use Rattle.reading.specs.Taken.{taken_by, begun_by, cells, top_bits}
use Rattle.reading.specs.Telling.{told_went}
use Rattle.reading.proofs.Answers.{unless_no, unless_on}
use Rattle.reading.proofs.Telling.{told_taken, told_refused}
use Rattle.reading.proofs.Leaves.{message_length}
use Rattle.reading.proofs.Steps.{filled_none, filled_walk, after_filled, taken_stops, taken_so, taken_within, taken_end, taken_walk}
use Rattle.reading.proofs.Parts.{flags_top, flags_stop}

-- the field of a row that is one field, whose bounds stand in a word
abbrev pub own_field : List ℕ → ℕ → ℕ → Field
own_field tb row word = told (value_outside (column tb row columns.kind)) row (field (lowest_of (low_in tb word)) (span_in tb word))

-- by which number its codes are told
pub told_by : (tb : List ℕ) (row : ℕ) → words_from + row < length tb → (word : ℕ) → word ≡ word_at tb row → value_outside (column tb row columns.kind) ≡ value_outside (word % kind_room)
told_by tb row there word e = ap value_outside (word_kind tb row there ∙ ap (λ (w : ℕ). w % kind_room) (sym e))

-- ---- a row: its extension bit, and then what is behind

module _ {b : List ℕ} {total at : ℕ} (P : Placed b total at) (mark p : ℕ) (e : opened mark (read_extension (message_in b total)) at ≡ begun_by p) where
  pub begun_within : p < refused_from → p ≤ total
  unfolding opened
  begun_within h = go mark refl
    where
      so : opened mark (read_extension (message_in b total)) at ≡ ok tt [] p
      so = e ∙ unless_on _ p h

      go : (k : ℕ) → mark ≡ k → p ≤ total
      go zero z = let i : at ≡ p = cc (rw z at so) in omega (arith, P.place)
      go (suc k) z =
          let R : ReadExtension (take total (bits_of b)) at p [] = read_extension_lem (take total (bits_of b)) free at (rw (ne_eqb mark 0 (λ y. omega arith)) at so) in
          omega (arith, R.enough, R.next, message_length P)

  module _ {tb : List ℕ} (R : Ready tb) {row : ℕ} (T : TypeRow tb row) (em : mark ≡ column tb row columns.mark) where
    whole : walk (type_of (root_at tb) row) reader (message_in b total) at ≡ and_then (opened mark (read_extension (message_in b total)) at) (λ x. walk (body_of (root_at tb) (type_of (root_at tb)) row (root_at tb row)) reader (message_in b total))
    whole = ap (λ (t : Ty). walk t reader (message_in b total) at) (ready_type R row) ∙ walk_opened reader (message_in b total) tb (type_of (root_at tb)) row at ∙ rw (← em) refl

    pub begun_stops : {s s' : List ℤ} {c : ℕ} → refused_from ≤ p → Walked silent total (walk (type_of (root_at tb) row) reader (message_in b total) at) s c (went_by p) s'
    unfolding Answered
    begun_stops h = rw (whole ∙ then_refused _ (e ∙ unless_no _ (went_no p h))) (record { told = went_no p h })

    pub begun_on : {s s' : List ℤ} {c : ℕ} {w : Went} → p < refused_from → Counted s c → Walked silent total (walk (body_of (root_at tb) (type_of (root_at tb)) row (root_at tb row)) reader (message_in b total) p) s c w s' → Walked silent total (walk (type_of (root_at tb) row) reader (message_in b total) at) s c w s'
    begun_on h C u = rw (whole, e ∙ unless_on _ p h) (after_filled _ (begun_within h) C.room (filled_none C) u)

-- ---- the alternative of an index

module _ {tb : List ℕ} (R : Ready tb) {f span k : ℕ} (P : PartRows tb f (span + 1)) (h : k ≤ span) {word : ℕ} (e : word ≡ word_at tb (f + k)) where
  those : PartRows tb (f + k) (span + 1 - k)
  those = parts_at R k (omega arith) P

  pub chosen_there : words_from + (f + k) < length tb
  chosen_there = part_there R those (omega arith) e

  pub chosen_first : word / first_from % first_room ≡ column tb (f + k) columns.first
  chosen_first = part_first R those (omega arith) e

  pub chosen_below : word / first_from % first_room < f + k
  chosen_below = part_below R those (omega arith) e

  pub chosen_row : TypeRow tb (word / first_from % first_room)
  chosen_row = part_row_lem R those (omega arith) e

  -- one whose word has its type's bounds
  module _ (some : 0 < word / spared_from) where
    pub chosen_number : type_of (root_at tb) (word / first_from % first_room) ≡ num (own_field tb (word / first_from % first_room) word)
    chosen_number = part_direct R those (omega arith) e some

    pub chosen_wide : 0 < span_in tb word
    chosen_wide = part_wide R those (omega arith) e some

-- ---- an item that is one field

pub item_wide : {tb : List ℕ} (R : Ready tb) {row : ℕ} (T : TypeRow tb row) {word : ℕ} → word ≡ word_at tb row → word % bounds_from < kinds.sequence → 0 < span_in tb word
item_wide R T {word} e h = let kind : word % kind_room < kinds.sequence = omega arith in number_wide R T e kind

pub plain_item : {tb : List ℕ} (R : Ready tb) {row : ℕ} (T : TypeRow tb row) {word : ℕ} → word ≡ word_at tb row → word % bounds_from < kinds.sequence → type_of (root_at tb) row ≡ num (own_field tb row word)
plain_item {tb} R {row} T {word} e h =
    let mark : word / mark_from % mark_room ≡ 0 = omega arith in
    let kind : word % kind_room < kinds.sequence = omega arith in
    ready_type R row ∙ type_plain tb (type_of (root_at tb)) row (mark_is R T e) mark ∙ number_body R T e kind

-- ---- the size of a list

pub least_is : (low : ℕ) → bias ≤ low → lowest_of low ≡ pos (low - bias)
least_is low h = let e : low ≡ low - bias + bias = omega arith in ap lowest_of e ∙ least_back (low - bias)

module _ {b : List ℕ} {total at : ℕ} (P : Placed b total at) (f : Field) (r : ℕ) (e : read_whole f (message_in b total) at ≡ taken_by f.lowest f.span at r) where
  no_bits : f.span ≡ 0 → read_whole f (message_in b total) at ≡ ok 0 ((f.lowest +ℤ pos 0) ∷ []) (at + width f.span)
  unfolding halvings
  no_bits z =
      let w : width f.span ≡ 0 = ap width z in
      whole_read (take total (bits_of b)) free f at 0 tt (omega arith) (ap (code (take total (bits_of b)) at) w ∙ sym (code_none (take total (bits_of b)) at)) (omega arith)

  pub size_stops : {Y : Type 0} {agrees : Y → ℕ → Type 0} {s s' : List ℤ} {c : ℕ} (k : ℕ → ℕ → Got ℤ Y) → refused_from ≤ r → Walked agrees total (and_then (sized f.span (read_whole f (message_in b total)) at) k) s c (went_by r) s'
  unfolding sized
  size_stops {agrees = agrees} {s} {s'} {c} k h = go f.span refl
    where
      go : (n : ℕ) → f.span ≡ n → Walked agrees total (and_then (cond (eqb f.span 0) (ok 0 [] at) (read_whole f (message_in b total) at)) k) s c (went_by r) s'
      go zero z = absurd (ok_is_not_refused (sym (e ∙ unless_no _ (went_no r h)) ∙ no_bits z))
      go (suc n) z = rw (ne_eqb f.span 0 (λ y. omega arith)) (taken_stops P f r e k h)

  pub size_walk : {s s₁ : List ℤ} {c c₁ q : ℕ} {v : ℤ} → r < refused_from → q ≡ at + width f.span → v ≡ f.lowest +ℤ pos r → Filled (cond (eqb f.span 0) [] (v ∷ [])) s c c₁ s₁ → Walked IsItself total (sized f.span (read_whole f (message_in b total)) at) s c (On r q c₁) s₁
  unfolding sized halvings
  size_walk {s} {s₁} {c} {c₁} {q} {v} h eq ev F = go f.span refl
    where
      go : (n : ℕ) → f.span ≡ n → Walked IsItself total (cond (eqb f.span 0) (ok 0 [] at) (read_whole f (message_in b total) at)) s c (On r q c₁) s₁
      go zero z =
          let w : width f.span ≡ 0 = ap width z in
          let i : at ≡ q = omega arith in
          rw (eq-eqb f.span 0 z, i) (filled_walk IsItself (omega (arith, P.place)) 0 r (omega (arith, taken_within P f r e h)) (rw (eq-eqb f.span 0 z) at F))
      go (suc n) z =
          let isnt = ne_eqb f.span 0 (λ y. omega arith) in
          rw (isnt, taken_so P f r e h, ← ev, ← eq) (filled_walk IsItself (omega (arith, taken_end P f r e h)) r r refl (rw isnt at F))

-- ---- a row that is a number

pub number_row : (src : Source) (q : ℕ) {tb : List ℕ} (R : Ready tb) {row : ℕ} (T : TypeRow tb row) {word : ℕ} → word ≡ word_at tb row → word % kind_room < kinds.sequence → {total : ℕ} {w : Went} {s s' : List ℤ} {c : ℕ} → Walked silent total (read_whole (own_field tb row word) src q) s c w s'
    → Walked silent total (walk (body_of (root_at tb) (type_of (root_at tb)) row (root_at tb row)) reader src q) s c w s'
number_row src q {tb} R {row} T {word} e k u = rw (number_body R T e k, walk_number reader src (own_field tb row word) q) (unheard _ _ u)

-- ---- a sequence: its presence bits, and then its components

module _ {b : List ℕ} {total at : ℕ} (P : Placed b total at) (tb : List ℕ) (f n : ℕ) {options : ℕ} (eo : options ≡ options_of (root_at tb) f n) where
  abbrev components : Fields
  components = fields_of (root_at tb) (type_of (root_at tb)) f n

  pub sequence_stops : {w : Went} {s s' : List ℤ} {c : ℕ} → total < at + options → w ≡ No (short_by 1 total) → Walked silent total (walk (seq components) reader (message_in b total) at) s c w s'
  sequence_stops h e = rw (walk_sequence _ _ _ _, e) (flags_stop P tb (type_of (root_at tb)) f n eo _ h)

  pub sequence_goes : (bits : ℕ) {w : Went} {s s₁ s₂ : List ℤ} {c c₁ : ℕ} → at + options ≤ total → options ≤ 57 → ((k : ℕ) → k ≤ 57 → bits / 2 ^ (64 - k) ≡ code (bits_of b) at k) → Counted s c → Filled (cells (top_bits options bits)) s c c₁ s₁
      → Walked silent total (fields components (top_bits (options_of (root_at tb) f n) bits) reader (message_in b total) (at + options)) s₁ c₁ w s₂ → Walked silent total (walk (seq components) reader (message_in b total) at) s c w s₂
  sequence_goes bits h narrow eb C F u = rw (walk_sequence _ _ _ _, flags_top P tb (type_of (root_at tb)) f n eo bits h (eb options narrow)) (after_filled _ h C.room F (unheard _ _ u))

-- ---- a choice: its index, and then the alternative

abbrev pub choice_at : List ℕ → ℕ → ℕ → List ℕ → ℕ → ℕ → Got ℤ Value
choice_at tb row word b total at = walk (choice row (alts_of (root_at tb) (type_of (root_at tb)) (word / first_from % first_room) (span_in tb word))) reader (message_in b total) at

module _ (tb : List ℕ) {b : List ℕ} {total at : ℕ} (P : Placed b total at) (row word : ℕ) {span r : ℕ} (es : span ≡ span_in tb word) (er : (lowest : ℤ) → read_whole (field lowest span) (message_in b total) at ≡ taken_by lowest span at r) where
  pub choice_stops : (t : ℕ) {s s' : List ℤ} {c : ℕ} → refused_from ≤ r → went_by t ≡ told_went reason.AlternativeOutside row (went_by r) → refused_from ≤ t → Walked silent total (choice_at tb row word b total at) s c (went_by t) s'
  choice_stops t h et k = rw (walk_choice _ _ _ _ _ _ _ _, ← es) (taken_stops P (index_in row span) t (told_refused _ row P (pos 0) span r (er (pos 0)) t h et) _ k)

  module _ (h : r < refused_from) where
    pub index_within : r ≤ span_in tb word
    index_within = omega (arith, taken_within P (field (pos 0) span) r (er (pos 0)) h)

    pub behind_index : {w : ℕ} → w ≡ width span → Placed b total (at + w)
    behind_index ew = record { place = omega (arith, taken_end P (field (pos 0) span) r (er (pos 0)) h); few = P.few; padded = P.padded }

    module _ (R : Ready tb) (Q : PartRows tb (word / first_from % first_room) (span_in tb word + 1)) {part : ℕ} (ep : part ≡ word_at tb (word / first_from % first_room + r))
        {w c c₁ : ℕ} {s s₁ : List ℤ} (C : Counted s c) (ew : w ≡ width span) (ss : s₁ ≡ set s c (pos 0 +ℤ pos r)) (ec : c₁ ≡ up_to (c + 1)) where
      pub choice_walk : {wr : Went} {s₂ : List ℤ} → Walked silent total (walk (type_of (root_at tb) (part / first_from % first_room)) reader (message_in b total) (at + w)) s₁ c₁ wr s₂ → Walked silent total (choice_at tb row word b total at) s c wr s₂
      choice_walk u =
          rw (walk_choice _ _ _ _ _ _ _ _, ← es)
          (after_number _ C.room refl (taken_walk P (index_in row span) r (told_taken _ row P (pos 0) span r (er (pos 0)) h) h IsItself r refl (ap (λ (k : ℕ). at + k) ew) refl C ss ec)
          (unheard {agrees = silent} _ _ (rw (at_chosen _ _ _ _ _ _ _ (chosen_first R Q index_within ep) (taken_within P (field (pos 0) span) r (er (pos 0)) h)) u)))

      pub choice_number : {wr : Went} {s₂ : List ℤ} → 0 < part / spared_from → Walked silent total (read_whole (own_field tb (part / first_from % first_room) part) (message_in b total) (at + w)) s₁ c₁ wr s₂ → Walked silent total (choice_at tb row word b total at) s c wr s₂
      choice_number some u = choice_walk (rw (chosen_number R Q index_within ep some, walk_number _ _ _ _) (unheard _ _ u))

-- ---- a list: its size, and then its items

abbrev pub list_at : List ℕ → ℕ → ℕ → Ty → List ℕ → ℕ → ℕ → Got ℤ Value
list_at tb row word t b total at = walk (list row (low_in tb word - bias) (span_in tb word) t) reader (message_in b total) at

module _ (tb : List ℕ) {b : List ℕ} {total at : ℕ} (P : Placed b total at) (row word : ℕ) (t : Ty) {span r : ℕ} (es : span ≡ span_in tb word) (er : (lowest : ℤ) → read_whole (field lowest span) (message_in b total) at ≡ taken_by lowest span at r) where
  pub list_stops : (a : ℕ) {s s' : List ℤ} {c : ℕ} → refused_from ≤ r → went_by a ≡ told_went reason.SizeOutside row (went_by r) → refused_from ≤ a → Walked silent total (list_at tb row word t b total at) s c (went_by a) s'
  list_stops a h ea k = rw (walk_listed _ _ _ _ _ _ _, ← es) (size_stops P (size_in row (low_in tb word - bias) span) a (told_refused _ row P (pos (low_in tb word - bias)) span r (er (pos (low_in tb word - bias))) a h ea) _ k)

  pub list_goes : {low w c c₁ : ℕ} {s s₁ s₂ : List ℤ} {wr : Went} → r < refused_from → low ≡ low_in tb word → bias ≤ low_in tb word → Counted s c → w ≡ width span → Filled (cond (eqb span 0) [] ((lowest_of low +ℤ pos r) ∷ [])) s c c₁ s₁
      → Walked silent total (times (low + r - bias) (walk t reader) (message_in b total) (at + w)) s₁ c₁ wr s₂ → Walked silent total (list_at tb row word t b total at) s c wr s₂
  list_goes {low} h el l C ew F u =
      let is : lowest_of low ≡ pos (low_in tb word - bias) = ap lowest_of el ∙ least_is (low_in tb word) l in
      let n : low_in tb word - bias + r ≡ low + r - bias = omega arith in
      rw (walk_listed _ _ _ _ _ _ _, ← es)
      (after_number _ C.room refl (size_walk P (size_in row (low_in tb word - bias) span) r (told_taken _ row P (pos (low_in tb word - bias)) span r (er (pos (low_in tb word - bias))) h) h (ap (λ (k : ℕ). at + k) ew) (ap (λ (z : ℤ). z +ℤ pos r) is) F)
      (unheard {agrees = silent} _ _ (rw n u)))
