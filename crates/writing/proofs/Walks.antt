-- The walk of a row, of its components, its alternatives and its items, as the code takes them from words.
-- Assumes nothing.
use Prim.Native.Nat.{ℕ, zero, suc, ◌+◌, ◌-◌, ◌/◌, ◌%◌, ◌<◌, ◌≤◌}
use mathlib.Core.Bool.{Bool, true, false, cond}
use mathlib.Core.List.{List, [], ◌∷◌}
use mathlib.Core.Path.{◌≡◌, refl, sym, ap, subst, ◌∙◌}
use native.Mathlib.Omega.{arith}
use borrow.Author.Tests.{ltb-true, ltb-false, ne_eqb}
use lib.Dec.{eqb}
use lib.IntN.{ℤ, pos, ◌+ℤ◌, ◌-ℤ◌, -ℤ-+ℤ_cancel, pos-+ℤ-pos}
use lib.ListN.{length, get_or}
use Rattle.basics.specs.Lists.{natural, cell_at}
use Rattle.bits.specs.Numbers.{to_bits, width}
use Rattle.types.specs.Shape.{Ty, Fields, field}
use Rattle.types.specs.Shape.Ty.{num, seq, choice, list}
use Rattle.types.specs.Shape.Fields.{must, may}
use Rattle.types.specs.Row.{Row}
use Rattle.types.specs.Kinds as kinds
use Rattle.types.specs.Columns as columns
use Rattle.types.specs.Table.{bias, kind_room, mark_from, mark_room, bounds_from, first_from, first_room, spared_from, word_at, low_in, span_in, column, lowest_of, root_at, options_of, fields_of, alts_of, body_of, type_of}
use Rattle.types.specs.Ready.{Ready, TypeRow, PartRows}
use Rattle.types.proofs.Steps.{type_plain, least_back}
use Rattle.types.proofs.Walkable.{ready_type, mark_is, number_body, part_first, part_mark, part_next, part_direct}
use Rattle.meaning.specs.Values.{Parts, chosen, there}
use Rattle.meaning.specs.Steps.{Got, Step, pure, and_then, ◌>>=◌}
use Rattle.meaning.specs.Steps.Got.{ok}
use Rattle.meaning.specs.Walk.{Side, bit, flags, bits, times, fields, alternative}
use Rattle.meaning.specs.Writing.{write_whole, writer, write}
use Rattle.meaning.proofs.Sides.{write_whole_lem}
use Rattle.walking.specs.Packed.{refused_from, farthest, went_by}
use Rattle.walking.specs.Walked.{Walked, silent, flags_from, present_of, past_of, sized}
use Rattle.walking.specs.Went.{Went}
use Rattle.walking.specs.Went.Went.{On}
use Rattle.meaning.proofs.Unowned.{field_unowned, step_unowned, whole_unowned, number_unowned}
use Rattle.walking.proofs.Laws.{after, nothing, unheard}
use Rattle.walking.proofs.Rows.{walk_number, walk_opened, walk_sequence, walk_listed, flags_seen, left_there, left_absent, walk_choice, at_chosen}
use Rattle.writing.specs.Target.{Clean, begun_by}
use Rattle.writing.specs.Cells.{is_present}
use Rattle.writing.proofs.Target.{roomy, handed_on, followed, begun_walked}

-- ---- cells that were written, seen again

above : (z : ℤ) (least n : ℕ) → z -ℤ pos least ≡ pos n → natural z ≡ least + n
above z least n e =
    let again : z ≡ pos (n + least) = sym (-ℤ-+ℤ_cancel z (pos least)) ∙ ap (λ (v : ℤ). v +ℤ pos least) e ∙ pos-+ℤ-pos n least in
    ap natural again ∙ omega arith

-- an index or a presence bit is its cell
seen_whole : (cells : List ℤ) (span i n j : ℕ) (out : List ℕ) → write_whole (field (pos 0) span) cells i ≡ ok n out j → (n ≡ cell_at cells i) × (n ≤ span) × (j ≡ i + 1)
seen_whole cells span i n j out e =
    let W = write_whole_lem cells (field (pos 0) span) i e in
    (omega (arith, above (get_or cells i (pos 0)) 0 n W.is), W.within, sym W.next)

-- ---- presence bits: as many as there are OPTIONAL components

flags_as_bits : {I B : Type 0} (S : Side I B) (table : ℕ → Row) (look : ℕ → Ty) (n f : ℕ) → flags (fields_of table look f n) S ≡ bits (options_of table f n) S
unfolding flags bits fields_of options_of
flags_as_bits S table look zero f = refl
flags_as_bits {I} {B} S table look (suc n) f = go (eqb (table f).mark 0) (flags_as_bits S table look n (f + 1))
  where
    go : (b : Bool) → flags (fields_of table look (f + 1) n) S ≡ bits (options_of table (f + 1) n) S → flags (cond b (must (look (table f).first) (fields_of table look (f + 1) n)) (may (look (table f).first) (fields_of table look (f + 1) n))) S ≡ bits (cond b (options_of table (f + 1) n) (suc (options_of table (f + 1) n))) S
    go true rest = rest
    go false rest = ap (λ (others : Step I B (List ℕ)). S.whole bit >>= (λ k. others >>= (λ ns. pure (k ∷ ns)))) rest

-- what is left of components, by their presence cells
abbrev pub left : List ℕ → List ℤ → ℕ → ℕ → ℕ → ℕ → Got ℕ Parts
left tb cells g m p q = fields (fields_of (root_at tb) (type_of (root_at tb)) g m) (flags_from (fields_of (root_at tb) (type_of (root_at tb)) g m) (cell_at cells) p) writer cells q

module _ {tb : List ℕ} (R : Ready tb) (cells : List ℤ) where
  abbrev types : ℕ → Ty
  types = type_of (root_at tb)

  -- ---- a row: its extension bit, and its body

  module _ {row : ℕ} (T : TypeRow tb row) {word : ℕ} (e : word ≡ word_at tb row) (k : ℕ) {s s' : List ℕ} {place : ℕ} {w : Went} where
    pub row_walked : {at : ℕ} → Clean s at → at ≤ farthest → k ≤ length cells → place ≡ begun_by (word / mark_from % mark_room) at → Walked silent (length cells) (write (body_of (root_at tb) types row (root_at tb row)) cells k) s place w s' → Walked silent (length cells) (write (types row) cells k) s at w s'
    row_walked C near h ep u =
        rw (ready_type R row, walk_opened writer cells tb types row k, ← mark_is R T e)
        (after _ (roomy C) refl (begun_walked cells (word / mark_from % mark_room) k (length cells) C near h ep) u)

    pub row_number : word % kind_room < kinds.sequence → Walked silent (length cells) (write_whole (field (lowest_of (low_in tb word)) (span_in tb word)) cells k) s place w s' → Walked silent (length cells) (write (body_of (root_at tb) types row (root_at tb row)) cells k) s place w s'
    row_number h t = rw (number_body R T e h, number_unowned cells k _ _ _ _, walk_number writer cells _ k) (unheard _ _ t)

  pub plain_item : {row : ℕ} (T : TypeRow tb row) {word : ℕ} (e : word ≡ word_at tb row) → word % bounds_from < kinds.sequence → write (types row) ≡ write (num (field (lowest_of (low_in tb word)) (span_in tb word)))
  plain_item {row} T {word} e h = ap write (ready_type R row ∙ type_plain tb types row (mark_is R T e) (omega arith) ∙ number_body R T e (omega arith)) ∙ step_unowned _ _ _ _

  -- ---- a sequence: its presence bits, and its components

  module _ (f n options k : ℕ) (eo : options ≡ options_of (root_at tb) f n) where
    abbrev parts : Fields
    parts = fields_of (root_at tb) types f n

    as_flags : {s s' : List ℕ} {c : ℕ} {w : Went} → Walked silent (length cells) (bits options writer cells k) s c w s' → Walked silent (length cells) (flags parts writer cells k) s c w s'
    as_flags t = rw (flags_as_bits writer (root_at tb) types n f, ← eo) t

    pub sequence_stops : {s s' s'' : List ℕ} {c : ℕ} (r : ℕ) → refused_from ≤ r → Walked silent (length cells) (bits options writer cells k) s c (went_by r) s' → Walked silent (length cells) (write (seq parts) cells k) s c (went_by r) s''
    sequence_stops r h t = rw (walk_sequence writer cells parts k) (handed_on _ r h (as_flags t))

    pub sequence_goes : {s s' s'' : List ℕ} {c q c' : ℕ} {r₂ : Went} → Clean s c → Walked silent (length cells) (bits options writer cells k) s c (On 0 q c') s' → Walked silent (length cells) (fields parts (flags_from parts (cell_at cells) k) writer cells q) s' c' r₂ s'' → Walked silent (length cells) (write (seq parts) cells k) s c r₂ s''
    sequence_goes C t u =
        rw (walk_sequence writer cells parts k)
        (followed _ C (as_flags t) (λ Q. unheard {agrees = silent} _ _ (rw (flags_seen writer cells (cell_at cells) (λ i m j out e. let seen = seen_whole cells 1 i m j out e in (seen.0, seen.2)) parts k _ _ _ Q.is) u)))

  -- the first of m components, behind which `rest` are left
  module _ {g m : ℕ} (P : PartRows tb g m) (rest : ℕ) (more : m ≡ rest + 1) {part : ℕ} (e : part ≡ word_at tb g) (p q : ℕ) {p₂ : ℕ} (ep : p₂ ≡ past_of (part / mark_from % mark_room) p) where
    pub parts_left : PartRows tb (g + 1) rest
    parts_left = let less : m - 1 ≡ rest = omega arith in subst (PartRows tb (g + 1)) less (part_next R P (omega arith) e)

    pub part_absent : {s s'' : List ℕ} {c : ℕ} {r₂ : Went} → is_present (part / mark_from % mark_room) cells p ≡ false → Walked silent (length cells) (left tb cells (g + 1) rest p₂ q) s c r₂ s'' → Walked silent (length cells) (left tb cells g m p q) s c r₂ s''
    part_absent lacks u =
        let none : present_of (part / mark_from % mark_room) (cell_at cells p) ≡ 0 = omega (arith, ltb-false 0 (present_of (part / mark_from % mark_room) (cell_at cells p)) lacks) in
        let less : m - 1 ≡ rest = omega arith in
        rw (left_absent writer cells tb types (cell_at cells) g m p q (omega arith) (part_mark R P (omega arith) e) refl ep none, less) (unheard _ _ u)

    module _ (has : is_present (part / mark_from % mark_room) cells p ≡ true) where
      there_is : left tb cells g m p q ≡ and_then (write (types (part / first_from % first_room)) cells q) (λ v i. and_then (left tb cells (g + 1) rest p₂ i) (λ ps j. ok (there v ps) [] j))
      there_is =
          let less : m - 1 ≡ rest = omega arith in
          let some : 0 < present_of (part / mark_from % mark_room) (cell_at cells p) = ltb-true 0 (present_of (part / mark_from % mark_room) (cell_at cells p)) has in
          left_there writer cells tb types (cell_at cells) g m p q (omega arith) (part_mark R P (omega arith) e) refl ep (part_first R P (omega arith) e) (λ z. omega arith)
          ∙ ap (λ (n : ℕ). and_then (write (types (part / first_from % first_room)) cells q) (λ v i. and_then (left tb cells (g + 1) n p₂ i) (λ ps j. ok (there v ps) [] j))) less

      pub part_stops : {s s' s'' : List ℕ} {c : ℕ} (r : ℕ) → refused_from ≤ r → Walked silent (length cells) (write (types (part / first_from % first_room)) cells q) s c (went_by r) s' → Walked silent (length cells) (left tb cells g m p q) s c (went_by r) s''
      part_stops r l t = rw there_is (handed_on _ r l t)

      pub part_turn : {s s' s'' : List ℕ} {c q' c' : ℕ} {r₂ : Went} → Clean s c → Walked silent (length cells) (write (types (part / first_from % first_room)) cells q) s c (On 0 q' c') s' → Walked silent (length cells) (left tb cells (g + 1) rest p₂ q') s' c' r₂ s'' → Walked silent (length cells) (left tb cells g m p q) s c r₂ s''
      part_turn C t u = rw there_is (followed _ C t (λ Q. unheard _ _ u))

    -- a component whose word spares the look at its type is a number
    pub part_number : {s s' : List ℕ} {c : ℕ} {w : Went} → spared_from ≤ part → Walked silent (length cells) (write_whole (field (lowest_of (low_in tb part)) (span_in tb part)) cells q) s c w s' → Walked silent (length cells) (write (types (part / first_from % first_room)) cells q) s c w s'
    part_number l t = rw (part_direct R P (omega arith) e (omega arith), number_unowned cells q _ _ _ _, walk_number writer cells _ q) (unheard _ _ t)

  -- ---- a choice: its index, and the alternative

  module _ (f span k : ℕ) where
    pub choice_stops : {s s' s'' : List ℕ} {c : ℕ} (r : ℕ) → refused_from ≤ r → Walked silent (length cells) (write_whole (field (pos 0) span) cells k) s c (went_by r) s' → Walked silent (length cells) (write (choice 0 (alts_of (root_at tb) types f span)) cells k) s c (went_by r) s''
    choice_stops r h t = rw (walk_choice writer cells tb types 0 f span k, whole_unowned cells k _ _ (pos 0) span) (handed_on _ r h t)

    pub choice_goes : {s s' s'' : List ℕ} {c : ℕ} (n : ℕ) {q c' item : ℕ} {r₂ : Went} → Clean s c → Walked silent (length cells) (write_whole (field (pos 0) span) cells k) s c (On 0 q c') s' → write_whole (field (pos 0) span) cells k ≡ ok n (to_bits (width span) n) (k + 1) → n ≤ span → item ≡ column tb (f + n) columns.first → Walked silent (length cells) (write (types item) cells q) s' c' r₂ s'' → Walked silent (length cells) (write (choice 0 (alts_of (root_at tb) types f span)) cells k) s c r₂ s''
    choice_goes {s} {s'} {s''} {c} n {q} {c'} {item} {r₂} C t told within ei u =
        rw (walk_choice writer cells tb types 0 f span k, whole_unowned cells k _ _ (pos 0) span)
        (followed _ C t (λ Q.
        let both : ok n (to_bits (width span) n) (k + 1) ≡ ok Q.x Q.out q = sym told ∙ Q.is in
        let index : n ≡ Q.x = cc in
        subst (λ (x : ℕ). Walked silent (length cells) (and_then (alternative (alts_of (root_at tb) types f span) x writer cells q) (λ v j. ok (chosen x v) [] j)) s' c' r₂ s'') index
        (unheard {agrees = silent} _ _ (rw (at_chosen writer cells tb types f span n ei within) u))))

  -- ---- a list: its size, and the items

  module _ (low span item k : ℕ) (sizes : bias ≤ low) where
    least_is : lowest_of low ≡ pos (low - bias)
    least_is = let e : low ≡ low - bias + bias = omega arith in ap lowest_of e ∙ least_back (low - bias)

    abbrev pub size : Got ℕ ℕ
    size = sized span (write_whole (field (pos (low - bias)) span) cells) k

    -- so many items: the least, and as many more as the size tells
    abbrev pub Many : ℕ → Type 0
    Many n = (x : ℕ) (out : List ℕ) (j : ℕ) → size ≡ ok x out j → low - bias + x ≡ n

    pub size_fixed : span ≡ 0 → {s : List ℕ} {c : ℕ} → k ≤ length cells → c ≤ farthest → Walked silent (length cells) size s c (On 0 k c) s
    unfolding sized
    size_fixed z h near = rw z (nothing h near)

    pub many_fixed : span ≡ 0 → Many (low - bias)
    unfolding sized
    many_fixed z x out j e = let none : ok 0 [] k ≡ ok x out j = rw z at e in let is : 0 ≡ x = cc in omega arith

    module _ (some : span ≡ 0 → ⊥) where
      pub size_coded : {s s' : List ℕ} {c : ℕ} {w : Went} → Walked silent (length cells) (write_whole (field (lowest_of low) span) cells k) s c w s' → Walked silent (length cells) size s c w s'
      unfolding sized
      size_coded t = rw (ne_eqb span 0 some, ← least_is) t

      pub many_coded : {x : ℕ} {bits : List ℕ} {i : ℕ} → write_whole (field (lowest_of low) span) cells k ≡ ok x bits i → Many (low - bias + x)
      unfolding sized
      many_coded {x} {bits} {i} told y out j e =
          let coded : write_whole (field (lowest_of low) span) cells k ≡ ok y out j = rw least_is (rw (ne_eqb span 0 some) at e) in
          let both : ok x bits i ≡ ok y out j = sym told ∙ coded in
          let is : x ≡ y = cc in
          omega arith

      pub list_stops : {s s' s'' : List ℕ} {c : ℕ} (r : ℕ) → refused_from ≤ r → Walked silent (length cells) (write_whole (field (lowest_of low) span) cells k) s c (went_by r) s' → Walked silent (length cells) (write (list 0 (low - bias) span (types item)) cells k) s c (went_by r) s''
      list_stops r h t = rw (walk_listed writer cells 0 (low - bias) span (types item) k, field_unowned _ _ (pos (low - bias)) span) (handed_on _ r h (size_coded t))

    pub list_goes : {s s' s'' : List ℕ} {n c q c' : ℕ} {r₂ : Went} → Clean s c → Walked silent (length cells) size s c (On 0 q c') s' → Many n → Walked silent (length cells) (times n (write (types item)) cells q) s' c' r₂ s'' → Walked silent (length cells) (write (list 0 (low - bias) span (types item)) cells k) s c r₂ s''
    list_goes C t many u =
        rw (walk_listed writer cells 0 (low - bias) span (types item) k, field_unowned _ _ (pos (low - bias)) span)
        (followed _ C t (λ Q. unheard {agrees = silent} _ _ (rw (many Q.x Q.out _ Q.is) u)))
