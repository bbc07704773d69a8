-- What the entry answers, of the walk into cells apart.
-- Assumes nothing.
use Prim.Native.Nat.{ℕ, zero, suc, ◌+◌, ◌-◌, ◌*◌, ◌%◌, ◌<◌, ◌≤◌}
use mathlib.Core.Bool.{Bool, true, false, cond}
use mathlib.Core.List.{List, [], ◌∷◌, ◌++◌, append-nil}
use mathlib.Core.Path.{◌≡◌, refl, sym, ap, ap₂, subst, ◌∙◌, fun_ext}
use native.Mathlib.Omega.{arith}
use borrow.Author.Tests.{lt-ltb, le-ltb, eq-eqb, ne_eqb}
use lib.Dec.{T, leb, eqb, leb→le}
use lib.IntN.{ℤ}
use lib.ListN.{length, take, drop, length-drop, drop_of_length-le}
use lib.Seq.{sets-eq, take_all, take_at, length-take-le}
use Rattle.bits.specs.Numbers.{val}
use Rattle.bits.specs.Bytes.{bits_of}
use Rattle.bits.specs.Fetching.{code}
use Rattle.bits.proofs.Bytes.{bits_of_length, bits_of_append}
use Rattle.answers.specs.Refusals.{too_long, unknown_type, spare_bits}
use Rattle.answers.specs.Answers.{done, refused_by, no_room, lent_after}
use Rattle.answers.specs.declared.Answer.{Answer}
use Rattle.answers.proofs.Lent.{lent_kept, kept_by, made_by, numbered, lent_filled}
use Rattle.basics.specs.Lists.{filled}
use Rattle.types.specs.Shape.{Ty}
use Rattle.types.specs.Row.{Row}
use Rattle.types.specs.Kinds as kinds
use Rattle.types.specs.Rows.{rows, row_count}
use Rattle.types.specs.Table.{kind_room, words_from, numbers, word_at, row_at, first_edition, root_at, type_of, the_rows}
use Rattle.types.specs.Rule.{is_type}
use Rattle.types.specs.Ready.{Ready, TypeRow}
use Rattle.std.specs.Prelude.{Some, None}
use Rattle.types.proofs.Rule.{rows_length, rows_right}
use Rattle.types.proofs.Words.{word_kind}
use Rattle.types.proofs.Numbers.{the_numbers_stand, rows_stand, many}
use Rattle.types.proofs.Ready.{the_table_ready}
use Rattle.meaning.specs.Values.{Value}
use Rattle.meaning.specs.Steps.{Got, ok, refused, out_of}
use Rattle.meaning.specs.Walk.{walk}
use Rattle.meaning.specs.Reading.{source, free, reader, read}
use Rattle.meaning.specs.Messages.{is_padding, cells_read, read_answer, read_typed, read_typed_sheet, row_named}
use Rattle.meaning.proofs.Coded.{few_cells}
use Rattle.meaning.proofs.Numbers.{row_number, reads_least}
use Rattle.walking.specs.Went.{Went}
use Rattle.walking.specs.Went.Went.{On}
use Rattle.walking.specs.Packed.{refused_from, place_room, farthest, up_to, went_by}
use Rattle.walking.specs.Walked.{Walked, Answered, silent}
use Rattle.walking.proofs.Packed.{went_on}
use Rattle.walking.proofs.Laws.{ran}
use Rattle.reading.specs.Given.{message_in, Placed}
use Rattle.reading.specs.Judged.{judged_by}
use Rattle.reading.specs.Rows.{Known}
use Rattle.reading.proofs.Leaves.{message_length, message_code}

-- ---- padding

module _ {b : List ℕ} {total at : ℕ} (P : Placed b total at) where
  abbrev rest : List ℕ
  rest = drop at (take total (bits_of b))

  behind : length rest ≡ total - at
  behind = length-drop at (take total (bits_of b)) ∙ ap (λ (n : ℕ). n - at) (message_length P)

  pub padding_long : 8 ≤ total - at → false ≡ is_padding rest
  padding_long h = rw (le-ltb (length rest) 8 (omega (arith, behind)))

  pub padding_none : total - at ≡ 0 → true ≡ is_padding rest
  unfolding val
  padding_none e =
      let n : length rest ≡ 0 = behind ∙ e in
      rw (lt-ltb (length rest) 8 (omega arith)) (go rest n)
    where
      go : (l : List ℕ) → length l ≡ 0 → true ≡ eqb (val l) 0
      go [] z = refl
      go (x ∷ l) z = absurd (omega arith)

  pub padding_code : {n : ℕ} → total - at < 8 → n ≡ code (bits_of b) at (total - at) → eqb n 0 ≡ is_padding rest
  padding_code h en =
      rw (lt-ltb (length rest) 8 (omega (arith, behind)))
      (ap (λ (k : ℕ). eqb k 0) (en ∙ message_code P (total - at) (omega (arith, P.place)) ∙ ap val (take_all (total - at) rest (omega (arith, behind)))))

-- ---- the walk through the padded bytes is that through the bytes

module _ (bytes more : List ℕ) {b : List ℕ} {total : ℕ} (eb : b ≡ bytes ++ more) (et : total ≡ length bytes * 8) where
  many_bits : length (bits_of bytes) ≡ total
  many_bits = omega (arith, bits_of_length bytes)

  pub bytes_bits : take total (bits_of b) ≡ bits_of bytes
  bytes_bits = ap (take total) (ap bits_of eb ∙ bits_of_append bytes more) ∙ take_at (bits_of bytes) (bits_of more) total many_bits

  pub type_bytes : (t : Ty) {s s' : List ℤ} {w : Went} → Walked silent total (walk t reader (message_in b total) 0) s 0 w s' → Walked silent (length (bits_of bytes)) (read t (bits_of bytes) 0) s 0 w s'
  type_bytes t {s} {s'} {w} u =
      subst (λ (n : ℕ). Walked silent n (read t (bits_of bytes) 0) s 0 w s') (sym many_bits)
      (subst (λ (l : List ℕ). Walked silent total (walk t reader (source l free) 0) s 0 w s') bytes_bits u)

-- ---- the message, copied to the front of longer bytes

-- ---- the table

module _ {tb : List ℕ} {row : ℕ} (K : Known tb row) where
  pub known_ready : Ready tb
  known_ready = subst Ready (sym K.table) the_table_ready

  known_rows : row_at tb ≡ the_rows
  known_rows = ap row_at K.table ∙ the_numbers_stand

  known_types : type_of (root_at tb) row ≡ type_of the_rows row
  known_types = ap (λ (table : ℕ → Row). type_of table row) (fun_ext known_ready.root ∙ known_rows)

  pub known_type : TypeRow tb row
  known_type = record { there = omega (arith, ap length K.table, many (numbers rows) rows rows_right rows_stand, rows_length, K.there); is = subst (λ (table : ℕ → Row). T (is_type (table row))) (sym known_rows) K.is }

  pub walked_bytes : (bytes more : List ℕ) {b : List ℕ} {total : ℕ} {s s' : List ℤ} {w : Went} → b ≡ bytes ++ more → total ≡ length bytes * 8 → Walked silent total (walk (type_of (root_at tb) row) reader (message_in b total) 0) s 0 w s'
      → Walked silent (length (bits_of bytes)) (read (type_of the_rows row) (bits_of bytes) 0) s 0 w s'
  walked_bytes bytes more {b} {total} {s} {s'} {w} eb et t =
      type_bytes bytes more eb et (type_of the_rows row) (subst (λ (ty : Ty). Walked silent total (walk ty reader (message_in b total) 0) s 0 w s') known_types t)

-- ---- the answers of the entry

-- the answer for a sheet with so much room; and where it is no refusal, the first cells are those of the value, if there are so many
pub record Made (row : ℕ) (bytes : List ℕ) (room : ℕ) (made : List ℤ) (a : Answer) : Type 0 where
  pub answer : a ≡ read_typed (Some row) bytes room
  pub few : a.number ≡ 0 → a.count ≤ farthest
  pub front : a.number ≡ 0 → a.count ≤ length made → take a.count made ≡ cells_read (Some row) bytes

-- a message that is accepted: what is read, and its cells
record Accepted (row : ℕ) (bytes : List ℕ) (room count : ℕ) : Type 0 where
  x : Value
  out : List ℤ
  end : ℕ
  is : read (type_of the_rows row) (bits_of bytes) 0 ≡ ok x out end
  counted : count ≡ length out
  fits : count ≤ room

module _ (row : ℕ) (known : row < row_count) (bytes : List ℕ) (few : length bytes ≤ 2048) (sheet : List ℤ) where
  abbrev bs : List ℕ
  bs = bits_of bytes

  abbrev got : Got ℤ Value
  got = read (type_of the_rows row) bs 0

  cells_few : {x : Value} {out : List ℤ} {q : ℕ} → got ≡ ok x out q → length out ≤ q
  cells_few {x} {out} {q} e = omega (arith, few_cells row (omega (arith, rows_length)) bs 0 q x out e)

  answer_so : {a : Answer} → a ≡ read_answer bs (length sheet) got → a ≡ read_typed (Some row) bytes (length sheet)
  unfolding read_typed
  answer_so ea = rw (le-ltb 2048 (length bytes) few) ea

  answer_by : {a : Answer} → a ≡ read_typed (Some row) bytes (length sheet) → a ≡ read_answer bs (length sheet) got
  unfolding read_typed
  answer_by ea = rw (le-ltb 2048 (length bytes) few) at ea

  accepted : {a : Answer} → a ≡ read_typed (Some row) bytes (length sheet) → a.number ≡ 0 → Accepted row bytes (length sheet) a.count
  unfolding read_answer
  accepted {a} ea z = go got refl (answer_by ea)
    where
      go : (g : Got ℤ Value) → got ≡ g → a ≡ read_answer bs (length sheet) g → Accepted row bytes (length sheet) a.count
      go (refused why) eg e = absurd (omega (arith, numbered e, reads_least (row_number row bs 0 why eg)))
      go (ok x out q) eg e = by (is_padding (drop q bs)) (leb (length out) (length sheet)) refl refl e
        where
          by : (p l : Bool) → is_padding (drop q bs) ≡ p → leb (length out) (length sheet) ≡ l → a ≡ cond (is_padding (drop q bs)) (cond (leb (length out) (length sheet)) (done q (length out)) (no_room (length out))) (refused_by (spare_bits q)) → Accepted row bytes (length sheet) a.count
          by true true ep el e =
              let is : a ≡ done q (length out) = rw (ep, el) at e in
              let n : a.count ≡ length out = ap (λ (y : Answer). y.count) is in
              record { x = x; out = out; end = q; is = eg; counted = n; fits = omega (arith, leb→le (length out) (length sheet) (subst T (sym el) tt)) }
          by true false ep el e = absurd (let other : a ≡ no_room (length out) = rw (ep, el) at e in omega (arith, numbered other))
          by false l ep el e = absurd (let other : a ≡ refused_by (spare_bits q) = rw ep at e in omega (arith, numbered other))

  -- by a walk over the bits of the message
  module _ {made₀ made' : List ℤ} (r : ℕ) (t : Walked silent (length bs) got made₀ 0 (went_by r) made') where
    pub walk_within : r < refused_from → r % place_room ≤ length bytes * 8
    walk_within h = omega (arith, (ran (went_on r h) t).within, bits_of_length bytes)

    module _ {a : Answer} (ea : a ≡ judged_by (went_by r) bs (length sheet)) where
      -- what is judged by it is what reading answers
      judged_so : a ≡ read_typed (Some row) bytes (length sheet)
      unfolding Answered judged_by read_answer
      judged_so = answer_so (ea ∙ go got refl t.told)
        where
          go : (g : Got ℤ Value) → got ≡ g → Answered silent (length bs) g made₀ 0 (went_by r) made' → judged_by (went_by r) bs (length sheet) ≡ read_answer bs (length sheet) got
          go (refused why) eg u = ap (λ (w : Went). judged_by w bs (length sheet)) u ∙ ap (read_answer bs (length sheet)) (sym eg)
          go (ok x out q) eg u =
              let n : up_to (0 + length out) ≡ length out = omega (arith, cells_few eg, u.5, bits_of_length bytes) in
              ap (λ (w : Went). judged_by w bs (length sheet)) u.1 ∙ ap (λ (k : ℕ). judged_by (On u.0 q k) bs (length sheet)) n ∙ ap (read_answer bs (length sheet)) (sym eg)

      -- a value that was accepted, as the walk put it out
      out_of_lem : (A : Accepted row bytes (length sheet) a.count) → Walked silent (length bs) (ok A.x A.out A.end) made₀ 0 (went_by r) made'
      out_of_lem A = subst (λ (g : Got ℤ Value). Walked silent (length bs) g made₀ 0 (went_by r) made') A.is t

      pub few_made : (most : ℕ) → ((x : Value) (out : List ℤ) (q : ℕ) → got ≡ ok x out q → q ≤ length bs → length out ≤ most) → a.number ≡ 0 → a.count ≤ most
      unfolding Answered
      few_made most h z = let A = accepted judged_so z in omega (arith, A.counted, h A.x A.out A.end A.is (out_of_lem A).told.5)

      pub walk_made : Made row bytes (length sheet) made' a
      unfolding Answered cells_read out_of
      walk_made = record {
        answer = judged_so;
        few = few_made farthest (λ x out q e h. omega (arith, cells_few e, bits_of_length bytes));
        front =
            λ z l.
            let A = accepted judged_so z in
            let u = out_of_lem A in
            let fits : 0 + length A.out ≤ length made₀ = omega (arith, A.counted, u.told.3) in
            ap₂ take A.counted (u.told.4 fits ∙ sets-eq A.out made₀ 0 fits)
            ∙ take_at A.out (drop (0 + length A.out) made₀) (length A.out) refl
            ∙ sym (ap out_of A.is);
      }

  -- what is answered, and the lent sheet by that answer
  module _ where
    abbrev Right : Answer → List ℤ → Type 0
    Right a s = (a ≡ read_typed (Some row) bytes (length sheet)) × (s ≡ read_typed_sheet (Some row) bytes sheet)

    module _ {told : Answer} {made : List ℤ} (M : Made row bytes (length sheet) made told) where
      pub made_fits : told.number ≡ 0 → told.count ≤ length sheet
      made_fits z = (accepted M.answer z).fits

      -- no refusal, and too few cells apart: the walk put them into the front of the sheet
      module _ (z : told.number ≡ 0) where
        abbrev A : Accepted row bytes (length sheet) told.count
        A = accepted M.answer z

        pub front_length : told.count ≡ length (take told.count sheet)
        front_length = sym (length-take-le told.count sheet A.fits)

        pub front_few : length (take told.count sheet) ≤ farthest
        front_few = omega (arith, front_length, M.few z)

        pub front_right : {w : Went} {front s : List ℤ} → Walked silent (length bs) got (take told.count sheet) 0 w front → s ≡ front ++ drop told.count sheet → Right told s
        unfolding Answered cells_read out_of
        front_right {w} {front} {s} u es =
            let v : Walked silent (length bs) (ok A.x A.out A.end) (take told.count sheet) 0 w front = subst (λ (g : Got ℤ Value). Walked silent (length bs) g (take told.count sheet) 0 w front) A.is u in
            let fits : 0 + length A.out ≤ length (take told.count sheet) = omega (arith, A.counted, front_length) in
            let none : drop (0 + length A.out) (take told.count sheet) ≡ [] = drop_of_length-le (take told.count sheet) {i = 0 + length A.out} (omega (arith, A.counted, front_length)) in
            let is : front ≡ A.out = v.told.4 fits ∙ sets-eq A.out (take told.count sheet) 0 fits ∙ ap (λ (x : List ℤ). A.out ++ x) none ∙ append-nil A.out in
            let cells : A.out ≡ cells_read (Some row) bytes = sym (ap out_of A.is) in
            (M.answer, made_by (cells_read (Some row) bytes) sheet M.answer z (es ∙ ap₂ (λ (x : List ℤ) (k : ℕ). x ++ drop k sheet) is A.counted ∙ ap (λ (x : List ℤ). filled x sheet) cells))

      -- a refusal, or the cells apart are copied
      pub moved_right : {a : Answer} {s : List ℤ} → (told.number ≡ 0 → told.count ≤ length made) → a ≡ told → s ≡ lent_after told (take told.count made) sheet → Right a s
      moved_right {a} {s} room ea es = (ea ∙ M.answer, es ∙ same told.number refl ∙ ap (λ (x : Answer). lent_after x (cells_read (Some row) bytes) sheet) M.answer)
        where
          same : (n : ℕ) → told.number ≡ n → lent_after told (take told.count made) sheet ≡ lent_after told (cells_read (Some row) bytes) sheet
          same zero z = ap (λ (x : List ℤ). lent_after told x sheet) (M.front z (room z))
          same (suc n) z = let isnt : told.number ≡ 0 → ⊥ = λ y. omega arith in lent_kept told (take told.count made) sheet isnt ∙ sym (lent_kept told (cells_read (Some row) bytes) sheet isnt)

      -- nothing is copied where it is refused
      pub refused_right : (told.number ≡ 0 → ⊥) → Right told sheet
      refused_right isnt = moved_right (λ z. absurd (isnt z)) refl (sym (lent_kept told (take told.count made) sheet isnt))

      -- the cells apart are copied
      pub copied_right : told.number ≡ 0 → told.count ≤ length made → {s : List ℤ} → s ≡ filled (take told.count made) sheet → Right told s
      copied_right z room es = moved_right (λ z. room) refl (es ∙ sym (lent_filled told (take told.count made) sheet z))

-- the same in the terms of the code: the message was copied to the front of longer bytes
module _ {tb : List ℕ} {row : ℕ} (K : Known tb row) (bytes b₀ : List ℕ) (sheet : List ℤ) {b : List ℕ} {total : ℕ} (few : length bytes ≤ 2048) (eb : b ≡ bytes ++ drop (length bytes) b₀) (et : total ≡ length bytes * 8)
    {made₀ made' : List ℤ} (r : ℕ) (t : Walked silent total (walk (type_of (root_at tb) row) reader (message_in b total) 0) made₀ 0 (went_by r) made') where
  walked : Walked silent (length (bits_of bytes)) (read (type_of the_rows row) (bits_of bytes) 0) made₀ 0 (went_by r) made'
  walked = walked_bytes K bytes (drop (length bytes) b₀) eb et t

  pub known_within : r < refused_from → r % place_room ≤ total
  known_within h = omega (arith, walk_within row K.there bytes few sheet r walked h)

  pub known_made : {a : Answer} → a ≡ judged_by (went_by r) (take total (bits_of b)) (length sheet) → Made row bytes (length sheet) made' a
  known_made {a} ea = walk_made row K.there bytes few sheet r walked (ea ∙ ap (λ (bits : List ℕ). judged_by (went_by r) bits (length sheet)) (bytes_bits bytes (drop (length bytes) b₀) eb et))

module _ (bytes b₀ : List ℕ) (sheet : List ℤ) {b : List ℕ} {total : ℕ} (few : length bytes ≤ 64) (eb : b ≡ bytes ++ drop (length bytes) b₀) (et : total ≡ length bytes * 8)
    {made₀ made' : List ℤ} (r : ℕ) (t : Walked silent total (walk (type_of the_rows 129) reader (message_in b total) 0) made₀ 0 (went_by r) made') where
  described : Walked silent (length (bits_of bytes)) (read (type_of the_rows 129) (bits_of bytes) 0) made₀ 0 (went_by r) made'
  described = type_bytes bytes (drop (length bytes) b₀) eb et (type_of the_rows 129) t

  pub text_within : r < refused_from → r % place_room ≤ total
  text_within h = omega (arith, walk_within 129 (omega arith) bytes (omega arith) sheet r described h)

  module _ {a : Answer} (ea : a ≡ judged_by (went_by r) (take total (bits_of b)) (length sheet)) where
    judged_text : a ≡ judged_by (went_by r) (bits_of bytes) (length sheet)
    judged_text = ea ∙ ap (λ (bits : List ℕ). judged_by (went_by r) bits (length sheet)) (bytes_bits bytes (drop (length bytes) b₀) eb et)

    pub text_made : Made 129 bytes (length sheet) made' a
    text_made = walk_made 129 (omega arith) bytes (omega arith) sheet r described judged_text

    pub text_few : ((x : Value) (out : List ℤ) (q : ℕ) → read (type_of the_rows 129) (bits_of bytes) 0 ≡ ok x out q → q ≤ length (bits_of bytes) → length out ≤ 73) → a.number ≡ 0 → a.count ≤ 73
    text_few h = few_made 129 (omega arith) bytes (omega arith) sheet r described judged_text 73 h

-- ---- a row that is there is a type where its kind is before the components

module _ {row : ℕ} (h : row < row_count) {tb : List ℕ} (et : tb ≡ numbers rows) where
  ready : Ready tb
  ready = subst Ready (sym et) the_table_ready

  table : row_at tb ≡ the_rows
  table = ap row_at et ∙ the_numbers_stand

  pub row_there : words_from + row < length tb
  row_there = omega (arith, ap length et, many (numbers rows) rows rows_right rows_stand, rows_length)

  module _ {word : ℕ} (ew : word ≡ word_at tb row) where
    kind : (the_rows row).kind ≡ word % kind_room
    unfolding row_at
    kind = ap (λ (t : ℕ → Row). (t row).kind) (sym table) ∙ word_kind tb row row_there ∙ ap (λ (w : ℕ). w % kind_room) (sym ew)

    -- edition 1 has no selectors
    other : word % kind_room ≡ kinds.selector → ⊥
    unfolding first_edition
    other z =
        let k : (row_at tb row).kind ≡ kinds.selector = ap (λ (t : ℕ → Row). (t row).kind) table ∙ kind ∙ z in
        let e : cond (eqb (row_at tb row).kind kinds.selector) kinds.known (row_at tb row).kind ≡ (row_at tb row).kind = ap (λ (q : Row). q.kind) (ready.root row) in
        let both : kinds.known ≡ (row_at tb row).kind = rw (eq-eqb (row_at tb row).kind kinds.selector k) at e in
        omega arith

    no_type : kinds.component ≤ word % kind_room → row_named row ≡ None
    unfolding row_named
    no_type l = rw (lt-ltb row row_count h, kind, le-ltb (word % kind_room) kinds.component l, ne_eqb (word % kind_room) kinds.selector other)

    module _ (l : word % kind_room < kinds.component) where
      pub row_known : Known tb row
      row_known = record { table = et; there = h; is = rw (kind, lt-ltb (word % kind_room) kinds.component l) tt }

      row_named_lem : row_named row ≡ Some row
      unfolding row_named
      row_named_lem = rw (lt-ltb row row_count h, kind, lt-ltb (word % kind_room) kinds.component l)

-- what the entry answers for any row
module _ (bytes : List ℕ) (row : ℕ) (sheet : List ℤ) where
  abbrev Answers : Answer → List ℤ → Type 0
  Answers a s = (a ≡ read_typed (row_named row) bytes (length sheet)) × (s ≡ read_typed_sheet (row_named row) bytes sheet)

  unknown_row : {a : Answer} → row_named row ≡ None → a ≡ refused_by unknown_type → Answers a sheet
  unfolding read_typed
  unknown_row e ea = rw e (ea, kept_by (cells_read None bytes) sheet ea (λ z. omega (arith, numbered ea)))

  pub row_absent : {a : Answer} → row_count ≤ row → a ≡ refused_by unknown_type → Answers a sheet
  unfolding row_named
  row_absent h = unknown_row (rw (le-ltb row row_count h))

  module _ (h : row < row_count) {tb : List ℕ} (et : tb ≡ numbers rows) {word : ℕ} (ew : word ≡ word_at tb row) where
    pub row_untyped : {a : Answer} → kinds.component ≤ word % kind_room → a ≡ refused_by unknown_type → Answers a sheet
    row_untyped l = unknown_row (no_type h et ew l)

    module _ (l : word % kind_room < kinds.component) where
      pub row_long : {a : Answer} → 2048 < length bytes → a ≡ refused_by too_long → Answers a sheet
      unfolding read_typed
      row_long long ea = rw (row_named_lem h et ew l, lt-ltb 2048 (length bytes) long) (ea, kept_by (cells_read (Some row) bytes) sheet ea (λ z. omega (arith, numbered ea)))

      pub row_read : {a : Answer} {s : List ℤ} → a ≡ read_typed (Some row) bytes (length sheet) → s ≡ read_typed_sheet (Some row) bytes sheet → Answers a s
      row_read ea es = rw (row_named_lem h et ew l) (ea, es)
