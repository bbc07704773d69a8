-- What the entry answers, of the walk that made the message apart; and that its first bytes are the message.
-- Assumes nothing.
use Prim.Native.Nat.{ℕ, zero, suc, ◌+◌, ◌-◌, ◌*◌, ◌/◌, ◌%◌, ◌<◌, ◌≤◌, ◌^◌}
use mathlib.Core.Bool.{cond}
use mathlib.Core.List.{List, [], ◌∷◌, ◌++◌}
use mathlib.Core.Path.{◌≡◌, refl, sym, ap, ap₂, subst, ◌∙◌}
use native.Mathlib.Decide.{dec_lt}
use native.Mathlib.Nat.{zero-add}
use native.Mathlib.Omega.{arith}
use borrow.Author.Tests.{lt-ltb, le-ltb, le-leb, lt-leb, ne_eqb}
use lib.Dec.{eqb}
use lib.IntN.{ℤ}
use lib.ListN.{length, get_or, take, drop, replicate, length-take, length-drop, length-replicate, replicate-append-replicate}
use lib.Seq.{sets, sets-eq, take-take, take-append-add, get_or-drop}
use Rattle.std.specs.Prelude.{Result, Ok, Err}
use Rattle.basics.specs.Lists.{filled}
use Rattle.answers.specs.declared.Refusal.{Refusal}
use Rattle.answers.specs.declared.Answer.{Answer}
use Rattle.answers.specs.Refusals.{unknown_type, too_long, no_value}
use Rattle.answers.specs.Answers.{done, refused_by, no_room}
use Rattle.answers.proofs.Lent.{kept_by, made_by, numbered}
use Rattle.bits.specs.Numbers.{to_bits, Binary}
use Rattle.bits.specs.Bytes.{bits_of, Octets, octets_for, padded, message}
use Rattle.bits.proofs.Bytes.{bits_of_length, bits_of_take, bits_of_injective, message_bits, message_octets, message_length}
use Rattle.bits.proofs.Straight.{take_zeros, all_zero}
use Rattle.types.specs.Row.{Row}
use Rattle.types.specs.Rows.{rows}
use Rattle.types.specs.Kinds as kinds
use Rattle.types.specs.Columns as columns
use Rattle.types.specs.Table.{words_from, numbers, column, row_at, root_at, type_of, the_rows, first_edition}
use Rattle.types.specs.Ready.{Ready, TypeRow}
use Rattle.std.specs.Prelude.{Some, None}
use Rattle.types.proofs.Rule.{rows_right, rows_length}
use Rattle.types.proofs.Numbers.{many, rows_stand, the_numbers_stand}
use Rattle.types.proofs.Ready.{the_table_ready}
use Rattle.meaning.specs.Values.{Value}
use Rattle.meaning.specs.Steps.{Got, out_of}
use Rattle.meaning.specs.Steps.Got.{ok, refused}
use Rattle.meaning.specs.Writing.{write}
use Rattle.meaning.specs.Messages.{row_named, bytes_made, write_answer, write_typed, write_typed_bytes}
use Rattle.meaning.proofs.Numbers.{write_number_lem}
use Rattle.meaning.proofs.DemandTwo.{written_binary}
use Rattle.meaning.proofs.Bits.{plain_binary}
use Rattle.meaning.proofs.Plain.{the_types_plain}
use Rattle.meaning.proofs.Turn.{codes_read}
use Rattle.meaning.proofs.Coded.{few_cells}
use Rattle.meaning.proofs.Bound.{write_inside}
use Rattle.walking.specs.Packed.{place_room, refused_from, up_to, went_by, refusal_in}
use Rattle.walking.specs.Walked.{Walked, Answered, silent}
use Rattle.walking.specs.Went.{Went}
use Rattle.walking.specs.Went.Went.{On, No}
use Rattle.walking.proofs.Laws.{Ran, ran}
use Rattle.walking.proofs.Packed.{went_on, went_no}
use Rattle.walking.proofs.Texts.{description_named}
use Rattle.passing.specs.Passing.{passed, passed_by}
use Rattle.passing.proofs.Root.{root_same}
use Rattle.writing.specs.Target.{target, Clean, Stands}
use Rattle.writing.specs.Entry.{Made, Handed, judged_by}
use Rattle.answers.specs.Reasons.{reason_number}
use Rattle.answers.proofs.Numbered.{reason_positive}

-- ---- bytes of zero bits

abbrev zeros : ℕ → List ℕ
zeros n = replicate n 0

zero_byte : to_bits 8 0 ≡ zeros 8
unfolding to_bits
zero_byte = refl

zero_bits : (n : ℕ) → bits_of (zeros n) ≡ zeros (8 * n)
unfolding bits_of
zero_bits zero = refl
zero_bits (suc n) =
    let e : 8 + 8 * n ≡ 8 * suc n = omega arith in
    ap₂ (λ (a b : List ℕ). a ++ b) zero_byte (zero_bits n) ∙ replicate-append-replicate 8 (8 * n) 0 ∙ ap zeros e

all_zeros : (n i : ℕ) → get_or (zeros n) i 0 ≡ 0
all_zeros zero i = refl
all_zeros (suc n) zero = refl
all_zeros (suc n) (suc i) = all_zeros n i

zeros_length : (n : ℕ) → length (zeros n) ≡ n
zeros_length n = length-replicate n 0

fresh_is : (n : ℕ) → target (zeros n) ≡ zeros (8 * (n - 4))
fresh_is n = ap (λ (k : ℕ). bits_of (take (k - 4) (zeros n))) (zeros_length n) ∙ ap bits_of (take_zeros (n - 4) n (omega arith)) ∙ zero_bits (n - 4)

pub fresh_clean : (n : ℕ) → n ≤ 2052 → Clean (target (zeros n)) 0
fresh_clean n h = rw (fresh_is n) (record { few = omega (arith, zeros_length (8 * (n - 4))); zeros = λ i l. all_zeros (8 * (n - 4)) i })

-- ---- the first bytes of what was made are the message

-- the front of a list of bytes is bytes
front_octets : (front back : List ℕ) → ((i : ℕ) → get_or (front ++ back) i 0 < 256) → Octets front
front_octets [] back h = tt
front_octets (b ∷ front) back h = (h 0, front_octets front back (λ i. h (suc i)))

module _ (bits made before : List ℕ) (clean : Clean before 0) (octets : Octets (take (octets_for (length bits)) made)) (binary : Binary bits) (kept : length (target made) ≡ length before) (room : length bits ≤ length before) (stored : target made ≡ sets before 0 bits) where
  abbrev count : ℕ
  count = octets_for (length bits)

  abbrev most : ℕ
  most = length made - 4

  size : length before ≡ 8 * most
  size = sym kept ∙ bits_of_length (take most made) ∙ omega (arith, length-take most made)

  made_bits : target made ≡ bits ++ zeros (length before - length bits)
  made_bits =
      stored
      ∙ sets-eq bits before 0 (omega arith)
      ∙ ap (λ (l : List ℕ). bits ++ l)
      (all_zero (drop (0 + length bits) before) (λ j. get_or-drop (0 + length bits) before j 0 ∙ clean.zeros (0 + length bits + j) (omega arith)) ∙ ap zeros (length-drop (0 + length bits) before ∙ ap (λ (k : ℕ). length before - k) (zero-add (length bits))))

  front_bits : take (8 * count) (target made) ≡ padded bits
  front_bits =
      let k : 8 * count ≡ length bits + (8 * count - length bits) = omega arith in
      ap (take (8 * count)) made_bits
      ∙ ap (λ (j : ℕ). take j (bits ++ zeros (length before - length bits))) k
      ∙ take-append-add bits (zeros (length before - length bits)) (8 * count - length bits)
      ∙ ap (λ (l : List ℕ). bits ++ l) (take_zeros (8 * count - length bits) (length before - length bits) (omega (arith, size)))

  made_message : take count made ≡ message bits
  made_message =
      let few : count ≤ most = omega (arith, size) in
      bits_of_injective (take count made) (message bits)
      octets
      (message_octets bits binary)
      (ap bits_of (sym (take-take count most made few)) ∙ bits_of_take count (take most made) (omega (arith, length-take most made)) ∙ front_bits ∙ sym (message_bits bits binary))

-- the bytes of so many bits are there
pub made_long : (made : List ℕ) (r : ℕ) → (r / 2 ^ 32 ≤ 16384 → r / 2 ^ 32 ≤ length (target made)) → r / 2 ^ 32 ≤ 16384 → (r / 2 ^ 32 + 7) / 8 ≤ length made
made_long made r h few = omega (arith, h few, bits_of_length (take (length made - 4) made), length-take (length made - 4) made)

-- ---- the answers of the entry

-- the judgement of where a walk went is that of what it says
judged_same : (g : Got ℕ Value) (w : Went) (cells room : ℕ) (s s' : List ℕ) → Answered silent cells g s 0 w s' → judged_by w cells room ≡ write_answer cells room g
unfolding judged_by write_answer Answered
judged_same (ok x bits q) w cells room s s' t =
    elim (dec_lt 16384 (length bits)) [
      | yes h ↦ rw (t.1, lt-ltb 16384 (up_to (0 + length bits)) (omega arith), lt-ltb 2048 (octets_for (length bits)) (omega arith)) refl
      | no h ↦
          let e : up_to (0 + length bits) ≡ length bits = omega arith in
          rw (t.1, e, le-ltb 16384 (length bits) (omega arith), le-ltb 2048 (octets_for (length bits)) (omega arith)) refl
    ]
judged_same (refused why) w cells room s s' t = rw t refl

-- an answer of 0 is that of a message of all cells, which has room
record Right (r cells room : ℕ) (a : Answer) : Type 0 where
  pub is : a ≡ done (r / place_room) (octets_for (r / place_room))
  pub all : cells ≤ r % place_room
  pub few : r / place_room ≤ 16384
  pub fits : octets_for (r / place_room) ≤ room

right_on : (r cells room : ℕ) {a : Answer} → r < refused_from → a ≡ judged_by (went_by r) cells room → a.number ≡ 0 → Right r cells room a
unfolding judged_by
right_on r cells room {a} h e z =
    elim (dec_lt (r % place_room) cells) [
      | yes l ↦ absurd (let no : a ≡ refused_by (no_value (r % place_room)) = rw (went_on r h, lt-ltb (r % place_room) cells l) at e in omega (arith, numbered no))
      | no l ↦ elim (dec_lt 16384 (r / place_room)) [
        | yes m ↦ absurd (let no : a ≡ refused_by too_long = rw (went_on r h, le-ltb (r % place_room) cells (omega arith), lt-ltb 16384 (r / place_room) m) at e in omega (arith, numbered no))
        | no m ↦ elim (dec_lt room (octets_for (r / place_room))) [
          | yes n ↦ absurd (let no : a ≡ no_room (octets_for (r / place_room)) = rw (went_on r h, le-ltb (r % place_room) cells (omega arith), le-ltb 16384 (r / place_room) (omega arith), lt-leb (octets_for (r / place_room)) room n) at e in omega (arith, numbered no))
          | no n ↦ record { is = rw (went_on r h, le-ltb (r % place_room) cells (omega arith), le-ltb 16384 (r / place_room) (omega arith), le-leb (octets_for (r / place_room)) room (omega arith)) at e; all = omega arith; few = omega arith; fits = omega arith }
        ]
      ]
    ]

-- what is copied is there and has room; a refusal copies nothing
pub copied_count : (r cells room : ℕ) (made : List ℕ) {a : Answer} → a ≡ judged_by (went_by r) cells room → a.number ≡ 0 → (r / 2 ^ 32 ≤ 16384 → r / 2 ^ 32 ≤ length (target made)) → (a.count ≤ length made) × (a.count ≤ room)
unfolding judged_by
copied_count r cells room made {a} e z there =
    elim (dec_lt r refused_from) [
      | yes h ↦
          let R = right_on r cells room h e z in
          let n : a.count ≡ octets_for (r / place_room) = ap (λ (x : Answer). x.count) R.is in
          (omega (arith, made_long made r there R.few), omega (arith, R.fits))
      | no h ↦
          let none : a.count ≡ 0 = ap (λ (x : Answer). x.count) (rw (went_no r (omega arith)) at e) in
          (omega arith, omega arith)
    ]

module _ {got : Got ℕ Value} {cells r : ℕ} {made : List ℕ} (M : Made got cells r made) (lent : List ℕ) {a : Answer} (e : a ≡ judged_by (went_by r) cells (length lent)) where
  told : a ≡ write_answer cells (length lent) got
  told = e ∙ judged_same got (went_by r) cells (length lent) M.before (target made) M.walked.told

  pub hand_kept : {r₂ : Answer} {after : List ℕ} → ¬ (a.number ≡ 0) → (r₂ ≡ a) × (after ≡ lent) → Handed got cells lent r₂ after
  hand_kept n u = record { answer = u.0 ∙ told; bytes = u.1 ∙ kept_by (message (out_of got)) lent told n }

  -- a refusal of writing is no answer of 0
  went : a.number ≡ 0 → r < refused_from
  unfolding Answered write_answer
  went z = elim (dec_lt r refused_from) [ yes h ↦ h | no h ↦ absurd (go got refl M.walked.told (omega arith) told) ]
    where
      go : (g : Got ℕ Value) → got ≡ g → Answered silent cells g M.before 0 (went_by r) (target made) → refused_from ≤ r → a ≡ write_answer cells (length lent) g → ⊥
      go (ok x bits q) eg t h ea = let both : On t.0 q (up_to (0 + length bits)) ≡ No (refusal_in r) = sym t.1 ∙ went_no r h in let y : ◌≡◌ {A = ℕ} 0 1 = cc in omega arith
      go (refused w) eg t h ea = omega (arith, numbered ea, M.sevens w eg)

  module _ (z : a.number ≡ 0) (there : r / 2 ^ 32 ≤ 16384 → r / 2 ^ 32 ≤ length (target made)) where
    abbrev R : Ran silent cells got M.before 0 0 (r % place_room) (r / place_room) (target made)
    R = ran (went_on r (went z)) M.walked

    right : Right r cells (length lent) a
    right = right_on r cells (length lent) (went z) e z

    counted : r / place_room ≡ length R.out
    counted = omega (arith, R.counted, right.few)

    few : octets_for (length R.out) ≤ 2048
    few = omega (arith, counted, right.few)

    -- the bits lie in the bytes that were made
    inside : octets_for (length R.out) ≤ length made
    inside = omega (arith, counted, there right.few, bits_of_length (take (length made - 4) made), length-take (length made - 4) made)

    count_is : a.count ≡ octets_for (length R.out)
    count_is = ap (λ (x : Answer). x.count) right.is ∙ ap octets_for counted

    pub hand_done : {after : List ℕ} → ((i : ℕ) → get_or after i 0 < 256) → after ≡ filled (take a.count made) lent → Handed got cells lent a after
    unfolding out_of
    hand_done {after} octets ec =
        let n = octets_for (length R.out) in
        let long : length (take n made) ≡ n = omega (arith, inside, length-take n made) in
        let ea : after ≡ take n made ++ drop n lent = ec ∙ ap (λ (k : ℕ). filled (take k made) lent) count_is ∙ ap (λ (k : ℕ). take n made ++ drop k lent) long in
        let bytes-are : Octets (take n made) = front_octets (take n made) (drop n lent) (λ i. subst (λ (x : List ℕ). get_or x i 0 < 256) ea (octets i)) in
        let room : 0 + length R.out ≤ length M.before = omega (arith, counted, there right.few, R.kept) in
        let m : take n made ≡ message R.out = made_message R.out made M.before M.clean bytes-are (M.binary R.x R.out (r % place_room) R.is few) R.kept (omega (arith, room)) (R.stored room) in
        let filled_is : after ≡ filled (message R.out) lent = ea ∙ ap₂ (λ (x : List ℕ) (k : ℕ). x ++ drop k lent) m (sym (message_length R.out)) in
        let made-is : message (out_of got) ≡ message R.out = ap (λ (g : Got ℕ Value). message (out_of g)) R.is in
        record { answer = told; bytes = made_by (message (out_of got)) lent told z (filled_is ∙ ap (λ (x : List ℕ). filled x lent) (sym made-is)) }

-- ---- a walk over the table of source 000, from zeros

pub made_of : (row : ℕ) (sheet : List ℤ) (n r : ℕ) {made : List ℕ} → n ≤ 2052 → Walked silent (length sheet) (write (type_of the_rows row) sheet 0) (target (zeros n)) 0 (went_by r) (target made) → Made (write (type_of the_rows row) sheet 0) (length sheet) r made
made_of row sheet n r h t =
    record {
      before = target (zeros n);
      clean = fresh_clean n h;
      walked = t;
      sevens = λ why eg. write_number_lem (type_of the_rows row) sheet 0 why eg;
      binary = λ v bits q eg few. written_binary (type_of the_rows row) sheet 0 q v bits eg few;
    }

module _ {tb : List ℕ} (e : tb ≡ numbers rows) (row : ℕ) (sheet : List ℤ) where
  pub table_ready : Ready tb
  table_ready = subst Ready (sym e) the_table_ready

  pub was_made : (n r : ℕ) {made : List ℕ} → n ≤ 2052 → Walked silent (length sheet) (write (type_of (root_at tb) row) sheet 0) (target (zeros n)) 0 (went_by r) (target made) → Made (write (type_of the_rows row) sheet 0) (length sheet) r made
  was_made n r h t = made_of row sheet n r h (rw (root_same e) at t)

pub zero_stands : (sheet : List ℤ) (n : ℕ) → n ≤ 2052 → length sheet < 2 ^ 32 → Stands sheet 0 (zeros n) 0
zero_stands sheet n h few = record { few = few; place = omega arith; near = omega arith; clean = fresh_clean n h }

pub fresh_room : (n r : ℕ) (made : List ℕ) {X : Type 0} {g : Got ℕ X} {end : ℕ} → Walked silent end g (target (zeros n)) 0 (went_by r) (target made) → r < refused_from → length (target made) ≡ 8 * (n - 4)
fresh_room n r made t h = let Q = ran (went_on r h) t in Q.kept ∙ ap length (fresh_is n) ∙ zeros_length (8 * (n - 4))

-- ---- what a row number names

rows_there : (row : ℕ) → row < 414 → words_from + row < length (numbers rows)
rows_there row h = omega (arith, many (numbers rows) rows rows_right rows_stand, rows_length, the_table_ready.bounded)

kind_is : (row : ℕ) → (the_rows row).kind ≡ column (numbers rows) row columns.kind
unfolding row_at
kind_is row = ap (λ (t : ℕ → Row). (t row).kind) (sym the_numbers_stand)

pub no_row : (row : ℕ) → 414 ≤ row → row_named row ≡ None
unfolding row_named
no_row row h = rw (le-ltb row 414 h)

module _ {tb : List ℕ} (e : tb ≡ numbers rows) (row : ℕ) (h : row < 414) {kind : ℕ} (ek : kind ≡ column tb row columns.kind) where
  the_kind : (the_rows row).kind ≡ kind
  the_kind = kind_is row ∙ ap (λ (l : List ℕ). column l row columns.kind) (sym e) ∙ sym ek

  no_selector : kind ≡ kinds.selector → ⊥
  unfolding first_edition
  no_selector is =
      let same_row : first_edition (row_at (numbers rows) row) ≡ row_at (numbers rows) row = the_table_ready.root row in
      let kinds-same : cond (eqb (row_at (numbers rows) row).kind kinds.selector) kinds.known (row_at (numbers rows) row).kind ≡ (row_at (numbers rows) row).kind = ap (λ (q : Row). q.kind) same_row in
      let k : (row_at (numbers rows) row).kind ≡ kinds.selector = ap (λ (t : ℕ → Row). (t row).kind) the_numbers_stand ∙ the_kind ∙ is in
      let z : kinds.known ≡ kinds.selector = rw k at kinds-same in
      omega arith

  pub no_type : kinds.component ≤ kind → row_named row ≡ None
  unfolding row_named
  no_type l = rw (lt-ltb row 414 h, the_kind, le-ltb kind kinds.component l, ne_eqb kind kinds.selector no_selector) refl

  pub a_type : kind < kinds.component → row_named row ≡ Some row
  unfolding row_named
  a_type l = rw (lt-ltb row 414 h, the_kind, lt-ltb kind kinds.component l) refl

  pub type_row : kind < kinds.component → TypeRow tb row
  unfolding row_at
  type_row l = record { there = rw e (rows_there row h); is = rw (← ek, lt-ltb kind kinds.component l) tt }

-- ---- the promises of the entry

abbrev Promised : ℕ → List ℤ → List ℕ → Answer → List ℕ → Type 0
Promised row sheet lent a after = (a ≡ write_typed (row_named row) sheet (length lent)) × (after ≡ write_typed_bytes (row_named row) sheet lent)

module _ (row : ℕ) (sheet : List ℤ) (lent : List ℕ) {a : Answer} {after : List ℕ} where
  pub promised_no : {told : Answer} {why : Refusal} → row_named row ≡ None → why ≡ unknown_type → told ≡ refused_by why → (a ≡ told) × (after ≡ lent) → Promised row sheet lent a after
  unfolding write_typed
  promised_no {told} en ew et u =
      let known : told ≡ refused_by unknown_type = et ∙ ap refused_by ew in
      let is : told ≡ write_typed None sheet (length lent) = known in
      rw en (u.0 ∙ is, u.1 ∙ kept_by (bytes_made None sheet) lent is (λ z. omega (arith, numbered known)))

  pub promised_long : {told : Answer} (why : Refusal) → row_named row ≡ Some row → ((room : ℕ) → refused_by why ≡ write_typed (Some row) sheet room) → told ≡ refused_by why → (a ≡ told) × (after ≡ lent) → Promised row sheet lent a after
  promised_long {told} why en is et u =
      let e : told ≡ write_typed (Some row) sheet (length lent) = et ∙ is (length lent) in
      rw en (u.0 ∙ e, u.1 ∙ kept_by (bytes_made (Some row) sheet) lent e (λ z. omega (arith, numbered et, reason_positive why.reason)))

  pub promised_row : row_named row ≡ Some row → Handed (write (type_of the_rows row) sheet 0) (length sheet) lent a after → Promised row sheet lent a after
  unfolding write_typed bytes_made
  promised_row en H = rw en (H.answer, H.bytes)

  pub promised_text : row ≡ 129 → Handed (write (type_of the_rows 129) sheet 0) (length sheet) lent a after → Promised row sheet lent a after
  promised_text e H = promised_row (ap row_named e ∙ description_named ∙ ap Some (sym e)) (rw e H)

-- ---- sheets of very many cells

module _ {tb : List ℕ} (e : tb ≡ numbers rows) (row : ℕ) (h : row < 414) (sheet : List ℤ) (many-cells : 2 ^ 32 ≤ length sheet) {p : Result ℕ Refusal} (ep : p ≡ passed tb row sheet 0) where
  abbrev got : Got ℕ Value
  got = write (type_of the_rows row) sheet 0

  passed_is : p ≡ passed_by got
  unfolding passed
  passed_is = ep ∙ rw (lt-leb 414 row h, le-ltb (length sheet) 0 (omega arith), root_same e) refl

  -- a value has no more cells than bits
  long_bits : (v : Value) (bits : List ℕ) (q : ℕ) → got ≡ ok v bits q → length sheet ≤ q → 2048 < octets_for (length bits)
  long_bits v bits q eg l =
      let all : q ≡ length sheet = omega (arith, (write_inside (type_of the_rows row) sheet 0 q v bits eg).within) in
      let few = few_cells row (omega (arith, rows_length)) bits 0 (length bits) v sheet (codes_read (type_of the_rows row) v sheet bits (eg ∙ ap (ok v bits) all) (plain_binary (type_of the_rows row) (the_types_plain (row + 1) row) sheet 0 q v bits eg)) in
      omega arith

  pub long_spare : {end : ℕ} {why : Refusal} → p ≡ Ok end → end < length sheet → why ≡ no_value end → (room : ℕ) → refused_by why ≡ write_typed (Some row) sheet room
  unfolding write_typed write_answer passed_by
  long_spare {end} {why} et l ew room = go got refl (sym passed_is ∙ et)
    where
      go : (g : Got ℕ Value) → got ≡ g → passed_by g ≡ Ok end → refused_by why ≡ write_answer (length sheet) room got
      go (ok v bits q) eg t = let same : q ≡ end = cc in rw (eg, same, lt-ltb end (length sheet) l) (ap refused_by ew)
      go (refused w) eg t = absurd (let z : ◌≡◌ {A = ℕ} 0 1 = cc in omega arith)

  pub long_all : {end : ℕ} {why : Refusal} → p ≡ Ok end → length sheet ≤ end → why ≡ too_long → (room : ℕ) → refused_by why ≡ write_typed (Some row) sheet room
  unfolding write_typed write_answer passed_by
  long_all {end} {why} et l ew room = go got refl (sym passed_is ∙ et)
    where
      go : (g : Got ℕ Value) → got ≡ g → passed_by g ≡ Ok end → refused_by why ≡ write_answer (length sheet) room got
      go (ok v bits q) eg t =
          let same : q ≡ end = cc in
          rw (eg, le-ltb q (length sheet) (omega arith), lt-ltb 2048 (octets_for (length bits)) (long_bits v bits q eg (omega arith))) (ap refused_by ew)
      go (refused w) eg t = absurd (let z : ◌≡◌ {A = ℕ} 0 1 = cc in omega arith)

  pub long_no : {why : Refusal} → p ≡ Err why → (room : ℕ) → refused_by why ≡ write_typed (Some row) sheet room
  unfolding write_typed write_answer passed_by
  long_no {why} et room = go got refl (sym passed_is ∙ et)
    where
      go : (g : Got ℕ Value) → got ≡ g → passed_by g ≡ Err why → refused_by why ≡ write_answer (length sheet) room got
      go (ok v bits q) eg t = absurd (let z : ◌≡◌ {A = ℕ} 0 1 = cc in omega arith)
      go (refused w) eg t = let same : w ≡ why = cc in rw (eg, same) refl
