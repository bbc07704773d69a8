-- Demand 2, of the meaning: given room, reading accepts exactly the encodings of values of the named types, up to 2,048 bytes, and lists those values;
-- writing makes those bytes from that list, and refuses every list that is no such value or comes out longer.
-- Assumes nothing.
use Prim.Native.Nat.{ℕ, ◌-◌, ◌*◌, ◌≤◌, ◌<◌}
use mathlib.Core.Path.{◌≡◌, refl, sym, ap, ap₂, subst, ◌∙◌}
use mathlib.Core.Bool.{Bool, true, false, cond}
use mathlib.Core.Logic.{◌⊎◌, inl, inr}
use mathlib.Core.List.{List, [], ◌++◌, append-nil}
use native.Mathlib.Nat.{zero-add}
use native.Mathlib.Decide.{dec_lt, dec_le}
use native.Mathlib.Omega.{arith}
use borrow.Author.Tests.{lt-ltb, le-ltb, le-leb, lt-leb, leb-true, ltb-true, ltb-false, eqb-true, eq-eqb, ne_eqb}
use lib.Dec.{ltb, leb, eqb}
use lib.ListN.{length, take, drop, replicate, length-drop, length-replicate, take-append-drop}
use lib.Seq.{take-length, drop_at, length-take-le}
use lib.IntN.{ℤ}
use Rattle.answers.proofs.Lent.{lent_filled}
use Rattle.answers.specs.Refusals.{refusal, too_long, spare_bits, no_value}
use Rattle.bits.specs.Numbers.{val, Binary}
use Rattle.bits.specs.Bytes.{bits_of, Octets, octets_for, padded, bytes_of, message}
use Rattle.bits.specs.Limits.{most_bytes}
use Rattle.bits.proofs.Numbers.{binary_drop}
use Rattle.bits.proofs.Bytes.{bits_of_length, bits_of_binary, bytes_bits, message_bits, message_length}
use Rattle.types.specs.Shape.{Ty}
use Rattle.types.specs.Table.{type_of, the_rows}
use Rattle.types.specs.Named.{first_edition, named_row}
use Rattle.std.specs.Prelude.{Option, Some, None}
use Rattle.meaning.specs.Values.{Value}
use Rattle.meaning.specs.Steps.{Got, ok, refused, out_of}
use Rattle.meaning.specs.Reading.{read, free}
use Rattle.meaning.specs.Writing.{write, Codes}
use Rattle.answers.specs.Answers.{done, refused_by, no_room}
use Rattle.meaning.specs.Messages.{is_padding, read_answer, read_typed, read_message, sheet_after, told_reading, write_answer, write_typed, write_in, write_message, bytes_after, Encodes, cells_read, bytes_made}
use Rattle.basics.specs.Lists.{filled}
use Rattle.meaning.proofs.Turn.{write_read, read_write, zeros, all_zero}
use Rattle.meaning.proofs.Bits.{short_binary}
use Rattle.meaning.proofs.Bound.{read_inside, write_inside}
use Rattle.meaning.proofs.Numbers.{row_number, reads_least, write_number_lem}
use Rattle.answers.specs.declared.reasons.Reason.TheVariants as reason

-- ---- what is written is bits

-- what fits 2,048 bytes holds no open value of more than 16,383 octets
pub written_binary : (t : Ty) (cells : List ℤ) (c c' : ℕ) (v : Value) (bits : List ℕ) → write t cells c ≡ ok v bits c' → octets_for (length bits) ≤ most_bytes → Binary bits
written_binary t cells c c' v bits e few = short_binary t cells c c' v bits e (omega arith)

-- so what comes out as no bits comes out longer than 2,048 bytes, and is refused with 1 in any case
pub bits_or_long : (t : Ty) (v : Value) (cells : List ℤ) (bits : List ℕ) → Codes t v cells bits → Binary bits ⊎ (most_bytes < octets_for (length bits))
bits_or_long t v cells bits e = elim (dec_le (octets_for (length bits)) most_bytes) [
  | yes few ↦ inl (written_binary t cells 0 (length cells) v bits e few)
  | no long ↦ inr (omega arith)
]

-- ---- a message of a type: read back, and only such a message is read whole

module _ (t : Ty) (v : Value) (cells : List ℤ) (bits : List ℕ) (e : Codes t v cells bits) (few : octets_for (length bits) ≤ most_bytes) where
  abbrev fill : ℕ
  fill = 8 * octets_for (length bits) - length bits

  are_bits : Binary bits
  are_bits = written_binary t cells 0 (length cells) v bits e few

  in_bytes : bits_of (message bits) ≡ padded bits
  in_bytes = message_bits bits are_bits

  pub message_read : read t (bits_of (message bits)) 0 ≡ ok v cells (length bits)
  message_read = rw in_bytes (rw (zero-add, take-length) at (write_read t cells 0 (length cells) v bits e are_bits free [] (replicate fill 0) tt))

  padding_behind : drop (length bits) (bits_of (message bits)) ≡ replicate fill 0
  padding_behind = ap (drop (length bits)) in_bytes ∙ drop_at bits (replicate fill 0) (length bits) refl

  pub message_padded : is_padding (drop (length bits) (bits_of (message bits))) ≡ true
  message_padded =
      let none : List ℕ = replicate fill 0 in
      let l : length none ≡ fill = length-replicate fill 0 in
      let h : length none < 8 = omega arith in
      rw (padding_behind, lt-ltb (length none) 8 h, eq-eqb (val none) 0 (zeros fill))

-- what stands behind a message is fewer than eight bits, all 0
padding_is : (bs : List ℕ) → is_padding bs ≡ true → (length bs < 8) × (val bs ≡ 0)
padding_is bs = go (ltb (length bs) 8) refl (eqb (val bs) 0) refl
  where
    go : (a : Bool) → ltb (length bs) 8 ≡ a → (b : Bool) → eqb (val bs) 0 ≡ b → cond a b false ≡ true → (length bs < 8) × (val bs ≡ 0)
    go true ea true eb e = (ltb-true (length bs) 8 ea, eqb-true (val bs) 0 eb)
    go true ea false eb e = absurd (let z : ◌≡◌ {A = ℕ} 0 1 = cc in omega arith)
    go false ea b eb e = absurd (let z : ◌≡◌ {A = ℕ} 0 1 = cc in omega arith)

module _ (t : Ty) (v : Value) (cells : List ℤ) (bytes : List ℕ) (q : ℕ) (octets : Octets bytes) (e : read t (bits_of bytes) 0 ≡ ok v cells q) (p : is_padding (drop q (bits_of bytes)) ≡ true) where
  abbrev front : List ℕ
  front = take q (bits_of bytes)

  inside : q ≤ 8 * length bytes
  inside = omega (arith, read_inside t (bits_of bytes) 0 q v cells e, bits_of_length bytes)

  front_length : length front ≡ q
  front_length = length-take-le q (bits_of bytes) (omega (arith, inside, bits_of_length bytes))

  -- the bytes are the message of the bits that were read
  enough : octets_for (length front) ≡ length bytes
  enough = omega (arith, padding_is (drop q (bits_of bytes)) p, length-drop q (bits_of bytes), bits_of_length bytes, front_length, inside)

  front_padded : padded front ≡ bits_of bytes
  front_padded =
      let behind : List ℕ = drop q (bits_of bytes) in
      let rest : behind ≡ replicate (length behind) 0 = all_zero behind (binary_drop q (bits_of bytes) (bits_of_binary bytes)) (padding_is behind p).1 in
      let n : 8 * octets_for (length front) - length front ≡ length behind = omega (arith, enough, front_length, length-drop q (bits_of bytes), bits_of_length bytes) in
      ap (λ (k : ℕ). front ++ replicate k 0) n ∙ ap (λ (l : List ℕ). front ++ l) (sym rest) ∙ take-append-drop q (bits_of bytes)

  pub message_only : message front ≡ bytes
  message_only = ap₂ bytes_of enough front_padded ∙ bytes_bits bytes octets

  pub message_codes : Codes t v cells front
  message_codes = rw (append-nil, zero-add) at (read_write t (bits_of bytes) (bits_of_binary bytes) 0 q v cells e [] [])

-- ---- reading, by type number

module _ {edition number : ℕ} {cells : List ℤ} {bytes : List ℕ} (E : Encodes edition number cells bytes) where
  pub octets_for_lem : octets_for (length E.bits) ≡ length bytes
  octets_for_lem = sym (message_length E.bits) ∙ ap length E.padded

  few_octets : octets_for (length E.bits) ≤ most_bytes
  few_octets = omega (arith, octets_for_lem, E.few)

  pub bytes_read : read (type_of the_rows E.row) (bits_of bytes) 0 ≡ ok E.value cells (length E.bits)
  bytes_read = rw (← E.padded) (message_read (type_of the_rows E.row) E.value cells E.bits E.codes few_octets)

  bytes_padded : is_padding (drop (length E.bits) (bits_of bytes)) ≡ true
  bytes_padded = rw (← E.padded) (message_padded (type_of the_rows E.row) E.value cells E.bits E.codes few_octets)

  -- an encoding is accepted, given room, with its counts, and the sheet holds the value
  pub read_accepts : (sheet : List ℤ) → length cells ≤ length sheet → read_message number bytes sheet ≡ done (length E.bits) (length cells)
  unfolding read_typed read_answer
  read_accepts sheet room =
      rw (E.named, le-ltb 2048 (length bytes) E.few, bytes_read, bytes_padded, le-leb (length cells) (length sheet) room)

  pub read_lists : (sheet : List ℤ) → length cells ≤ length sheet → sheet_after number bytes sheet ≡ filled cells sheet
  unfolding cells_read out_of
  read_lists sheet room =
      lent_filled (read_message number bytes sheet) (cells_read (named_row number) bytes) sheet (rw (read_accepts sheet room) refl) ∙ rw (E.named, bytes_read) refl

  -- an encoding for which there is no room is refused with 8 and the cells needed
  pub read_needs : (sheet : List ℤ) → length sheet < length cells → read_message number bytes sheet ≡ no_room (length cells)
  unfolding read_typed read_answer
  read_needs sheet small =
      rw (E.named, le-ltb 2048 (length bytes) E.few, bytes_read, bytes_padded, lt-leb (length cells) (length sheet) small)

  -- ---- writing, by edition and type number

  pub write_makes : (lent : List ℕ) → length bytes ≤ length lent → write_message edition number cells lent ≡ done (length E.bits) (length bytes)
  unfolding write_in write_typed write_answer
  write_makes lent room =
      rw (E.named, eq-eqb edition first_edition E.known, E.codes, le-ltb (length cells) (length cells) (omega arith), octets_for_lem, le-ltb 2048 (length bytes) E.few, le-leb (length bytes) (length lent) room)

  pub write_fills : (lent : List ℕ) → length bytes ≤ length lent → bytes_after edition number cells lent ≡ filled bytes lent
  unfolding bytes_made out_of
  write_fills lent room =
      lent_filled (write_message edition number cells lent) (bytes_made (named_row number) cells) lent (rw (write_makes lent room) refl) ∙ rw (E.named, E.codes, E.padded) refl

  pub write_needs : (lent : List ℕ) → length lent < length bytes → write_message edition number cells lent ≡ no_room (length bytes)
  unfolding write_in write_typed write_answer
  write_needs lent small =
      rw (E.named, eq-eqb edition first_edition E.known, E.codes, le-ltb (length cells) (length cells) (omega arith), octets_for_lem, le-ltb 2048 (length bytes) E.few, lt-leb (length bytes) (length lent) small)

-- ---- nothing else is accepted

-- what an acceptance by reading comes from
pub record Accepted (number : ℕ) (bytes : List ℕ) (sheet : List ℤ) : Type 0 where
  pub cells : List ℤ
  pub encodes : Encodes (told_reading number bytes sheet).edition (told_reading number bytes sheet).type_number cells bytes
  pub room : length cells ≤ length sheet

no_zero : {n : ℕ} → n ≡ 0 → 0 < n → ⊥
no_zero e h = omega arith

-- reading accepts an encoding only
pub read_only : (number : ℕ) (bytes : List ℕ) (sheet : List ℤ) → Octets bytes → (read_message number bytes sheet).number ≡ 0 → Accepted number bytes sheet
unfolding read_typed read_answer
read_only number bytes sheet octets = named (named_row number) refl
  where
    room : (t : Ty) (v : Value) (cells : List ℤ) (next row : ℕ) → named_row number ≡ Some row → t ≡ type_of the_rows row → length bytes ≤ 2048 → read t (bits_of bytes) 0 ≡ ok v cells next → is_padding (drop next (bits_of bytes)) ≡ true
        → (b : Bool) → leb (length cells) (length sheet) ≡ b → (cond b (done next (length cells)) (no_room (length cells))).number ≡ 0 → Accepted number bytes sheet
    room t v cells next row n et few e p true eb z =
        record {
          cells = cells;
          encodes = record {
            known = refl;
            row = row;
            named = n;
            value = v;
            bits = take next (bits_of bytes);
            codes = subst (λ (u : Ty). Codes u v cells (take next (bits_of bytes))) et (message_codes t v cells bytes next octets e p);
            padded = message_only t v cells bytes next octets e p;
            few = few;
          };
          room = leb-true (length cells) (length sheet) eb;
        }
    room t v cells next row n et few e p false eb z = absurd (no_zero z (omega arith))

    padding : (t : Ty) (v : Value) (cells : List ℤ) (next row : ℕ) → named_row number ≡ Some row → t ≡ type_of the_rows row → length bytes ≤ 2048 → read t (bits_of bytes) 0 ≡ ok v cells next
        → (b : Bool) → is_padding (drop next (bits_of bytes)) ≡ b
        → (cond b (cond (leb (length cells) (length sheet)) (done next (length cells)) (no_room (length cells))) (refused_by (spare_bits next))).number ≡ 0 → Accepted number bytes sheet
    padding t v cells next row n et few e true p z = room t v cells next row n et few e p (leb (length cells) (length sheet)) refl z
    padding t v cells next row n et few e false p z = absurd (no_zero z (omega arith))

    got : (t : Ty) (row : ℕ) → named_row number ≡ Some row → t ≡ type_of the_rows row → length bytes ≤ 2048
        → (g : Got ℤ Value) → read t (bits_of bytes) 0 ≡ g → (read_answer (bits_of bytes) (length sheet) g).number ≡ 0 → Accepted number bytes sheet
    got t row n et few (ok v cells next) e z = padding t v cells next row n et few e (is_padding (drop next (bits_of bytes))) refl z
    got t row n et few (refused why) e z = absurd (no_zero z (omega (arith, reads_least (row_number row (bits_of bytes) 0 why (ap (λ (u : Ty). read u (bits_of bytes) 0) (sym et) ∙ e)))))

    short : (row : ℕ) → named_row number ≡ Some row → (b : Bool) → ltb 2048 (length bytes) ≡ b
        → (cond b (refused_by too_long) (read_answer (bits_of bytes) (length sheet) (read (type_of the_rows row) (bits_of bytes) 0))).number ≡ 0 → Accepted number bytes sheet
    short row n true eb z = absurd (no_zero z (omega arith))
    short row n false eb z = got (type_of the_rows row) row n refl (ltb-false 2048 (length bytes) eb) (read (type_of the_rows row) (bits_of bytes) 0) refl z

    named : (n : Option ℕ) → named_row number ≡ n → (read_typed n bytes (length sheet)).number ≡ 0 → Accepted number bytes sheet
    named (Some row) n z = short row n (ltb 2048 (length bytes)) refl z
    named None n z = absurd (no_zero z (omega arith))

-- what an acceptance by writing comes from
pub record Made (edition number : ℕ) (cells : List ℤ) (lent : List ℕ) : Type 0 where
  pub bytes : List ℕ
  pub encodes : Encodes edition number cells bytes
  pub room : length bytes ≤ length lent

-- writing accepts a value only
pub write_only : (edition number : ℕ) (cells : List ℤ) (lent : List ℕ) → (write_message edition number cells lent).number ≡ 0 → Made edition number cells lent
unfolding write_in write_typed write_answer
write_only edition number cells lent = named (named_row number) refl
  where
    room : (t : Ty) (v : Value) (bits : List ℕ) (next row : ℕ) → named_row number ≡ Some row → t ≡ type_of the_rows row → write t cells 0 ≡ ok v bits next → length cells ≤ next → octets_for (length bits) ≤ 2048
        → (b : Bool) → leb (octets_for (length bits)) (length lent) ≡ b → (cond b (done (length bits) (octets_for (length bits))) (no_room (octets_for (length bits)))).number ≡ 0 → Made first_edition number cells lent
    room t v bits next row n et e all few true eb z =
        let last : next ≡ length cells = omega (arith, write_inside t cells 0 next v bits e) in
        let l : length (message bits) ≡ octets_for (length bits) = message_length bits in
        record {
          bytes = message bits;
          encodes = record { known = refl; row = row; named = n; value = v; bits = bits; codes = subst (λ (u : Ty). Codes u v cells bits) et (e ∙ ap (ok v bits) last); padded = refl; few = omega arith };
          room = omega (arith, leb-true (octets_for (length bits)) (length lent) eb);
        }
    room t v bits next row n et e all few false eb z = absurd (no_zero z (omega arith))

    short : (t : Ty) (v : Value) (bits : List ℕ) (next row : ℕ) → named_row number ≡ Some row → t ≡ type_of the_rows row → write t cells 0 ≡ ok v bits next → length cells ≤ next
        → (b : Bool) → ltb 2048 (octets_for (length bits)) ≡ b
        → (cond b (refused_by too_long) (cond (leb (octets_for (length bits)) (length lent)) (done (length bits) (octets_for (length bits))) (no_room (octets_for (length bits))))).number ≡ 0 → Made first_edition number cells lent
    short t v bits next row n et e all true eb z = absurd (no_zero z (omega arith))
    short t v bits next row n et e all false eb z = room t v bits next row n et e all (ltb-false 2048 (octets_for (length bits)) eb) (leb (octets_for (length bits)) (length lent)) refl z

    spare : (t : Ty) (v : Value) (bits : List ℕ) (next row : ℕ) → named_row number ≡ Some row → t ≡ type_of the_rows row → write t cells 0 ≡ ok v bits next
        → (b : Bool) → ltb next (length cells) ≡ b
        → (cond b (refused_by (no_value next)) (cond (ltb 2048 (octets_for (length bits))) (refused_by too_long) (cond (leb (octets_for (length bits)) (length lent)) (done (length bits) (octets_for (length bits))) (no_room (octets_for (length bits)))))).number ≡ 0 → Made first_edition number cells lent
    spare t v bits next row n et e true eb z = absurd (no_zero z (omega arith))
    spare t v bits next row n et e false eb z = short t v bits next row n et e (ltb-false next (length cells) eb) (ltb 2048 (octets_for (length bits))) refl z

    got : (t : Ty) (row : ℕ) → named_row number ≡ Some row → t ≡ type_of the_rows row → (g : Got ℕ Value) → write t cells 0 ≡ g → (write_answer (length cells) (length lent) g).number ≡ 0 → Made first_edition number cells lent
    got t row n et (ok v bits next) e z = spare t v bits next row n et e (ltb next (length cells)) refl z
    got t row n et (refused why) e z = absurd (no_zero z (omega (arith, write_number_lem t cells 0 why e)))

    edited : (row : ℕ) → named_row number ≡ Some row → (b : Bool) → eqb edition first_edition ≡ b → (cond b (write_typed (Some row) cells (length lent)) (refused_by (refusal reason.UnknownEdition 0))).number ≡ 0 → Made edition number cells lent
    edited row n true known z = subst (λ (e : ℕ). Made e number cells lent) (sym (eqb-true edition first_edition known)) (got (type_of the_rows row) row n refl (write (type_of the_rows row) cells 0) refl z)
    edited row n false known z = absurd (no_zero z (omega arith))

    named : (n : Option ℕ) → named_row number ≡ n → (write_in edition n cells (length lent)).number ≡ 0 → Made edition number cells lent
    named (Some row) n z = edited row n (eqb edition first_edition) refl z
    named None n z = absurd (no_zero z (omega arith))

-- ---- both ways round: the messages that are read are those that are written, and the lists are the same

-- one encoding is of one value, and one value has one encoding
pub one_value : (edition number : ℕ) (a b : List ℤ) (bytes : List ℕ) → Encodes edition number a bytes → Encodes edition number b bytes → a ≡ b
one_value edition number a b bytes E F =
    let same : Some E.row ≡ Some F.row = sym E.named ∙ F.named in
    let row : E.row ≡ F.row = cc in
    let other : read (type_of the_rows E.row) (bits_of bytes) 0 ≡ ok F.value b (length F.bits) = rw row (bytes_read F) in
    let both : ok E.value a (length E.bits) ≡ ok F.value b (length F.bits) = sym (bytes_read E) ∙ other in
    cc

pub one_encoding : (edition number : ℕ) (cells : List ℤ) (a b : List ℕ) → Encodes edition number cells a → Encodes edition number cells b → a ≡ b
one_encoding edition number cells a b E F =
    let same : Some E.row ≡ Some F.row = sym E.named ∙ F.named in
    let row : E.row ≡ F.row = cc in
    let other : write (type_of the_rows E.row) cells 0 ≡ ok F.value F.bits (length cells) = rw row F.codes in
    let both : ok E.value E.bits (length cells) ≡ ok F.value F.bits (length cells) = sym E.codes ∙ other in
    let bits : E.bits ≡ F.bits = cc in
    sym E.padded ∙ ap message bits ∙ F.padded

-- ---- lists that are refused

-- a list that is no value of the type is refused with 7
pub write_refuses_no_value : (number row : ℕ) (cells : List ℤ) (lent : List ℕ) → named_row number ≡ Some row → ((v : Value) (bits : List ℕ) → Codes (type_of the_rows row) v cells bits → ⊥) → (write_message first_edition number cells lent).number ≡ 7
unfolding write_in write_typed write_answer
write_refuses_no_value number row cells lent n none = rw n (got (write (type_of the_rows row) cells 0) refl)
  where
    got : (g : Got ℕ Value) → write (type_of the_rows row) cells 0 ≡ g → (write_answer (length cells) (length lent) g).number ≡ 7
    got (ok v bits next) e = elim (dec_lt next (length cells)) [
      | yes h ↦ rw (lt-ltb next (length cells) h) refl
      | no h ↦ let last : next ≡ length cells = omega (arith, write_inside (type_of the_rows row) cells 0 next v bits e) in absurd (none v bits (e ∙ ap (ok v bits) last))
    ]
    got (refused why) e = write_number_lem (type_of the_rows row) cells 0 why e

-- a value that comes out longer than 2,048 bytes is refused with 1
pub write_refuses_long : (number row : ℕ) (v : Value) (cells : List ℤ) (bits lent : List ℕ) → named_row number ≡ Some row → Codes (type_of the_rows row) v cells bits → 2048 < octets_for (length bits) → write_message first_edition number cells lent ≡ refused_by (refusal reason.TooLong 0)
unfolding write_in write_typed write_answer
write_refuses_long number row v cells bits lent n e long = rw (n, e, le-ltb (length cells) (length cells) (omega arith), lt-ltb 2048 (octets_for (length bits)) long)

-- ---- editions (document 02, A11)

-- with every number, 0 or not, reading tells the edition and the type number that was asked for
pub read_tells : (number : ℕ) (bytes : List ℕ) (sheet : List ℤ) → ((told_reading number bytes sheet).edition ≡ first_edition) × ((told_reading number bytes sheet).type_number ≡ number)
read_tells number bytes sheet = (refl, refl)

-- a type number that is not named is refused with 2, whatever the edition
pub unknown_type_first : (edition number : ℕ) (cells : List ℤ) (lent : List ℕ) → named_row number ≡ None → write_message edition number cells lent ≡ refused_by (refusal reason.UnknownType 0)
unfolding write_in
unknown_type_first edition number cells lent n = rw n refl

-- else an edition that is not known is refused with 26, whatever the sheet
pub unknown_edition : (edition number row : ℕ) (cells : List ℤ) (lent : List ℕ) → named_row number ≡ Some row → (edition ≡ first_edition → ⊥) → write_message edition number cells lent ≡ refused_by (refusal reason.UnknownEdition 0)
unfolding write_in
unknown_edition edition number row cells lent n other = rw (n, ne_eqb edition first_edition other) refl
