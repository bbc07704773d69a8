-- The length of a message of a plan: that of its header, the size of its list, and each of its entries, added up.
-- Assumes nothing.
use Prim.Native.Nat.{ℕ, zero, suc, ◌+◌, ◌-◌, ◌<◌, ◌≤◌}
use native.Mathlib.Omega.{arith}
use mathlib.Core.Path.{◌≡◌, refl, sym, ap, subst, ◌∙◌}
use mathlib.Core.Bool.{Bool, true, false}
use mathlib.Core.List.{List, [], ◌∷◌, ◌++◌}
use lib.IntN.{ℤ, pos, ◌-ℤ◌, +ℤ-neg_ℤ_cancel, pos-+ℤ-pos}
use lib.ListN.{length, get_or, set, length-append, length-set, get_or-append}
use lib.Seq.{get_or-append_seam, get_or-append-add, get_or-set_same, get_or-set_other}
use Rattle.bits.specs.Bytes.{octets_for}
use Rattle.bits.specs.Numbers.{to_bits, width}
use Rattle.bits.proofs.Numbers.{to_bits_length}
use Rattle.types.specs.Rows.{rows}
use Rattle.types.specs.Shape.{Ty, size_in}
use Rattle.types.specs.Shape.Ty.{seq, choice, list}
use Rattle.meaning.specs.Values.{Value, sequence, chosen, items}
use Rattle.meaning.specs.Steps.{Got, ok, pure, ◌>>=◌, out_of}
use Rattle.meaning.specs.Walk.{flags, times, walk, fields, alternative}
use Rattle.meaning.specs.Writing.{write_whole, write_extension, writer, write}
use Rattle.meaning.proofs.Steps.{bind_ok}
use Rattle.meaning.proofs.Sides.{write_whole_lem, whole_write}
use Rattle.sheet.proofs.Apart.{optionals}
use Rattle.rules.specs.Lists.{item_row}
use Rattle.packing.specs.Message.{flag_at, joined, message_sheet, message_octets}
use Rattle.packing.specs.Steps.{Sized}
use Rattle.packing.proofs.Types.{ty, frame_type, rsi_type, events_type, signs_type}
use Rattle.packing.proofs.Moved.{Alike}
use Rattle.packing.proofs.Growing.{no_more, and_more, Adds, here, past_must, past_there, past_absent, Grown, grown}
use Rattle.packing.proofs.Flags.{Shown, Made, flags_made}
use Rattle.packing.proofs.Pieces.{total, Joins, pieces_join}
use Rattle.packing.proofs.Header.{components, messages, index, Header}

-- ---- the two lists

abbrev pub list_row : Bool → ℕ
list_row false = 343
list_row true = 354

-- how many entries a list has besides the first
abbrev pub others : Bool → ℕ
others false = 7
others true = 15

list_type : (signs : Bool) → ty (list_row signs) ≡ list (list_row signs) 1 (others signs) (ty (item_row signs))
unfolding rows
list_type false = events_type
list_type true = signs_type

-- the presence bits with the list there
abbrev present : Bool → ℕ → List ℕ
present false moy = moy ∷ 1 ∷ 0 ∷ []
present true moy = moy ∷ 0 ∷ 1 ∷ []

adds : (signs : Bool) (moy : ℕ) → Adds (ty (list_row signs)) components (moy ∷ 0 ∷ 0 ∷ []) (present signs moy)
adds false zero = past_must (past_absent (past_must (past_must (here (and_more no_more)))))
adds false (suc n) = past_must (past_there (past_must (past_must (here (and_more no_more)))))
adds true zero = past_must (past_absent (past_must (past_must (past_absent (here no_more)))))
adds true (suc n) = past_must (past_there (past_must (past_must (past_absent (here no_more)))))

-- ---- a list of so many entries

module _ (t : Ty) (row n : ℕ) (other : List ℤ) (d : ℕ) (room : d < length other) (cell : get_or other d (pos 0) ≡ pos (1 + n)) {end size : ℕ} (J : Joins t (1 + n) other (d + 1) end size) where
  above : get_or other d (pos 0) -ℤ pos 1 ≡ pos n
  above = let one_more : 1 + n ≡ n + 1 = omega arith in ap (λ (z : ℤ). z -ℤ pos 1) (cell ∙ ap pos one_more ∙ sym (pos-+ℤ-pos n 1)) ∙ +ℤ-neg_ℤ_cancel (pos n) (pos 1)

  pub record Listed (span : ℕ) : Type 0 where
    pub bits : List ℕ
    pub is : write (list row 1 span t) other d ≡ ok (items J.values) bits end
    pub many : length bits ≡ width span + size

  listed : (span : ℕ) → 0 < span → n ≤ span → Listed span
  unfolding walk pure
  listed zero h few = absurd (omega arith)
  listed (suc m) h few =
      let w = whole_write other (size_in row 1 (suc m)) d n room above few in
      record {
        bits = to_bits (width (suc m)) n ++ (J.bits ++ []);
        is = bind_ok (write_whole (size_in row 1 (suc m))) (λ k. times (1 + k) (write t) >>= (λ vs. pure (items vs))) other d w (bind_ok (times (1 + n) (write t)) (λ vs. pure (items vs)) other (d + 1) J.are refl);
        many = omega (arith, length-append (to_bits (width (suc m)) n) (J.bits ++ []), length-append J.bits [], to_bits_length (width (suc m)) n, J.many);
      }

-- ---- a message

-- the sheet of a message is a value of a frame, and its length is that of what is written of it
pub record Written (signs : Bool) (header : List ℤ) (pieces : List (List ℤ)) : Type 0 where
  pub value : Value
  pub bits : List ℕ
  pub codes : write (ty 413) (message_sheet signs header pieces) 0 ≡ ok value bits (length (message_sheet signs header pieces))
  pub many : message_octets signs header pieces ≡ octets_for (length bits)

module _ (signs : Bool) (header : List ℤ) {size : ℕ} (H : Header header size) (pieces : List (List ℤ)) (sizes : List ℕ) (P : Sized (ty (item_row signs)) pieces sizes) (n : ℕ) (count : length pieces ≡ 1 + n) (few : n ≤ others signs) where
  abbrev front_cells : List ℤ
  front_cells = set header (flag_at signs) (pos 1)

  abbrev back_cells : List ℤ
  back_cells = pos (length pieces) ∷ joined pieces

  abbrev sheet : List ℤ
  sheet = front_cells ++ back_cells

  front_long : length front_cells ≡ length header
  front_long = length-set header (flag_at signs) (pos 1)

  flag_below : flag_at signs ≤ 3
  flag_below = go signs
    where
      go : (s : Bool) → flag_at s ≤ 3
      go false = omega arith
      go true = omega arith

  flag_above : 2 ≤ flag_at signs
  flag_above = go signs
    where
      go : (s : Bool) → 2 ≤ flag_at s
      go false = omega arith
      go true = omega arith

  long : length sheet ≡ length header + (1 + length (joined pieces))
  long = omega (arith, length-append front_cells back_cells, front_long)

  -- the header's cells but the flag are as they were
  same_cell : (k : ℕ) → k < length header → ¬ (k ≡ flag_at signs) → get_or sheet k (pos 0) ≡ get_or header k (pos 0)
  same_cell k h isnt = get_or-append front_cells back_cells (pos 0) k (omega (arith, front_long)) ∙ get_or-set_other header (flag_at signs) k (pos 1) (pos 0) isnt

  flag_cell : flag_at signs < length header → get_or sheet (flag_at signs) (pos 0) ≡ pos 1
  flag_cell h = get_or-append front_cells back_cells (pos 0) (flag_at signs) (omega (arith, front_long)) ∙ get_or-set_same header (flag_at signs) (pos 1) (pos 0) h

  -- four cells are there at least
  four : 4 ≤ length header
  four = H.shown.3.3.2

  fields_alike : Alike header 4 sheet 4 (length header - 4)
  fields_alike = record { same = λ k h. same_cell (4 + k) (omega (arith, four)) (λ z. omega (arith, z, flag_below)); enough = omega (arith, four, long) }

  -- the index of the message
  chooses : write_whole index sheet 0 ≡ ok 4 H.index_bits 1
  chooses =
      let W = write_whole_lem header index 0 H.chooses in
      whole_write sheet index 0 4 (omega (arith, long)) (ap (λ (z : ℤ). z -ℤ index.lowest) (same_cell 0 W.enough (λ z. omega (arith, z, flag_above))) ∙ W.is) W.within ∙ ap (λ (b : List ℕ). ok 4 b 1) W.puts

  -- the presence bits
  shown : Shown sheet 1 (present signs H.moy)
  shown = go signs refl
    where
      keeps : (k : ℕ) → k < length header → ¬ (k ≡ flag_at signs) → {m : ℕ} → get_or header k (pos 0) -ℤ pos 0 ≡ pos m → get_or sheet k (pos 0) -ℤ pos 0 ≡ pos m
      keeps k h isnt e = ap (λ (z : ℤ). z -ℤ pos 0) (same_cell k h isnt) ∙ e

      go : (s : Bool) → signs ≡ s → Shown sheet 1 (present s H.moy)
      go false e =
          let f : flag_at signs ≡ 2 = ap flag_at e in (
            keeps 1 (omega (arith, four)) (λ z. omega (arith, z, f)) H.shown.0,
            H.shown.1,
            omega (arith, long, four),
            (
              ap (λ (z : ℤ). z -ℤ pos 0) (ap (λ (k : ℕ). get_or sheet k (pos 0)) (sym f) ∙ flag_cell (omega (arith, four, f))),
              omega arith,
              omega (arith, long, four),
              (keeps 3 (omega (arith, four)) (λ z. omega (arith, z, f)) H.shown.3.3.0, omega arith, omega (arith, long, four), tt),
            ),
          )
      go true e =
          let f : flag_at signs ≡ 3 = ap flag_at e in (
            keeps 1 (omega (arith, four)) (λ z. omega (arith, z, f)) H.shown.0,
            H.shown.1,
            omega (arith, long, four),
            (
              keeps 2 (omega (arith, four)) (λ z. omega (arith, z, f)) H.shown.3.0,
              omega arith,
              omega (arith, long, four),
              (ap (λ (z : ℤ). z -ℤ pos 0) (ap (λ (k : ℕ). get_or sheet k (pos 0)) (sym f) ∙ flag_cell (omega (arith, four, f))), omega arith, omega (arith, long, four), tt),
            ),
          )

  -- the list
  entries_alike : Alike (joined pieces) 0 sheet (length header + 1) (length (joined pieces))
  entries_alike = record { same = same; enough = omega (arith, long) }
    where
      same : (k : ℕ) → k < length (joined pieces) → get_or sheet (length header + 1 + k) (pos 0) ≡ get_or (joined pieces) (0 + k) (pos 0)
      same k h =
          let a : length header + 1 + k ≡ length front_cells + (1 + k) = omega (arith, front_long) in
          let b : 1 + k ≡ suc (0 + k) = omega arith in
          ap (λ (i : ℕ). get_or sheet i (pos 0)) a ∙ get_or-append-add front_cells back_cells (1 + k) (pos 0) ∙ ap (λ (i : ℕ). get_or back_cells i (pos 0)) b

  joins : Joins (ty (item_row signs)) (1 + n) sheet (length header + 1) (length header + 1 + length (joined pieces)) (total sizes)
  joins = let J = pieces_join (ty (item_row signs)) pieces sizes P sheet (length header + 1) entries_alike in
      subst (λ (k : ℕ). Joins (ty (item_row signs)) k sheet (length header + 1) (length header + 1 + length (joined pieces)) (total sizes)) count J

  size_cell : get_or sheet (length header) (pos 0) ≡ pos (1 + n)
  size_cell = ap (λ (k : ℕ). get_or sheet k (pos 0)) (sym front_long) ∙ get_or-append_seam front_cells (pos (length pieces)) (joined pieces) (pos 0) ∙ ap pos count

  some_others : 0 < others signs
  some_others = go signs
    where
      go : (s : Bool) → 0 < others s
      go false = omega arith
      go true = omega arith

  L : Listed (ty (item_row signs)) (list_row signs) n sheet (length header) (omega (arith, long)) size_cell joins (others signs)
  L = listed (ty (item_row signs)) (list_row signs) n sheet (length header) (omega (arith, long)) size_cell joins (others signs) some_others few

  end : length header + 1 + length (joined pieces) ≡ length sheet
  end = omega (arith, long)

  list_written : write (ty (list_row signs)) sheet (length header) ≡ ok (items joins.values) L.bits (length sheet)
  list_written = ap (λ (t : Ty). write t sheet (length header)) (list_type signs) ∙ L.is ∙ ap (ok (items joins.values) L.bits) end

  -- the components
  G : Grown components (present signs H.moy) sheet 4 (H.bits ++ L.bits) (length sheet)
  G = grown (ty (list_row signs)) header sheet (length header) (items joins.values) L.bits (length sheet) list_written (adds signs H.moy) 4 H.parts H.bits H.written fields_alike

  three_flags : length (present signs H.moy) ≡ optionals components
  unfolding optionals
  three_flags = go signs
    where
      go : (s : Bool) → length (present s H.moy) ≡ 3
      go false = refl
      go true = refl

  M : Made sheet components 1 (present signs H.moy)
  M = flags_made sheet components 1 (present signs H.moy) three_flags shown

  sequence_bits : List ℕ
  sequence_bits = M.out ++ ((H.bits ++ L.bits) ++ [])

  sequence_written : write (seq components) sheet 1 ≡ ok (sequence G.parts) sequence_bits (length sheet)
  unfolding walk pure optionals sequence_bits
  sequence_written = bind_ok (flags components writer) (λ ns. fields components ns writer >>= (λ parts. pure (sequence parts))) sheet 1 M.is (bind_ok (fields components (present signs H.moy) writer) (λ parts. pure (sequence parts)) sheet 4 G.is refl)

  rsi_written : write (ty 395) sheet 1 ≡ ok (sequence G.parts) (0 ∷ sequence_bits) (length sheet)
  unfolding walk write_extension
  rsi_written = ap (λ (t : Ty). write t sheet 1) rsi_type ∙ bind_ok write_extension (λ x. write (seq components)) sheet 1 refl sequence_written

  value : Value
  value = chosen 4 (sequence G.parts)

  frame_bits : List ℕ
  frame_bits = 0 ∷ (H.index_bits ++ ((0 ∷ sequence_bits) ++ []))

  frame_written : write (ty 413) sheet 0 ≡ ok value frame_bits (length sheet)
  unfolding walk write_extension alternative pure frame_bits value
  frame_written =
      ap (λ (t : Ty). write t sheet 0) frame_type
      ∙ bind_ok write_extension (λ x. write (choice 413 messages)) sheet 0 refl
      (bind_ok (write_whole index) (λ k. alternative messages k writer >>= (λ v. pure (chosen k v))) sheet 0 chooses (bind_ok (alternative messages 4 writer) (λ v. pure (chosen 4 v)) sheet 1 rsi_written refl))

  frame_many : length frame_bits ≡ size + (width (others signs) + total sizes)
  unfolding frame_bits sequence_bits optionals
  frame_many =
      omega (arith, H.many, M.bits, L.many, length-append H.index_bits ((0 ∷ sequence_bits) ++ []), length-append sequence_bits [], length-append M.out ((H.bits ++ L.bits) ++ []), length-append (H.bits ++ L.bits) [], length-append H.bits L.bits)

  pub message_written : Written signs header pieces
  unfolding message_octets message_sheet out_of
  message_written = record { value = value; bits = frame_bits; codes = frame_written; many = ap octets_for (ap (λ (g : Got ℕ Value). length (out_of g)) frame_written) }

  -- what the writer makes of the sheet has as many octets as the lengths of its parts come to
  pub message_length : message_octets signs header pieces ≡ octets_for (size + (width (others signs) + total sizes))
  unfolding message_octets message_sheet out_of
  message_length = ap octets_for (ap (λ (g : Got ℕ Value). length (out_of g)) frame_written ∙ frame_many)
