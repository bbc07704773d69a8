-- The encoding of a frame, as the programs over records of frames read it: its cells are its value and nothing besides, and no frame lacks room.
-- Assumes nothing.
use Prim.Native.Nat.{ℕ, ◌<◌, ◌≤◌}
use mathlib.Core.Bool.{Bool, true, false, cond}
use mathlib.Core.List.{List}
use mathlib.Core.Path.{◌≡◌, refl, ap, ap₂, subst, ◌∙◌}
use native.Mathlib.Omega.{arith}
use borrow.Author.Tests.{le-ltb, leb-false, ltb-false}
use lib.Dec.{leb, ltb}
use lib.IntN.{ℤ, pos}
use lib.ListN.{length, drop, length-replicate}
use Rattle.answers.specs.Refusals.{too_long, spare_bits}
use Rattle.answers.specs.declared.Answer.{Answer}
use Rattle.bits.specs.Limits.{most_bytes, most_bits}
use Rattle.bits.specs.Bytes.{bits_of}
use Rattle.bits.proofs.Bytes.{bits_of_length}
use Rattle.types.specs.Rows.{rows}
use Rattle.types.specs.Table.{type_of, the_rows}
use Rattle.types.specs.Named.{named_row}
use Rattle.std.specs.Prelude.{Option, Some, None}
use Rattle.types.proofs.Rule.{rows_length}
use Rattle.meaning.specs.Values.{Value}
use Rattle.meaning.specs.Steps.{Got}
use Rattle.meaning.specs.Steps.Got.{ok, refused}
use Rattle.meaning.specs.Reading.{read}
use Rattle.meaning.specs.Writing.{write}
use Rattle.answers.specs.Answers.{done, refused_by, no_room}
use Rattle.meaning.specs.Messages.{is_padding, read_answer, read_typed, read_message, sheet_after, Encodes}
use Rattle.basics.specs.Lists.{filled}
use Rattle.meaning.proofs.DemandTwo.{octets_for_lem, bytes_read, read_accepts, read_lists}
use Rattle.meaning.proofs.Coded.{few_cells}
use Rattle.meaning.proofs.Bound.{read_inside}
use Rattle.meaning.proofs.Numbers.{row_number, reads_room}
use Rattle.sheet.specs.Sole.{value, sole_by, sole_value}
use Rattle.messages.specs.Message.{message_of, sole_message, message_in}
use Rattle.programs.specs.Frames.{lent_cells}

-- ---- the encoding of a frame

frame_row : {row : ℕ} → named_row 0 ≡ Some row → row ≡ 413
unfolding named_row
frame_row {row} e = let both : Some 413 ≡ Some row = e in cc

module _ {edition : ℕ} {cells : List ℤ} {frame : List ℕ} (E : Encodes edition 0 cells frame) where
  pub row_is : E.row ≡ 413
  row_is = frame_row E.named

  pub has_room : length cells ≤ length lent_cells
  has_room =
      let inside : E.row < length rows = omega (arith, rows_length, row_is) in
      omega (arith, few_cells E.row inside (bits_of frame) 0 (length E.bits) E.value cells (bytes_read E), octets_for_lem E, E.few, length-replicate most_bits (pos 0))

  -- what is made of the answer and the cells behind it is made of the message's own
  pub encoding_made : {X : Type 0} (f : Answer → List ℤ → X) → f (read_message 0 frame lent_cells) (sheet_after 0 frame lent_cells) ≡ f (done (length E.bits) (length cells)) (filled cells lent_cells)
  encoding_made f = ap₂ f (read_accepts E lent_cells has_room) (read_lists E lent_cells has_room)

  -- they are the value and nothing besides
  pub sole_value_lem : sole_value 413 cells ≡ value E.value
  unfolding sole_by
  sole_value_lem =
      let codes : write (type_of the_rows 413) cells 0 ≡ ok E.value E.bits (length cells) =
      subst (λ (row : ℕ). write (type_of the_rows row) cells 0 ≡ ok E.value E.bits (length cells)) row_is E.codes
      in
      ap (sole_by (length cells)) codes ∙ rw (le-ltb (length cells) (length cells) (omega arith))

  -- so that the message in them is that of the value
  pub message_value : message_in cells ≡ message_of E.value
  unfolding message_in sole_message
  message_value = ap sole_message sole_value_lem

-- ---- no frame lacks room

answer_room : (row : ℕ) → row < length rows → (bytes : List ℕ) → length bytes ≤ most_bytes → (g : Got ℤ Value) → read (type_of the_rows row) (bits_of bytes) 0 ≡ g → (read_answer (bits_of bytes) most_bits g).number ≡ 8 → ⊥
unfolding read_answer
answer_room row inside bytes few (ok v cells next) e = go (is_padding (drop next (bits_of bytes))) (leb (length cells) most_bits) refl
  where
    few_of : length cells ≤ most_bits
    few_of = omega (arith, few_cells row inside (bits_of bytes) 0 next v cells e, (read_inside (type_of the_rows row) (bits_of bytes) 0 next v cells e).within, bits_of_length bytes)

    go : (p r : Bool) → leb (length cells) most_bits ≡ r → (cond p (cond r (done next (length cells)) (no_room (length cells))) (refused_by (spare_bits next))).number ≡ 8 → ⊥
    go true true l z = omega arith
    go true false l z = omega (arith, few_of, leb-false (length cells) most_bits l)
    go false r l z = omega arith
answer_room row inside bytes few (refused why) e = reads_room (row_number row (bits_of bytes) 0 why e)

typed_room : (n : Option ℕ) → named_row 0 ≡ n → (frame : List ℕ) → (read_typed n frame most_bits).number ≡ 8 → ⊥
unfolding read_typed
typed_room None e frame = λ z. omega arith
typed_room (Some row) e frame = go (ltb most_bytes (length frame)) refl
  where
    inside : row < length rows
    inside = omega (arith, rows_length, frame_row e)

    go : (b : Bool) → ltb most_bytes (length frame) ≡ b → (cond b (refused_by too_long) (read_answer (bits_of frame) most_bits (read (type_of the_rows row) (bits_of frame) 0))).number ≡ 8 → ⊥
    go true l z = omega arith
    go false l z = answer_room row inside frame (ltb-false most_bytes (length frame) l) (read (type_of the_rows row) (bits_of frame) 0) refl z

pub never_without_room : (frame : List ℕ) → (read_message 0 frame lent_cells).number ≡ 8 → ⊥
never_without_room frame = typed_room (named_row 0) refl frame
