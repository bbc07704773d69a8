-- A frame needs no more cells than it has bits: with so many lent, what is made of its answer and its cells is the same as with the cells of the longest frame.
-- Assumes nothing.
use Prim.Native.Nat.{ℕ, ◌*◌, ◌<◌, ◌≤◌}
use mathlib.Core.Bool.{Bool, true, false, cond}
use mathlib.Core.List.{List, []}
use mathlib.Core.Path.{◌≡◌, refl, sym, subst}
use native.Mathlib.Omega.{arith}
use borrow.Author.Tests.{le-leb, leb-true, ltb-false}
use lib.Dec.{leb, ltb}
use lib.IntN.{ℤ, pos}
use lib.ListN.{length, drop, take, length-replicate}
use lib.Seq.{take-append_seam}
use Rattle.answers.specs.Refusals.{too_long, unknown_type, spare_bits}
use Rattle.answers.specs.declared.Refusal.{Refusal}
use Rattle.answers.specs.declared.Answer.{Answer}
use Rattle.answers.specs.Answers.{done, refused_by, no_room, lent_after}
use Rattle.basics.specs.Lists.{filled}
use Rattle.bits.specs.Limits.{most_bytes, most_bits}
use Rattle.bits.specs.Bytes.{bits_of}
use Rattle.bits.proofs.Bytes.{bits_of_length}
use Rattle.types.specs.Rows.{rows}
use Rattle.types.specs.Table.{type_of, the_rows}
use Rattle.types.specs.Named.{named_row}
use Rattle.std.specs.Prelude.{Option, Some, None}
use Rattle.types.proofs.Rule.{rows_length}
use Rattle.meaning.specs.Values.{Value}
use Rattle.meaning.specs.Steps.{Got, out_of}
use Rattle.meaning.specs.Steps.Got.{ok, refused}
use Rattle.meaning.specs.Reading.{read}
use Rattle.meaning.specs.Messages.{is_padding, read_answer, read_typed, cells_read, read_typed_sheet, read_message, sheet_after}
use Rattle.meaning.proofs.Coded.{few_cells}
use Rattle.meaning.proofs.Bound.{read_inside}
use Rattle.programs.specs.Frames.{lent_cells}

frame_row : {row : ℕ} → named_row 0 ≡ Some row → row ≡ 413
unfolding named_row
frame_row {row} e = let both : Some 413 ≡ Some row = e in cc

-- cells enough for a frame: as many as it has bits, unless it is too long
abbrev pub Enough : List ℕ → List ℤ → Type 0
Enough frame sheet = length frame ≤ most_bytes → 8 * length frame ≤ length sheet

pub lent_enough : (frame : List ℕ) → Enough frame lent_cells
lent_enough frame h = omega (arith, length-replicate most_bits (pos 0))

-- f: made of an answer and the cells behind it, by no more than a refusal has or an accepted message's own cells
module _ {X : Type 0} (f : Answer → List ℤ → X)
    (by-refusal : (why : Refusal) (s t : List ℤ) → f (refused_by why) s ≡ f (refused_by why) t)
    (by-cells : (bits : ℕ) (cells s t : List ℤ) → f (done bits (length cells)) (filled cells s) ≡ f (done bits (length cells)) (filled cells t)) where
  -- by what was read
  made : List ℕ → Got ℤ Value → List ℤ → X
  made bs g s = f (read_answer bs (length s) g) (lent_after (read_answer bs (length s) g) (out_of g) s)

  same_made : (row : ℕ) → row < length rows → (bytes : List ℕ) (s t : List ℤ) → 8 * length bytes ≤ length s → 8 * length bytes ≤ length t
      → (g : Got ℤ Value) → read (type_of the_rows row) (bits_of bytes) 0 ≡ g → made (bits_of bytes) g s ≡ made (bits_of bytes) g t
  unfolding made read_answer lent_after out_of
  same_made row inside bytes s t hs ht (ok v cells next) e = rw (le-leb (length cells) (length s) fits_s, le-leb (length cells) (length t) fits_t) (go (is_padding (drop next (bits_of bytes))))
    where
      few : length cells ≤ 8 * length bytes
      few = omega (arith, few_cells row inside (bits_of bytes) 0 next v cells e, (read_inside (type_of the_rows row) (bits_of bytes) 0 next v cells e).within, bits_of_length bytes)

      fits_s : length cells ≤ length s
      fits_s = omega (arith, few)

      fits_t : length cells ≤ length t
      fits_t = omega (arith, few)

      answer : Bool → Answer
      answer p = cond p (done next (length cells)) (refused_by (spare_bits next))

      go : (p : Bool) → f (answer p) (lent_after (answer p) cells s) ≡ f (answer p) (lent_after (answer p) cells t)
      go true = by-cells next cells s t
      go false = by-refusal (spare_bits next) s t
  same_made row inside bytes s t hs ht (refused why) e = by-refusal why (lent_after (refused_by why) [] s) (lent_after (refused_by why) [] t)

  -- by what a type number names
  made_typed : Option ℕ → List ℕ → List ℤ → X
  made_typed n bytes s = f (read_typed n bytes (length s)) (read_typed_sheet n bytes s)

  same_typed : (n : Option ℕ) → named_row 0 ≡ n → (bytes : List ℕ) (s t : List ℤ) → Enough bytes s → Enough bytes t → made_typed n bytes s ≡ made_typed n bytes t
  unfolding made_typed read_typed cells_read made
  same_typed None e bytes s t hs ht = by-refusal unknown_type (lent_after (refused_by unknown_type) [] s) (lent_after (refused_by unknown_type) [] t)
  same_typed (Some row) e bytes s t hs ht = go (ltb most_bytes (length bytes)) refl
    where
      got : Got ℤ Value
      got = read (type_of the_rows row) (bits_of bytes) 0

      answer : Bool → List ℤ → Answer
      answer b u = cond b (refused_by too_long) (read_answer (bits_of bytes) (length u) got)

      inside : row < length rows
      inside = omega (arith, rows_length, frame_row e)

      go : (b : Bool) → ltb most_bytes (length bytes) ≡ b → f (answer b s) (lent_after (answer b s) (out_of got) s) ≡ f (answer b t) (lent_after (answer b t) (out_of got) t)
      go true l = by-refusal too_long (lent_after (refused_by too_long) (out_of got) s) (lent_after (refused_by too_long) (out_of got) t)
      go false l = let few : length bytes ≤ most_bytes = ltb-false most_bytes (length bytes) l in same_made row inside bytes s t (hs few) (ht few) got refl

  pub same_frame : (frame : List ℕ) (sheet : List ℤ) → Enough frame sheet → f (read_message 0 frame sheet) (sheet_after 0 frame sheet) ≡ f (read_message 0 frame lent_cells) (sheet_after 0 frame lent_cells)
  unfolding made_typed
  same_frame frame sheet h = same_typed (named_row 0) refl frame sheet lent_cells h (lent_enough frame)

-- the cells that an accepted message has
pub own_cells : (cells s : List ℤ) → take (length cells) (filled cells s) ≡ cells
own_cells cells s = take-append_seam cells (drop (length cells) s)

-- ---- what reading answers fits into what is lent

-- an accepted message has no more cells than were lent
answer_fits : (bs : List ℕ) (room : ℕ) (g : Got ℤ Value) → (read_answer bs room g).number ≡ 0 → (read_answer bs room g).count ≤ room
unfolding read_answer
answer_fits bs room (ok told cells next) = go (is_padding (drop next bs)) (leb (length cells) room) refl
  where
    go : (p r : Bool) → leb (length cells) room ≡ r
        → (cond p (cond r (done next (length cells)) (no_room (length cells))) (refused_by (spare_bits next))).number ≡ 0
        → (cond p (cond r (done next (length cells)) (no_room (length cells))) (refused_by (spare_bits next))).count ≤ room
    go true true l e = leb-true (length cells) room l
    go true false l e = absurd (omega arith)
    go false r l e = omega arith
answer_fits bs room (refused why) = λ e. omega arith

typed_fits : (n : Option ℕ) (bytes : List ℕ) (room : ℕ) → (read_typed n bytes room).number ≡ 0 → (read_typed n bytes room).count ≤ room
unfolding read_typed
typed_fits None bytes room = λ e. omega arith
typed_fits (Some row) bytes room = go (ltb most_bytes (length bytes))
  where
    got : Got ℤ Value
    got = read (type_of the_rows row) (bits_of bytes) 0

    go : (b : Bool) → (cond b (refused_by too_long) (read_answer (bits_of bytes) room got)).number ≡ 0 → (cond b (refused_by too_long) (read_answer (bits_of bytes) room got)).count ≤ room
    go true e = omega arith
    go false e = answer_fits (bits_of bytes) room got e

pub read_fits : (number : ℕ) (bytes : List ℕ) (sheet : List ℤ) {a : Answer} → a ≡ read_message number bytes sheet → a.number ≡ 0 → a.count ≤ length sheet
read_fits number bytes sheet {a} e =
    subst (λ (x : Answer). x.number ≡ 0 → x.count ≤ length sheet) (sym e) (typed_fits (named_row number) bytes (length sheet))
