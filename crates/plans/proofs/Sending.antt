-- Every message of a good plan can be written, and has no more bytes than the limit.
-- Assumes nothing.
use Prim.Native.Nat.{ℕ, ◌≤◌}
use native.Mathlib.Omega.{arith}
use mathlib.Core.Path.{◌≡◌, refl, sym, ap, ◌∙◌}
use mathlib.Core.Bool.{Bool}
use mathlib.Core.List.{List, [], ◌∷◌}
use borrow.Author.Tests.{le-ltb, le-leb}
use lib.IntN.{ℤ}
use lib.ListN.{length}
use Rattle.answers.specs.Answers.{done}
use Rattle.answers.specs.declared.Answer.{Answer}
use Rattle.bits.specs.Bytes.{octets_for}
use Rattle.types.specs.Named.{first_edition, named_row}
use Rattle.types.specs.Rows.{rows}
use Rattle.types.specs.Table.{type_of, the_rows}
use Rattle.std.specs.Prelude.{Some}
use Rattle.meaning.specs.Messages.{write_answer, write_typed, write_in, write_message}
use Rattle.messages.specs.Message.{message_frame}
use Rattle.rules.specs.Lists.{item_row}
use Rattle.packing.specs.Message.{message_sheet, message_octets}
use Rattle.packing.proofs.Held.{entries_held}
use Rattle.packing.proofs.Within.{writes}
use Rattle.plans.specs.Plans.{named}
use Rattle.plans.specs.Sentences.{Fits, Limit, Given}
use Rattle.plans.proofs.Sized.{picks, named_sized, named_long}

-- type number 0 is the frame
frame_number : named_row 0 ≡ Some message_frame
unfolding named_row rows
frame_number = refl

some_cells : (cells : List ℤ) → ¬ (cells ≡ []) → 1 ≤ length cells
some_cells [] isnt = absurd (isnt refl)
some_cells (cell ∷ cells) isnt = omega arith

module _ (kind : ℕ) (header entries : List ℤ) (limit : ℕ) {signs : Bool} {held : List (List ℤ)} (G : Given kind header entries signs held) (L : Limit limit) where
  -- the sheet of a message that fits, written as type 0 of edition 1 into as many bytes as the limit: done, with the bytes that were measured
  pub fits_writes : (cells : List ℤ) → Fits signs header held limit cells → (lent : List ℕ) → limit ≤ length lent
      → ((write_message first_edition 0 (message_sheet signs header (named held cells)) lent).number ≡ 0)
      × ((write_message first_edition 0 (message_sheet signs header (named held cells)) lent).count ≡ message_octets signs header (named held cells))
  unfolding write_in write_typed write_answer
  fits_writes cells F lent room =
      let E = entries_held signs entries G.listed in
      let S = named_sized (type_of the_rows (item_row signs)) held E.0.lengths E.0.are cells F.there in
      let W = writes signs header G.headed (named held cells) (picks E.0.lengths cells) S (omega (arith, named_long held cells, some_cells cells F.some)) (omega (arith, named_long held cells, F.few)) in
      let is : write_message first_edition 0 (message_sheet signs header (named held cells)) lent ≡ done (length W.bits) (octets_for (length W.bits)) =
      rw (frame_number, W.codes, le-ltb (length (message_sheet signs header (named held cells))) (length (message_sheet signs header (named held cells))) (omega arith), le-ltb 2048 (octets_for (length W.bits)) (omega (arith, W.many, F.short, L.1)), le-leb (octets_for (length W.bits)) (length lent) (omega (arith, W.many, F.short)))
      refl in
      (ap (λ (a : Answer). a.number) is, ap (λ (a : Answer). a.count) is ∙ sym W.many)
