-- Demand 2, said of the two entries: the right sides here are what the contracts of `reader::read` and `writer::write` equate their answers and the lent memory with.
-- Assumes nothing.
use Prim.Native.Nat.{ℕ, ◌≤◌}
use mathlib.Core.Path.{◌≡◌, sym, ap, ap₂, ◌∙◌}
use mathlib.Core.List.{List}
use lib.IntN.{ℤ}
use lib.ListN.{length, take, drop}
use lib.Seq.{take-append_seam}
use Rattle.bits.specs.Bytes.{Octets}
use Rattle.answers.specs.declared.Answer.{Answer}
use Rattle.answers.specs.Answers.{ReadAnswer}
use Rattle.answers.specs.Answers.{done}
use Rattle.basics.specs.Lists.{filled}
use Rattle.types.specs.Named.{first_edition}
use Rattle.meaning.specs.Messages.{read_message, told_reading, sheet_after, write_message, bytes_after}
use Rattle.meaning.proofs.DemandTwo.{read_accepts, read_lists, read_only, write_makes, write_fills, write_only}

-- what an answer says of its counts
count_of : {a : Answer} {bits count : ℕ} → a ≡ done bits count → a.count ≡ count
count_of e = ap (λ (x : Answer). x.count) e

-- the front of a filled buffer is what it was filled with
front : {A : Type 0} (new old : List A) (n : ℕ) → n ≡ length new → take n (filled new old) ≡ new
front new old n e = ap (λ (k : ℕ). take k (filled new old)) e ∙ take-append_seam new (drop (length new) old)

-- reading what was written: the same edition and type number, the same bits, the same cells
pub written_is_read : (edition number : ℕ) (cells : List ℤ) (lent : List ℕ) (sheet : List ℤ) → (write_message edition number cells lent).number ≡ 0 → length cells ≤ length sheet
    → (told_reading number (take (write_message edition number cells lent).count (bytes_after edition number cells lent)) sheet ≡ record { edition = edition; type_number = number; answer = done (write_message edition number cells lent).bits (length cells) })
    × (sheet_after number (take (write_message edition number cells lent).count (bytes_after edition number cells lent)) sheet ≡ filled cells sheet)
written_is_read edition number cells lent sheet z room =
    let M = write_only edition number cells lent z in
    let makes = write_makes M.encodes lent M.room in
    let bytes : take (write_message edition number cells lent).count (bytes_after edition number cells lent) ≡ M.bytes =
    ap (take (write_message edition number cells lent).count) (write_fills M.encodes lent M.room) ∙ front M.bytes lent (write_message edition number cells lent).count (count_of makes)
    in
    let answer = ap (λ (b : List ℕ). read_message number b sheet) bytes ∙ read_accepts M.encodes sheet room ∙ ap (λ (a : Answer). done a.bits (length cells)) (sym makes) in (
      ap₂ (λ (e : ℕ) (a : Answer). record { edition = e; type_number = number; answer = a }) (sym M.encodes.known) answer,
      ap (λ (b : List ℕ). sheet_after number b sheet) bytes ∙ read_lists M.encodes sheet room,
    )

-- writing what was read, by the edition and the type number that were told: the same bytes
module _ (number : ℕ) (bytes : List ℕ) (sheet : List ℤ) where
  abbrev told : ReadAnswer
  told = told_reading number bytes sheet

  abbrev listed : List ℤ
  listed = take told.answer.count (sheet_after number bytes sheet)

  pub read_is_written : (lent : List ℕ) → Octets bytes → told.answer.number ≡ 0 → length bytes ≤ length lent
      → (write_message told.edition told.type_number listed lent ≡ done told.answer.bits (length bytes))
      × (bytes_after told.edition told.type_number listed lent ≡ filled bytes lent)
  read_is_written lent octets z room =
      let A = read_only number bytes sheet octets z in
      let accepts = read_accepts A.encodes sheet A.room in
      let cells : listed ≡ A.cells =
      ap (take told.answer.count) (read_lists A.encodes sheet A.room) ∙ front A.cells sheet told.answer.count (count_of accepts)
      in (
        ap (λ (c : List ℤ). write_message first_edition number c lent) cells ∙ write_makes A.encodes lent room ∙ ap (λ (a : Answer). done a.bits (length bytes)) (sym accepts),
        ap (λ (c : List ℤ). bytes_after first_edition number c lent) cells ∙ write_fills A.encodes lent room,
      )
