-- The size of a value, as the writer answers it.
-- Assumes nothing.
use Prim.Native.Nat.{ℕ, min}
use native.Mathlib.Omega.{arith}
use mathlib.Core.Path.{◌≡◌, refl, sym, ap, ◌∙◌}
use mathlib.Core.Bool.{Bool, true, false, cond}
use mathlib.Core.List.{List}
use borrow.Author.Tests.{ltb-true, ltb-false, le-ltb, le-leb}
use lib.Dec.{leb, ltb}
use lib.IntN.{ℤ}
use lib.ListN.{length}
use Rattle.answers.specs.Answers.{done, refused_by, no_room}
use Rattle.answers.specs.Refusals.{refusal}
use Rattle.answers.specs.GivenBack as given
use Rattle.answers.specs.declared.Answer.{Answer}
use Rattle.bits.specs.Bytes.{octets_for}
use Rattle.types.specs.Table.{type_of, the_rows}
use Rattle.std.specs.Prelude.{Option, Some}
use Rattle.meaning.specs.Values.{Value}
use Rattle.meaning.specs.Steps.{Got}
use Rattle.meaning.specs.Messages.{row_named, write_answer, write_typed}
use Rattle.meaning.specs.Writing.{Codes}
use Rattle.packing.specs.Sizes.{stop}
use Rattle.packing.specs.Steps.{SizeOf}
use Rattle.answers.specs.declared.reasons.Reason.TheVariants as reason

module _ (row : ℕ) (named : row_named row ≡ Some row) (cells : List ℤ) {a : Answer} {room : ℕ} (is : room ≡ 2048) (e : a ≡ write_typed (row_named row) cells room) where
  module _ (v : Value) (bits : List ℕ) (c : Codes (type_of the_rows row) v cells bits) where
    by_length : a ≡ cond (ltb 2048 (octets_for (length bits))) (refused_by (refusal reason.TooLong 0)) (cond (leb (octets_for (length bits)) 2048) (done (length bits) (octets_for (length bits))) (no_room (octets_for (length bits))))
    unfolding write_typed write_answer
    by_length = e ∙ ap (λ (n : Option ℕ). write_typed n cells room) named ∙ ap (λ (g : Got ℕ Value). write_answer (length cells) room g) c ∙ rw (is, le-ltb (length cells) (length cells) (omega arith)) refl

    stops : ¬ (a.number ≡ 0) → stop ≡ min (length bits) stop
    stops isnt = go (ltb 2048 (octets_for (length bits))) refl by_length
      where
        go : (b : Bool) → ltb 2048 (octets_for (length bits)) ≡ b → a ≡ cond b (refused_by (refusal reason.TooLong 0)) (cond (leb (octets_for (length bits)) 2048) (done (length bits) (octets_for (length bits))) (no_room (octets_for (length bits)))) → stop ≡ min (length bits) stop
        go true u r = let l = ltb-true 2048 (octets_for (length bits)) u in omega (arith, l)
        go false u r =
            let l = ltb-false 2048 (octets_for (length bits)) u in
            let d : a ≡ done (length bits) (octets_for (length bits)) = r ∙ rw (le-leb (octets_for (length bits)) 2048 l) refl in
            absurd (isnt (ap (λ (x : Answer). x.number) d))

    goes : a.number ≡ 0 → a.bits ≡ min (length bits) stop
    goes z = go (ltb 2048 (octets_for (length bits))) refl by_length
      where
        go : (b : Bool) → ltb 2048 (octets_for (length bits)) ≡ b → a ≡ cond b (refused_by (refusal reason.TooLong 0)) (cond (leb (octets_for (length bits)) 2048) (done (length bits) (octets_for (length bits))) (no_room (octets_for (length bits)))) → a.bits ≡ min (length bits) stop
        go true u r = absurd (let y : given.too_long ≡ 0 = ap (λ (x : Answer). x.number) (sym r) ∙ z in omega arith)
        go false u r =
            let l = ltb-false 2048 (octets_for (length bits)) u in
            let d : a ≡ done (length bits) (octets_for (length bits)) = r ∙ rw (le-leb (octets_for (length bits)) 2048 l) refl in
            let b : a.bits ≡ length bits = ap (λ (x : Answer). x.bits) d in
            omega (arith, b, l)

  pub size_stops : ¬ (a.number ≡ 0) → SizeOf row cells stop
  size_stops isnt v bits c = stops v bits c isnt

  pub size_goes : a.number ≡ 0 → SizeOf row cells a.bits
  size_goes z v bits c = goes v bits c z
