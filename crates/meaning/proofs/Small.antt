-- Every cell of a value of edition 1 is a number of 64 bits.
-- Assumes nothing.
use Prim.Native.Nat.{ℕ, suc, ◌+◌, ◌<◌, ◌≤◌, ◌^◌}
use mathlib.Core.Path.{◌≡◌, sym, subst}
use mathlib.Core.Bool.{Bool, true, false, cond}
use mathlib.Core.List.{List, [], ◌∷◌, ◌++◌}
use native.Mathlib.Decide.{dec_lt}
use native.Mathlib.Omega.{arith}
use borrow.Author.Tests.{lt-ltb, le-ltb}
use lib.Dec.{T, ltb, eqb, ltb→lt}
use lib.IntN.{ℤ, pos, negsuc, ◌+ℤ◌}
use lib.ListN.{length}
use lib.Signed.{mag}
use Rattle.basics.specs.Lists.{natural}
use Rattle.types.specs.Shape.{Field}
use Rattle.types.specs.Row.{Row, span_of}
use Rattle.types.specs.Kinds as kinds
use Rattle.types.specs.Rows.{rows}
use Rattle.types.specs.Table.{type_of, the_rows}
use Rattle.types.proofs.Rule.{rows_right, rows_length}
use Rattle.types.proofs.NamedTypes.{named_row_lem}
use Rattle.meaning.specs.Values.{Value}
use Rattle.meaning.specs.Steps.{ok, Step}
use Rattle.meaning.specs.Reading.{Source, source, free, reader, read}
use Rattle.meaning.specs.Messages.{Encodes}
use Rattle.meaning.proofs.Every.{Each, fitting}
use Rattle.meaning.proofs.Sides.{read_whole_lem, read_extension_lem}
use Rattle.meaning.proofs.Tested.{all_rows, row_passes}
use Rattle.meaning.proofs.Plain.{plain_kind, row_plain, no_marks}
use Rattle.meaning.proofs.Owned.{Owns, Own, types_fit}
use Rattle.meaning.proofs.DemandTwo.{bytes_read}

-- each cell is a number of 64 bits
abbrev pub Small : List ℤ → Type 0
Small [] = Unit {0}
Small (z ∷ zs) = (mag z < 2 ^ 63) × Small zs

small_both : (a b : List ℤ) → Small a → Small b → Small (a ++ b)
small_both [] b h k = k
small_both (z ∷ a) b h k = (h.0, small_both a b h.1 k)

-- ---- the fields

-- a field each of whose values is one
abbrev Held : Field → Type 0
Held f = mag f.lowest + f.span < 2 ^ 63

value_held : (z : ℤ) (n : ℕ) → mag (z +ℤ pos n) ≤ mag z + n
value_held (pos m) n = omega arith
value_held (negsuc m) n = elim (dec_lt n (suc m)) [
  | yes h ↦ rw (lt-ltb n (suc m) h) (omega arith)
  | no h ↦ rw (le-ltb n (suc m) (omega arith)) (omega arith)
]

-- by one test, computed over all rows
held_row : Row → Bool
held_row r = ltb (mag r.lowest + span_of r) (2 ^ 63)

rows_held : T (all_rows held_row rows)
unfolding rows all_rows held_row
rows_held = tt

least_held : (z : ℤ) → natural z ≤ mag z
least_held (pos n) = omega arith
least_held (negsuc n) = omega arith

own_held : (i : ℕ) → i < length rows → Own Held ⊥ i (the_rows i)
unfolding held_row
own_held i h = go (ltb r.kind kinds.sequence) (eqb r.kind kinds.sequence) (eqb r.kind kinds.choice) (eqb r.kind kinds.selector) (plain_kind r (row_plain i))
  where
    r : Row
    r = the_rows i

    held : mag r.lowest + span_of r < 2 ^ 63
    held = ltb→lt (mag r.lowest + span_of r) (2 ^ 63) (row_passes held_row rows rows_held i h)

    go : (a b c d : Bool) → T (cond d false true) → Owns Held ⊥ i r a b c d
    go true b c d t = held
    go false true c d t = tt
    go false false true d t = omega (arith, held)
    go false false false true t = absurd t
    go false false false false t = λ p. omega (arith, held, least_held r.lowest)

types_held : (row : ℕ) → row < length rows → Each Held ⊥ (type_of the_rows row)
types_held row h = types_fit Held ⊥ rows rows_right own_held (λ i l m. absurd (no_marks i m)) (row + 1) row h

-- ---- the cells that reading lists

record Lists (X : Type 0) (src : Source) (i j : ℕ) (x : X) (out : List ℤ) (g : Step Source ℤ X) : Type 0 where
  small : Small out

pub cells_small : (row : ℕ) → row < length rows → (bs : List ℕ) (i j : ℕ) (v : Value) (cells : List ℤ) → read (type_of the_rows row) bs i ≡ ok v cells j → Small cells
cells_small row h bs i j v cells e = (fitting Lists {S' = reader} (record {
  fit_bit = omega arith;
  fit_octet = omega arith;
  at_pure = λ x src i. record { small = tt };
  at_bind = λ {X} {Y} {c} {i} {m} {j} {x} {y} {o} {more} l F G. record { small = small_both o more F.small G.small };
  at_guard = λ u good t F. absurd u;
  at_whole = λ f u src i j n out e.
      let c = read_whole_lem src.bits src.around f i e in
      record { small = subst Small c.puts (omega (arith, u, value_held f.lowest n, c.within), tt) };
  at_extension = λ src i j x out e. let c = read_extension_lem src.bits src.around i e in record { small = subst Small c.puts tt };
  at_number = λ u k src i j n out e. absurd u;
  at_open = λ u f g F src i j v out e. absurd u;
})
    (type_of the_rows row) (types_held row h) (source bs free) i j v cells e).small

-- the cells of an encoding
pub encoded_small : {edition number : ℕ} {cells : List ℤ} {bytes : List ℕ} → Encodes edition number cells bytes → Small cells
encoded_small {number = number} E = cells_small E.row (subst (λ (n : ℕ). E.row < n) (sym rows_length) (named_row_lem number E.row E.named)) _ 0 _ E.value _ (bytes_read E)
