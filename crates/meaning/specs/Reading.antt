-- Reading bits, which puts out cells (document 01, "The sheet", and "Numbers given back": 3, 4 and 5 in the order of the fields; document 02, A2, has 41 to 44 for 4, with the row of the type that the field belongs to).
-- For edition 2 document 02, A12, adds 27 and the 6 of an open value's own padding, in the order of reading. An open value bounds the fields in it: one that would end behind its octets is 27, at the first bit of its length.
use Rattle.std.specs.Prelude.{ℕ, zero, suc, ◌+◌, ◌-◌, ◌*◌, max, List, [], ◌∷◌, cond, ℤ, pos, ◌+ℤ◌, leb, eqb, length}
use Rattle.bits.specs.Numbers.{width}
use Rattle.bits.specs.Bytes.{octets_for}
use Rattle.answers.specs.Refusals.{refusal, naming, short_by}
use Rattle.bits.specs.Fetching.{field_bits, code}
use Rattle.types.specs.Shape.{Ty, Field}
use Rattle.meaning.specs.Values.{Value}
use Rattle.meaning.specs.Steps.{Got, ok, refused, Step, and_then}
use Rattle.meaning.specs.Coded.{Tree, found, wrong, ask, Coded, tree, an_extent}
use Rattle.meaning.specs.Walk.{Side, walk}
use Rattle.answers.specs.declared.reasons.Reason.TheVariants as reason

-- the open values around a field (edition 2): none; or the end of the one that ends first (the innermost of those), and the place of its length
pub data Around : Type 0 where
  free : Around
  inside : ℕ → ℕ → Around

-- what is read: bits, and the open values around the place of reading
pub record Source : Type 0 where
  pub bits : List ℕ
  pub around : Around

abbrev pub source : List ℕ → Around → Source
source bs a = record { bits = bs; around = a }

-- what would end behind the octets of an open value around it is 27, at the first bit of that length: before anything else is judged (document 02, A12: "a field past its open value's octets is 27, not 3")
unfoldable pub within : Around → ℕ → {X : Type 0} → Got ℤ X → Got ℤ X
within free end g = g
within (inside last place) end g = cond (leb end last) g (refused (refusal reason.NotShortest place))

-- w bits at a place, of a field that begins at `first`: 27 where they would end behind the octets of an open value around them, else 3 where they are not all there
unfoldable pub part : ℕ → ℕ → Step Source ℤ ℕ
part first w src at = within src.around (at + w)
    (cond (leb w (length (field_bits src.bits at w))) (ok (code src.bits at w) [] (at + w)) (refused (short_by (w - length (field_bits src.bits at w)) first)))

-- ---- a whole number

-- a field that is wholly there is judged: where its code is above the span, it is told at its first bit by the field's number and row
unfoldable pub judged : Field → ℕ → ℕ → ℕ → Got ℤ ℕ
judged f at n next = cond (leb n f.span) (ok n ((f.lowest +ℤ pos n) ∷ []) next) (refused (naming f.outside f.row at))

-- in the fewest bits of its span (X.691, 11.5.6): its cell is the lowest value plus the code
unfoldable pub read_whole : Field → Step Source ℤ ℕ
read_whole f src at = and_then (part at (width f.span) src at) (judged f at)

-- ---- an extension bit that gives no cell; 1 is refused with 5

unfoldable pub unextended : ℕ → ℕ → ℕ → Got ℤ (Unit {0})
unextended at zero next = ok tt [] next
unextended at (suc n) next = refused (refusal reason.Extended at)

unfoldable pub read_extension : Step Source ℤ (Unit {0})
read_extension src at = and_then (part at 1 src at) (unextended at)

-- ---- edition 2: a number of the extension parts, by its tree

-- from a place on, of a field that begins at `first`
unfoldable pub follow : Tree → ℕ → Step Source ℤ ℕ
follow (found n) first src at = ok n [] at
follow wrong first src at = refused (refusal reason.NotShortest first)
follow (ask w k) first src at = and_then (part first w src at) (λ n. follow (k n) first src)

-- with its cell (document 02, A12)
unfoldable pub shown : ℕ → ℕ → Got ℤ ℕ
shown n next = ok n (pos n ∷ []) next

unfoldable pub read_number : Coded → Step Source ℤ ℕ
read_number c src at = and_then (follow (tree c) at src at) shown

-- ---- edition 2: an open value whose type is known (X.691, 11.2)

-- so many octets hold a value of so many bits: at least one (X.691, 11.1)
abbrev pub octets_of : ℕ → ℕ
octets_of n = max 1 (octets_for n)

-- of the open values around a field, the one that ends first; of equal ends the innermost
unfoldable pub narrowed : Around → ℕ → ℕ → Around
narrowed free end place = inside end place
narrowed (inside last outer) end place = cond (leb end last) (inside end place) (inside last outer)

-- the padding from a place on to the end of the octets is all 0, else 6 at its first bit
unfoldable pub clean : {X : Type 0} → X → List ℤ → ℕ → ℕ → ℕ → Got ℤ X
clean x out at n next = cond (eqb n 0) (ok x out next) (refused (refusal reason.SpareBits at))

-- the value takes as many octets as its length says, else 27 at the length; then its padding is judged
unfoldable pub closed : ℕ → ℕ → ℕ → Source → Got ℤ Value → Got ℤ Value
closed place octets from src (ok v out at) =
    cond (eqb (octets_of (at - from)) octets) (and_then (part at (from + 8 * octets - at) src at) (clean v out at)) (refused (refusal reason.NotShortest place))
closed place octets from src (refused why) = refused why

-- its length; then its value, within its octets; then its padding, within the octets of the open values around it
unfoldable pub read_opened : Step Source ℤ Value → Step Source ℤ Value
read_opened f src at = and_then (follow (tree an_extent) at src at) (λ n from.
    closed at n from src (f (source src.bits (narrowed src.around (from + 8 * n) at)) from))

abbrev pub reader : Side Source ℤ
reader = record { whole = read_whole; extension = read_extension; number = read_number; opened = read_opened; amiss = refusal reason.NotShortest }

-- a value of a type, read from a place of bits
abbrev pub read : Ty → List ℕ → ℕ → Got ℤ Value
read t bs = walk t reader (source bs free)
