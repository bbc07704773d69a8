-- What the private functions of the crate answer: the size of a value, and the sizes of entries.
use Rattle.std.specs.Prelude.{ℕ, min, ◌≡◌, Bool, true, false, List, [], ◌∷◌, Option, Some, None, ℤ, length}
use Rattle.basics.specs.Lists.{filled}
use Rattle.types.specs.Shape.{Ty}
use Rattle.types.specs.Table.{type_of, the_rows}
use Rattle.meaning.specs.Values.{Value}
use Rattle.meaning.specs.Writing.{Codes}
use Rattle.rules.specs.Lists.{item_row}
use Rattle.packing.specs.Entries.{Pieces, pieces, no_pieces}
use Rattle.packing.specs.Lengths.{Lengths}
use Rattle.packing.specs.Sizes.{stop, sizes_of, unmeasured}
use Rattle.packing.specs.declared.Measures.{Measures}

-- the lengths that an answer tells
abbrev pub told : Option Measures → Lengths
told (Some measures) = record { formed = true; count = measures.count; base = measures.base; sizes = measures.sizes }
told None = unmeasured

-- cells that are values of a type, each with how many bits it has
pub data Sized (t : Ty) : List (List ℤ) → List ℕ → Type 0 where
  none_sized : Sized t [] []
  and_sized : {v : Value} {cells : List ℤ} {bits : List ℕ} {more : List (List ℤ)} {sizes : List ℕ} → Codes t v cells bits → Sized t more sizes → Sized t (cells ∷ more) (length bits ∷ sizes)

-- the size of a value, if the cells are one
abbrev pub SizeOf : ℕ → List ℤ → ℕ → Type 0
SizeOf row cells r = (v : Value) (bits : List ℕ) → Codes (type_of the_rows row) v cells bits → r ≡ min (length bits) stop

-- whether entries are of their form; and then their sizes, in front of what was there
abbrev pub Measured : Bool → Pieces → ℕ → List ℕ → List ℕ → Bool → Type 0
Measured signs (pieces held) count before after r = (r ≡ true) × (length held ≡ count) × (after ≡ filled (sizes_of (item_row signs) held) before)
Measured signs no_pieces count before after r = r ≡ false
