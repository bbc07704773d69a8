-- A type number names a row that is a type.
-- Assumes nothing.
use Prim.Native.Nat.{ℕ, zero, suc}
use mathlib.Core.Path.{◌≡◌, refl, subst}
use native.Mathlib.Omega.{arith}
use Rattle.types.specs.Rows.{rows}
use Rattle.types.specs.Names.{row_of}
use Rattle.types.specs.Named.{named_row}
use Rattle.std.specs.Prelude.{Some}
use Rattle.types.proofs.NamedTypes.{named_number}
use Rattle.meaning.specs.Messages.{row_named}

is_row : (row found : ℕ) → found ≡ row → row_named found ≡ Some found → row_named row ≡ Some row
is_row row found e t = subst (λ (n : ℕ). row_named n ≡ Some n) e t

pub named_is_row : (number row : ℕ) → named_row number ≡ Some row → row_named row ≡ Some row
unfolding named_row row_named rows
named_is_row zero row e = let r : row_of "MessageFrame" ≡ row = cc in is_row row (row_of "MessageFrame") r refl
named_is_row (suc zero) row e = let r : row_of "Description" ≡ row = cc in is_row row (row_of "Description") r refl
named_is_row (suc (suc zero)) row e = let r : row_of "PositionOffsetLLV" ≡ row = cc in is_row row (row_of "PositionOffsetLLV") r refl
named_is_row (suc (suc (suc number))) row e = absurd (omega (arith, named_number (suc (suc (suc number))) row e))
