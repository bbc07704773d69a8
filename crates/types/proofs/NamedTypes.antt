-- The rows of the named types, and document 01's answer for a type number.
-- Assumes nothing.
use Prim.Native.Nat.{ℕ, zero, suc, ◌<◌}
use mathlib.Core.Path.{◌≡◌, refl, sym, ◌∙◌}
use mathlib.Core.Bool.{Bool, true, false, cond}
use lib.Dec.{ltb}
use lib.ListN.{length, get_or}
use native.Mathlib.Omega.{arith}
use native.Mathlib.Decide.{dec_lt}
use borrow.Author.Tests.{le-ltb}
use Rattle.types.specs.Rows.{row_count}
use Rattle.types.specs.Names.{rows_named}
use mathlib.Core.List.{[], ◌∷◌}
use Rattle.types.specs.Named.{named_row, named_says, named_answer}
use Rattle.types.specs.Named as table
use Rattle.std.specs.Prelude.{Some, None}

-- the rows of the named types are those of their names
pub named_are : table.named ≡ rows_named ("MessageFrame" ∷ "Description" ∷ "PositionOffsetLLV" ∷ [])
named_are = refl

-- a type number that names a row is below their count
pub named_number : (number row : ℕ) → named_row number ≡ Some row → number < length table.named
unfolding named_row
named_number number row e = elim (dec_lt number (length table.named)) [
  | yes h ↦ h
  | no h ↦
      let none : named_row number ≡ None = rw (le-ltb number (length table.named) (omega arith)) in
      let both : None ≡ Some row = sym none ∙ e in
      absurd (let z : ◌≡◌ {A = ℕ} 0 1 = cc in omega arith)
]

pub named_row_lem : (number row : ℕ) → named_row number ≡ Some row → row < row_count
unfolding named_row
named_row_lem zero row e = let r : 413 ≡ row = cc in omega arith
named_row_lem (suc zero) row e = let r : 129 ≡ row = cc in omega arith
named_row_lem (suc (suc zero)) row e = let r : 236 ≡ row = cc in omega arith
named_row_lem (suc (suc (suc number))) row e = absurd (omega (arith, named_number (suc (suc (suc number))) row e))

pub named_says_lem : (number : ℕ) → named_says (named_row number) ≡ named_answer number
unfolding named_row named_says named_answer
named_says_lem number = by (ltb number (length table.named)) (get_or table.named number 0)
  where
    by : (b : Bool) (row : ℕ) → named_says (cond b (Some row) None) ≡ cond b (named_says (Some row)) (named_says None)
    by true row = refl
    by false row = refl
