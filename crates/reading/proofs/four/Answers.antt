-- `reading::four` meets its contract: each of the four numbers is stored in its cell.
-- Assumes nothing.
use native.Mathlib.Omega.{arith}
use mathlib.Core.Path.{◌∙◌}
use Prim.Native.Nat.{◌+◌}
use lib.ListN.{set, length-set}
use mir.Facts.{to_z-of_z}
use mir.Syntax.{w64}
use Rattle.reading.proofs.four.Goals as goal

pub bounds-sheet-cell-2 : goal.bounds-sheet-cell-2
bounds-sheet-cell-2 c = simp length-set (omega arith)

pub bounds-sheet-cell-3 : goal.bounds-sheet-cell-3
bounds-sheet-cell-3 c = simp length-set (omega arith)

pub bounds-sheet-cell-4 : goal.bounds-sheet-cell-4
bounds-sheet-cell-4 c = simp length-set (omega arith)

pub shape_of-sheet : goal.shape_of-sheet
shape_of-sheet c = simp length-set

pub returns : goal.returns
returns c = let a = c.args in
    let e₁ = to_z-of_z {w = w64} {z = c.value_in.result} (record { sfits = c.value_in.type_inv }) ∙ c.value_in.ensures in
    let e₂ = to_z-of_z {w = w64} {z = c.value_in-2.result} (record { sfits = c.value_in-2.type_inv }) ∙ c.value_in-2.ensures in
    let e₃ = to_z-of_z {w = w64} {z = c.value_in-3.result} (record { sfits = c.value_in-3.type_inv }) ∙ c.value_in-3.ensures in
    let e₄ = to_z-of_z {w = w64} {z = c.value_in-4.result} (record { sfits = c.value_in-4.type_inv }) ∙ c.value_in-4.ensures in
    λ j. set (set (set (set a.sheet.now a.cell (e₁ j)) (a.cell + 1) (e₂ j)) (a.cell + 2) (e₃ j)) (a.cell + 3) (e₄ j)
