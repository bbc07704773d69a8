-- The table of source 000 is as edition 1 takes it, so that a walk over its numbers goes by its own rows.
-- Assumes nothing.
use Prim.Native.Nat.{ℕ}
use mathlib.Core.List.{List}
use mathlib.Core.Path.{◌≡◌, ap, ◌∙◌, fun_ext}
use Rattle.types.specs.Row.{Row}
use Rattle.types.specs.Rows.{rows}
use Rattle.types.specs.Table.{numbers, root_at, the_rows}
use Rattle.types.proofs.Numbers.{the_numbers_stand}
use Rattle.types.proofs.Ready.{the_table_ready}

pub the_root : (i : ℕ) → root_at (numbers rows) i ≡ the_rows i
the_root i = the_table_ready.root i ∙ ap (λ (t : ℕ → Row). t i) the_numbers_stand

-- the same of a lent table that holds those numbers, row by row and whole
pub root_is : {tb : List ℕ} → tb ≡ numbers rows → (i : ℕ) → root_at tb i ≡ the_rows i
root_is e i = ap (λ (l : List ℕ). root_at l i) e ∙ the_root i

pub root_same : {tb : List ℕ} → tb ≡ numbers rows → root_at tb ≡ the_rows
root_same e = fun_ext (λ i. root_is e i)
