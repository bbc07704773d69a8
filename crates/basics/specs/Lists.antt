-- Lent memory as a list: filled from its front, and a cell of it as a number.
use Rattle.std.specs.Prelude.{ℕ, List, ◌++◌, ℤ, pos, negsuc, length, drop, get_or}

-- new items in front, and behind them what was there (document 01, "The sheet": "cells behind the last one used stay as they were")
abbrev pub filled : {A : Type 0} → List A → List A → List A
filled new old = new ++ drop (length new) old

-- a number that is not negative; 0 for one that is
abbrev pub natural : ℤ → ℕ
natural (pos n) = n
natural (negsuc n) = 0

-- the cell at a place, as a number that is not negative; 0 past the end
abbrev pub cell_at : List ℤ → ℕ → ℕ
cell_at cells k = natural (get_or cells k (pos 0))
