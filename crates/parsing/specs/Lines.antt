-- The lines of a text: what stands between the ends of lines. A last line without an end counts; behind the last end there is no line.
use Rattle.std.specs.Prelude.{ℕ, suc, List, [], ◌∷◌, cond, eqb}
use Rattle.printing.specs.Characters.{line_end}

-- a byte in front of the first line
unfoldable pub begun : ℕ → List (List ℕ) → List (List ℕ)
begun b [] = (b ∷ []) ∷ []
begun b (l ∷ ls) = (b ∷ l) ∷ ls

-- a byte that ends a line belongs to none
unfoldable pub lines : List ℕ → List (List ℕ)
lines [] = []
lines (b ∷ text) = cond (eqb b line_end) ([] ∷ lines text) (begun b (lines text))

-- how many bytes the first line has
unfoldable pub line_length : List ℕ → ℕ
line_length [] = 0
line_length (b ∷ text) = cond (eqb b line_end) 0 (suc (line_length text))
