-- Where a number stands among several.
use Rattle.std.specs.Prelude.{ℕ, zero, suc, cond, List, [], ◌∷◌, eqb}

-- the first of so many keys, as far as there are any, that is this one; how many they are where none is
unfoldable pub place_of : ℕ → ℕ → List ℕ → ℕ
place_of key zero keys = 0
place_of key (suc count) [] = 0
place_of key (suc count) (k ∷ keys) = cond (eqb k key) 0 (suc (place_of key count keys))
