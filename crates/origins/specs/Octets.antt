-- Octets in the cells of a sheet, for the contracts of the functions that fetch them.
use Rattle.std.specs.Prelude.{ℕ, ◌+◌, ◌%◌, List, [], ◌∷◌, ℤ}
use Rattle.basics.specs.Counts.{capped}
use Rattle.basics.specs.Lists.{cell_at}

-- the lowest eight bits of the cell that is so many cells behind a place
abbrev pub octet_at : List ℤ → ℕ → ℕ → ℕ
octet_at cells place i = cell_at cells (capped (place + i)) % 256

abbrev pub eight_at : List ℤ → ℕ → List ℕ
eight_at cells place =
    octet_at cells place 0
    ∷ octet_at cells place 1
    ∷ octet_at cells place 2
    ∷ octet_at cells place 3
    ∷ octet_at cells place 4
    ∷ octet_at cells place 5
    ∷ octet_at cells place 6
    ∷ octet_at cells place 7
    ∷ []
