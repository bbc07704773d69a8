-- A row of the table of source 000 that is a type.
use Rattle.std.specs.Prelude.{ℕ, ◌<◌, List, ◌≡◌, T}
use Rattle.types.specs.Rows.{rows, row_count}
use Rattle.types.specs.Table.{numbers, the_rows}
use Rattle.types.specs.Rule.{is_type}

-- the table of source 000, and a row of it that is a type
pub record Known (tb : List ℕ) (row : ℕ) : Type 0 where
  pub table : tb ≡ numbers rows
  pub there : row < row_count
  pub is : T (is_type (the_rows row))
