-- The rule of a type table (document 01, "The type table"), over any table, as a test and as what it says of each row.
use Rattle.std.specs.Prelude.{ℕ, zero, suc, ◌+◌, ◌≤◌, ◌<◌, List, [], ◌∷◌, Bool, true, false, cond, pos, ◌≤ℤ◌, length, T, ltb, leb, eqb}
use Rattle.std.specs.Int.Signed.{le_z}
use Rattle.types.specs.Row.{Row, span_of, minus}
use Rattle.types.specs.Table.{bias, row_in}
use Rattle.types.specs.Kinds as kinds

abbrev pub both : Bool → Bool → Bool
both true b = b
both false b = false

infixr 30 ◌&◌
abbrev pub ◌&◌ : Bool → Bool → Bool
a & b = both a b

-- one past the highest row that a row refers to; 0 where it refers to none
unfoldable pub reach : Row → ℕ
reach r =
    cond (ltb r.kind kinds.sequence) 0
    (cond (eqb r.kind kinds.sequence) (r.first + r.count + span_of r)
    (cond (eqb r.kind kinds.choice) (r.first + (span_of r + 1) + r.count)
    (cond (eqb r.kind kinds.selector) (r.first + r.count)
    (r.first + 1))))

-- how many rows from its first on have to be components; a choice's are never OPTIONAL
unfoldable pub parts : Row → ℕ
parts r = cond (eqb r.kind kinds.sequence) r.count (cond (eqb r.kind kinds.choice) (span_of r + 1) 0)

-- how many rows behind those have to be open values of known types
unfoldable pub opens : Row → ℕ
opens r = cond (eqb r.kind kinds.sequence) (span_of r) (cond (eqb r.kind kinds.choice) r.count (cond (eqb r.kind kinds.selector) r.count 0))

-- n rows from row f are of a kind
unfoldable pub are_of : ℕ → (ℕ → Row) → ℕ → ℕ → Bool
are_of kind table f zero = true
are_of kind table f (suc n) = eqb (table f).kind kind & are_of kind table (f + 1) n

-- whole numbers, enumerations, choices and selectors: their value or index is always coded
unfoldable pub is_coded : Row → Bool
is_coded r = cond (ltb r.kind kinds.sequence) true (cond (eqb r.kind kinds.choice) true (eqb r.kind kinds.selector))

-- a row that is a type
abbrev pub is_type : Row → Bool
is_type r = cond (ltb r.kind kinds.component) true (eqb r.kind kinds.selector)

-- a list, a component and an open value refer to a type
abbrev pub has_type : Row → Bool
has_type r = cond (ltb r.kind kinds.list) false (cond (eqb r.kind kinds.selector) false true)

-- an extension bit gives a cell in an enumeration, a sequence or a choice only
abbrev pub marked : Row → Bool
marked r = cond (ltb r.mark 2) true (cond (ltb r.mark 3) (cond (ltb 0 r.kind) (ltb r.kind kinds.list) false) false)

-- 2^32, the most values that a type spans
abbrev pub most_values : ℕ
most_values = 4294967296

-- the test of row i
unfoldable pub right_row : (ℕ → Row) → ℕ → Row → Bool
right_row table i r =
    leb (reach r) i
    & le_z r.lowest r.highest
    & ltb (span_of r) most_values
    & le_z (minus bias) r.lowest
    & leb r.kind kinds.known
    & marked r
    & cond (ltb r.kind kinds.sequence) true (le_z (pos 0) r.lowest)
    & are_of kinds.component table r.first (parts r)
    & are_of kinds.known table (r.first + parts r) (opens r)
    & cond (has_type r) (is_type (table r.first)) true
    & cond (is_coded r) (ltb 0 (span_of r)) true

-- the test of every row, counted from i
unfoldable pub right_from : (ℕ → Row) → ℕ → List Row → Bool
right_from table i [] = true
right_from table i (r ∷ rs) = right_row table i r & right_from table (suc i) rs

abbrev pub right : List Row → Bool
right rs = right_from (row_in rs) 0 rs

-- what it says of a row
pub record RowRule (rs : List Row) (i : ℕ) : Type 0 where
  pub smaller : reach (row_in rs i) ≤ i  -- it refers only to rows with a smaller number
  pub exists : reach (row_in rs i) ≤ length rs  -- and those exist
  pub ordered : (row_in rs i).lowest ≤ℤ (row_in rs i).highest  -- lowest is at most highest
  pub few : span_of (row_in rs i) < most_values  -- at most 2^32 values
  pub held : minus bias ≤ℤ (row_in rs i).lowest  -- the lowest is a 32-bit number
  pub kind_known : (row_in rs i).kind ≤ kinds.known
  pub mark_known : T (marked (row_in rs i))  -- an extension bit gives a cell in an enumeration, a sequence or a choice only
  pub sizes : T (cond (ltb (row_in rs i).kind kinds.sequence) true (le_z (pos 0) (row_in rs i).lowest))  -- an index or a size is not negative
  pub components : T (are_of kinds.component (row_in rs) (row_in rs i).first (parts (row_in rs i)))  -- a sequence and a choice are made of components
  pub additions : T (are_of kinds.known (row_in rs) ((row_in rs i).first + parts (row_in rs i)) (opens (row_in rs i)))  -- behind them stand the open values that are known
  pub typed : T (cond (has_type (row_in rs i)) (is_type (row_in rs (row_in rs i).first)) true)  -- an item, a component's and an open value's type is a type
  pub coded : T (cond (is_coded (row_in rs i)) (ltb 0 (span_of (row_in rs i))) true)  -- a value or an index takes at least one bit
