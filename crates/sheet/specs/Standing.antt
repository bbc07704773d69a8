-- A value that stands in a sheet, and entries that stand one behind the other.
use Rattle.std.specs.Prelude.{ℕ, ◌+◌, ◌≤◌, List, true, false, ◌≡◌, ℤ, length, Result, Ok, Err, Option, Some, None}
use Rattle.answers.specs.declared.Refusal.{Refusal}
use Rattle.types.specs.Table.{type_of, the_rows}
use Rattle.meaning.specs.Values.{Value, Parts, Values}
use Rattle.meaning.specs.Values.Value.{chosen}
use Rattle.meaning.specs.Steps.{Got}
use Rattle.meaning.specs.Steps.Got.{ok}
use Rattle.meaning.specs.Walk.{times}
use Rattle.meaning.specs.Writing.{write}
use Rattle.sheet.specs.Values as values
use Rattle.sheet.specs.Values.{has, items_of}
use Rattle.sheet.specs.declared.Part.{Part}
use Rattle.sheet.specs.declared.Choice.{Choice}
use Rattle.sheet.specs.declared.Listing.{Listing}

-- a value of the type of a row of source 000, from a place of a sheet on
abbrev pub value_at : List ℤ → ℕ → ℕ → Got ℕ Value
value_at cells row place = write (type_of the_rows row) cells place

-- the value v of the type of a row stands at a place
pub record Stands (cells : List ℤ) (row place : ℕ) (v : Value) : Type 0 where
  pub bits : List ℕ
  pub next : ℕ
  pub is : value_at cells row place ≡ ok v bits next
  pub inside : place ≤ length cells

-- so many entries of the type of a row stand one behind the other from a place on
pub record Entries (cells : List ℤ) (row place count : ℕ) (vs : Values) : Type 0 where
  pub bits : List ℕ
  pub next : ℕ
  pub are : times count (write (type_of the_rows row)) cells place ≡ ok vs bits next
  pub inside : place ≤ length cells

-- ---- the rows that a row of source 000 refers to

-- the row of the type of component k of a sequence, or of alternative k of a choice
abbrev pub part_row : ℕ → ℕ → ℕ
part_row row k = (the_rows ((the_rows row).first + k)).first

-- the row of the type of a list's entries
abbrev pub entry_row : ℕ → ℕ
entry_row row = (the_rows row).first

-- ---- what the questions of this crate answer of a value that stands

-- component k of a sequence with these parts: the row of its type and where it stands, or that it is absent
abbrev pub Holds : List ℤ → ℕ → ℕ → Parts → Result (Option Part) Refusal → Type 0
Holds cells row k parts (Ok (Some part)) = (part.row ≡ part_row row k) × (has k parts ≡ true) × Stands cells part.row part.place (values.part k parts)
Holds cells row k parts (Ok None) = has k parts ≡ false
Holds cells row k parts (Err why) = ⊥

-- the alternative of a choice: its index, the row of its type, and where its value stands
abbrev pub Picks : List ℤ → ℕ → Value → Result Choice Refusal → Type 0
Picks cells row v (Ok choice) = (choice.row ≡ part_row row choice.index) × (inner : Value) × (v ≡ chosen choice.index inner) × Stands cells choice.row choice.place inner
Picks cells row v (Err why) = ⊥

-- the entries of a list: how many, the row of their type, and where they stand
abbrev pub Lists : List ℤ → ℕ → Value → Result Listing Refusal → Type 0
Lists cells row v (Ok list) = (list.row ≡ entry_row row) × Entries cells list.row list.place list.count (items_of v)
Lists cells row v (Err why) = ⊥
