-- Where the parts of a value stand in a sheet, over any table: a component of a sequence, the chosen alternative, the entries of a list.
use Rattle.std.specs.Prelude.{ℕ, zero, suc, ◌+◌, List, Bool, false, not, cond, ℤ, pos, length, eqb, ltb, Result, Ok, Err, Option, Some, None}
use Rattle.answers.specs.declared.Refusal.{Refusal}
use Rattle.answers.specs.Refusals.{refusal}
use Rattle.types.specs.Shape.{Fields, field}
use Rattle.types.specs.Row.{span_of}
use Rattle.types.specs.Kinds as kinds
use Rattle.types.specs.Table.{row_at, root_at, type_of, fields_of}
use Rattle.meaning.specs.Steps.{Got}
use Rattle.meaning.specs.Steps.Got.{ok, refused}
use Rattle.meaning.specs.Walk.{flags}
use Rattle.meaning.specs.Writing.{write_whole, writer}
use Rattle.walking.specs.Walked.{present_of, past_of, sized}
use Rattle.basics.specs.Lists.{natural, cell_at}
use Rattle.passing.specs.Passing.{passed}
use Rattle.sheet.specs.declared.Part.{Part}
use Rattle.sheet.specs.declared.Choice.{Choice}
use Rattle.sheet.specs.declared.Listing.{Listing}
use Rattle.answers.specs.declared.reasons.Reason.TheVariants as reason

-- a number so far above the least, or the refusal
unfoldable pub number_by : ℕ → Got ℕ ℕ → Result ℕ Refusal
number_by least (ok n bits next) = Ok (least + n)
number_by least (refused why) = Err why

-- the place behind a step, or the refusal
unfoldable pub end_by : {X : Type 0} → Got ℕ X → Result ℕ Refusal
end_by (ok x bits next) = Ok next
end_by (refused why) = Err why

unfoldable pub onward : Result ℕ Refusal → (ℕ → Result ℕ Refusal) → Result ℕ Refusal
onward (Ok next) further = further next
onward (Err why) further = Err why

-- by the row of the component's type, its presence number and its place
unfoldable pub part_by : ℕ → ℕ → Result ℕ Refusal → Result (Option Part) Refusal
part_by t zero (Ok place) = Ok None
part_by t (suc n) (Ok place) = Ok (Some (record { row = t; place = place }))
part_by t n (Err why) = Err why

-- by the row of the entries, the least size and the size above it
unfoldable pub listed_by : ℕ → ℕ → Got ℕ ℕ → Result Listing Refusal
listed_by item least (ok n bits next) = Ok (record { count = least + n; row = item; place = next })
listed_by item least (refused why) = Err why

module _ (tb : List ℕ) where
  -- ---- a component of a sequence (document 01, "The sheet": presence cells before all fields, one for each OPTIONAL)

  -- the presence number of component k of those from row f on, whose presence cells stand from a place on; a component that is not OPTIONAL has none, and 1
  unfoldable pub here_from : ℕ → ℕ → List ℤ → ℕ → ℕ
  here_from zero f cells flag = present_of (row_at tb f).mark (cell_at cells flag)
  here_from (suc k) f cells flag = here_from k (f + 1) cells (past_of (row_at tb f).mark flag)

  -- where component k of those from row f on stands, or would stand: those before it that are there are passed over
  unfoldable pub front_from : List ℤ → ℕ → ℕ → ℕ → ℕ → Result ℕ Refusal
  front_from cells zero f flag place = Ok place
  front_from cells (suc k) f flag place =
      cond (eqb (present_of (row_at tb f).mark (cell_at cells flag)) 0)
      (front_from cells k (f + 1) (past_of (row_at tb f).mark flag) place)
      (onward (passed tb (row_at tb f).first cells place) (front_from cells k (f + 1) (past_of (row_at tb f).mark flag)))

  -- the components of a row that is a sequence, by their types
  abbrev pub components_of : ℕ → Fields
  components_of row = fields_of (root_at tb) (type_of (root_at tb)) (row_at tb row).first (row_at tb row).count

  -- a sequence that has a component k
  abbrev pub is_sequence : ℕ → ℕ → Bool
  is_sequence row k = cond (eqb (row_at tb row).kind kinds.sequence) (ltb k (row_at tb row).count) false

  -- the presence number of component k of the sequence at a place
  abbrev pub here_at : ℕ → ℕ → List ℤ → ℕ → ℕ
  here_at row k cells place = here_from k (row_at tb row).first cells place

  -- where component k of the sequence at a place stands, or would stand: behind the presence cells and the components before it
  abbrev pub front_at : ℕ → ℕ → List ℤ → ℕ → Result ℕ Refusal
  front_at row k cells place = onward (end_by (flags (components_of row) writer cells place)) (front_from cells k (row_at tb row).first place)

  -- 2 for a row that is no sequence of the table or has no component k; 7 at the sheet's length for a place behind it, and as writing answers
  -- for what stands before the component; else whether the component is there, and where
  unfoldable pub component_at : ℕ → ℕ → List ℤ → ℕ → Result (Option Part) Refusal
  component_at row k cells place =
      cond (is_sequence row k)
      (cond (ltb (length cells) place) (Err (refusal reason.NoValue (length cells)))
      (part_by (row_at tb ((row_at tb row).first + k)).first (here_at row k cells place) (front_at row k cells place)))
      (Err (refusal reason.UnknownType 0))

  -- whether component k is there, by its presence cell alone: not where the row is no sequence, has no component k, or the place is behind the sheet
  unfoldable pub has_at : ℕ → ℕ → List ℤ → ℕ → Bool
  has_at row k cells place = cond (is_sequence row k) (cond (ltb (length cells) place) false (not (eqb (here_at row k cells place) 0))) false

  -- ---- the chosen alternative ("The sheet": a choice gives its index)

  unfoldable pub choice_by : ℕ → Got ℕ ℕ → Result Choice Refusal
  choice_by f (ok n bits next) = Ok (record { index = n; row = (row_at tb (f + n)).first; place = next })
  choice_by f (refused why) = Err why

  -- the index cell, which is judged as in writing
  abbrev pub index_at : ℕ → List ℤ → ℕ → Got ℕ ℕ
  index_at row cells place = write_whole (field (pos 0) (span_of (row_at tb row))) cells place

  -- 2 for a row that is no choice of the table; 7 where the index lacks or is outside; else the index, the alternative's row and its place
  unfoldable pub chosen_at : ℕ → List ℤ → ℕ → Result Choice Refusal
  chosen_at row cells place = cond (eqb (row_at tb row).kind kinds.choice) (choice_by (row_at tb row).first (index_at row cells place)) (Err (refusal reason.UnknownType 0))

  -- ---- the entries of a list ("The sheet": a size that is coded gives one cell; a fixed size gives none)

  -- the size above the least, which is judged as in writing where it is coded
  abbrev pub size_at : ℕ → List ℤ → ℕ → Got ℕ ℕ
  size_at row cells place = sized (span_of (row_at tb row)) (write_whole (field (pos (natural (row_at tb row).lowest)) (span_of (row_at tb row))) cells) place

  -- 2 for a row that is no list of the table; 7 at the sheet's length for a place behind it, and where the size lacks or is outside; else how many, their row, and the place of the first
  unfoldable pub entries_at : ℕ → List ℤ → ℕ → Result Listing Refusal
  entries_at row cells place =
      cond (eqb (row_at tb row).kind kinds.list)
      (cond (ltb (length cells) place) (Err (refusal reason.NoValue (length cells)))
      (listed_by (row_at tb row).first (natural (row_at tb row).lowest) (size_at row cells place)))
      (Err (refusal reason.UnknownType 0))
