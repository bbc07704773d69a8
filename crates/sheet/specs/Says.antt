-- Document 01's number, place and values for each case of the answers of this crate; and which of them the document gives.
use Rattle.std.specs.Prelude.{ℕ, ◌+◌, List, cond, ℤ, pos, length, eqb, ltb, Result, Ok, Err, Option, Some, None}
use Rattle.answers.specs.declared.Refusal.{Refusal}
use Rattle.answers.specs.Said.{Said, refusal_says}
use Rattle.answers.specs.Said as said
use Rattle.basics.specs.Lists.{natural}
use Rattle.types.specs.Kinds as kinds
use Rattle.types.specs.Table.{row_at}
use Rattle.meaning.specs.Steps.{Got}
use Rattle.meaning.specs.Steps.Got.{ok, refused}
use Rattle.passing.specs.Passing.{passed}
use Rattle.sheet.specs.Moving.{is_sequence, here_at, front_at, index_at, size_at}
use Rattle.sheet.specs.declared.Part.{Part}
use Rattle.sheet.specs.declared.Choice.{Choice}
use Rattle.sheet.specs.declared.Listing.{Listing}
use Rattle.answers.specs.declared.reasons.Reason.TheVariants as reason

-- ---- case by case (document 01, "Forms for each place", the last paragraph)

-- the row of a component that is there, its place, and 1; of an absent one nothing
unfoldable pub part_says : Result (Option Part) Refusal → Said
part_says (Ok (Some part)) = said.done (pos part.row) part.place 1
part_says (Ok None) = said.done (pos 0) 0 0
part_says (Err why) = refusal_says why

-- the row of the alternative, its place, and its index
unfoldable pub choice_says : Result Choice Refusal → Said
choice_says (Ok choice) = said.done (pos choice.row) choice.place choice.index
choice_says (Err why) = refusal_says why

-- the row of the entries, the place of the first, and how many they are
unfoldable pub listed_says : Result Listing Refusal → Said
listed_says (Ok list) = said.done (pos list.row) list.place list.count
listed_says (Err why) = refusal_says why

-- ---- the numbers in their order ("Numbers given back")

-- by the row of the component's type, its presence number and its place
unfoldable pub place_answer : ℕ → ℕ → Result ℕ Refusal → Said
place_answer t here (Ok place) = cond (eqb here 0) (said.done (pos 0) 0 0) (said.done (pos t) place 1)
place_answer t here (Err why) = refusal_says why

-- 7: the size lacks or is outside
unfoldable pub size_answer : ℕ → ℕ → Got ℕ ℕ → Said
size_answer item least (ok n bits next) = said.done (pos item) next (least + n)
size_answer item least (refused why) = said.refused reason.NoValue why.place

-- 7: a spare cell
unfoldable pub end_answer : ℕ → Result ℕ Refusal → Said
end_answer cells (Ok next) = cond (ltb next cells) (said.refused reason.NoValue next) (said.done (pos 0) next 0)
end_answer cells (Err why) = refusal_says why

module _ (tb : List ℕ) where
  -- 2: no row of the table; then 7 for the value itself, and then for a spare cell
  abbrev pub sole_answer : ℕ → List ℤ → Said
  sole_answer row cells = end_answer (length cells) (passed tb row cells 0)

  -- 2: no sequence with a component k; 7: a place behind the sheet, or what stands before the component is no value
  unfoldable pub component_answer : ℕ → ℕ → List ℤ → ℕ → Said
  component_answer row k cells place =
      cond (is_sequence tb row k)
      (cond (ltb (length cells) place) (said.refused reason.NoValue (length cells))
      (place_answer (row_at tb ((row_at tb row).first + k)).first (here_at tb row k cells place) (front_at tb row k cells place)))
      (said.refused reason.UnknownType 0)

  -- 7: the index lacks or is outside
  unfoldable pub index_answer : ℕ → Got ℕ ℕ → Said
  index_answer f (ok n bits next) = said.done (pos (row_at tb (f + n)).first) next n
  index_answer f (refused why) = said.refused reason.NoValue why.place

  -- 2: no choice; then 7
  unfoldable pub chosen_answer : ℕ → List ℤ → ℕ → Said
  chosen_answer row cells place = cond (eqb (row_at tb row).kind kinds.choice) (index_answer (row_at tb row).first (index_at tb row cells place)) (said.refused reason.UnknownType 0)

  -- 2: no list; then 7, first for a place behind the sheet
  unfoldable pub entries_answer : ℕ → List ℤ → ℕ → Said
  entries_answer row cells place =
      cond (eqb (row_at tb row).kind kinds.list)
      (cond (ltb (length cells) place) (said.refused reason.NoValue (length cells))
      (size_answer (row_at tb row).first (natural (row_at tb row).lowest) (size_at tb row cells place)))
      (said.refused reason.UnknownType 0)
