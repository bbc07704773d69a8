-- What is taken from a sheet for a check, over any table: the message in its frame, the entries of a component, the number in one, and the place
-- behind a value. Where there is none, the answer is nothing: a check asks of values that stand.
use Rattle.std.specs.Prelude.{ℕ, suc, ◌<◌, ◌≡◌, List, ℤ, Result, Ok, Err, Option, Some, None}
use Rattle.answers.specs.declared.Refusal.{Refusal}
use Rattle.basics.specs.Lists.{cell_at}
use Rattle.answers.specs.Said.{Said, refusal_says}
use Rattle.meaning.specs.Values.{Value, Values}
use Rattle.meaning.specs.Values.Values.{no_items, item}
use Rattle.passing.specs.Passing.{passed}
use Rattle.sheet.specs.Sole.{sole_at}
use Rattle.sheet.specs.Values.{parts_of}
use Rattle.sheet.specs.Standing.{Stands, Entries, part_row}
use Rattle.sheet.specs.Moving.{component_at, chosen_at, entries_at}
use Rattle.sheet.specs.Says.{chosen_answer}
use Rattle.sheet.specs.declared.Part.{Part}
use Rattle.sheet.specs.declared.Choice.{Choice}
use Rattle.sheet.specs.declared.Listing.{Listing}
use Rattle.messages.specs.Message.{message_frame, message, message_in}

-- ---- the message in a frame

-- a sheet that is no value is refused before its message is asked for
unfoldable pub framed_by : Result ℕ Refusal → Result Choice Refusal → Result Choice Refusal
framed_by (Ok next) c = c
framed_by (Err why) c = Err why

abbrev pub framed_at : List ℕ → List ℤ → Result Choice Refusal
framed_at tb cells = framed_by (sole_at tb message_frame cells) (chosen_at tb message_frame cells 0)

-- document 01's number and values: 7, or the alternative, the row of its type and its place
unfoldable pub framed_says : Result ℕ Refusal → Said → Said
framed_says (Ok next) s = s
framed_says (Err why) s = refusal_says why

abbrev pub framed_answer : List ℕ → List ℤ → Said
framed_answer tb cells = framed_says (sole_at tb message_frame cells) (chosen_answer tb message_frame cells 0)

-- the message of this alternative in the frame that a sheet is: its components, and where it stands
pub record Framed (cells : List ℤ) (kind row place : ℕ) : Type 0 where
  pub held : Value
  pub is : message_in cells ≡ message kind (parts_of held)
  pub of_row : row ≡ part_row message_frame kind
  pub stands : Stands cells row place held

-- ---- the entries of a component

abbrev pub nothing : Listing
nothing = record { count = 0; row = 0; place = 0 }

unfoldable pub listing_by : Result Listing Refusal → Listing
listing_by (Ok list) = list
listing_by (Err why) = nothing

unfoldable pub listing_of : List ℕ → List ℤ → Result (Option Part) Refusal → Listing
listing_of tb cells (Ok (Some part)) = listing_by (entries_at tb part.row cells part.place)
listing_of tb cells (Ok None) = nothing
listing_of tb cells (Err why) = nothing

-- component k of the sequence of the type of a row that stands at a place: how many entries it has, their row, and where the first stands
abbrev pub listing_at : List ℕ → ℕ → ℕ → List ℤ → ℕ → Listing
listing_at tb row k cells place = listing_of tb cells (component_at tb row k cells place)

-- how many entries these are
unfoldable pub many : Values → ℕ
many no_items = 0
many (item v more) = suc (many more)

-- these entries stand as a listing says, of a row, which it names where there is any
pub record Rowed (cells : List ℤ) (row : ℕ) (l : Listing) (vs : Values) : Type 0 where
  pub of_row : 0 < l.count → l.row ≡ row
  pub are : Entries cells l.row l.place l.count vs

-- ---- the number in a component

unfoldable pub number_from : List ℤ → Result (Option Part) Refusal → ℕ
number_from cells (Ok (Some part)) = cell_at cells part.place
number_from cells (Ok None) = 0
number_from cells (Err why) = 0

abbrev pub number_at : List ℕ → ℕ → ℕ → List ℤ → ℕ → ℕ
number_at tb row k cells place = number_from cells (component_at tb row k cells place)

-- ---- the place behind a value

unfoldable pub behind_of : ℕ → Result ℕ Refusal → ℕ
behind_of place (Ok next) = next
behind_of place (Err why) = place

abbrev pub behind_at : List ℕ → ℕ → List ℤ → ℕ → ℕ
behind_at tb row cells place = behind_of place (passed tb row cells place)
