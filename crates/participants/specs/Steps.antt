-- What the private functions of the check answer: the ids that were taken, and the rows of the types.
use Rattle.std.specs.Prelude.{ℕ, ◌<◌, ◌≤◌, ◌≡◌, true, false, List, [], Option, Some, None, eqb}
use Rattle.meaning.specs.Values.{Values}
use Rattle.sheet.specs.Standing.{part_row, entry_row}
use Rattle.messages.specs.Message.{message_frame, rsm_frame}
use Rattle.messages.specs.Keys.{place_of}
use Rattle.messages.specs.Repeats.{among, first_repeat, repeated, nowhere}
use Rattle.participants.specs.Components.{participants}
use Rattle.participants.specs.Rsm.{ids_of}

-- the rows of RoadsideSafetyMessage and of ParticipantData
abbrev pub rsm_row : ℕ
rsm_row = part_row message_frame rsm_frame

abbrev pub participant_row : ℕ
participant_row = entry_row (part_row rsm_row participants)

-- the ids of all participants are those that are kept: an id is one of them where it is found
pub record Kept (list : Values) (count : ℕ) (ids : List ℕ) : Type 0 where
  pub one : (id : ℕ) → place_of id count ids < count → among eqb id (ids_of list) ≡ true
  pub none : (id : ℕ) → count ≤ place_of id count ids → among eqb id (ids_of list) ≡ false

-- what is known behind the participants: where one repeats an earlier one, which; else their ids
abbrev pub Gathered : Values → ℕ → List ℕ → Option ℕ → Type 0
Gathered list count ids (Some i) = first_repeat eqb [] 0 (ids_of list) ≡ repeated i
Gathered list count ids None = (first_repeat eqb [] 0 (ids_of list) ≡ nowhere) × Kept list count ids
