-- The number by which a reason is told (documents 01, "Numbers given back", and 02).
use Rattle.std.specs.Prelude.{ℕ, List, [], ◌∷◌, Option, Some, None, cond, eqb}
use Rattle.answers.specs.GivenBack as number
use Rattle.answers.specs.declared.reasons.Reason.{Reason}
use Rattle.answers.specs.declared.reasons.Reason.TheVariants as reason

abbrev pub reason_number : Reason → ℕ
reason_number reason.TooLong = number.too_long
reason_number reason.UnknownType = number.unknown_type
reason_number reason.Short = number.short
reason_number reason.Outside = number.outside
reason_number reason.Extended = number.extended
reason_number reason.SpareBits = number.spare_bits
reason_number reason.NoValue = number.no_value
reason_number reason.LeavesItsRange = number.leaves_its_range
reason_number reason.NoInformation = number.no_information
reason_number reason.NoRsi = number.no_rsi
reason_number reason.EventPosition = number.event_position
reason_number reason.EventReach = number.event_reach
reason_number reason.SignPosition = number.sign_position
reason_number reason.SignDescription = number.sign_description
reason_number reason.SignReach = number.sign_reach
reason_number reason.TableFull = number.table_full
reason_number reason.CountFull = number.count_full
reason_number reason.NoRsm = number.no_rsm
reason_number reason.RepeatedId = number.repeated_id
reason_number reason.UnitMissing = number.unit_missing
reason_number reason.NoSender = number.no_sender
reason_number reason.UnknownEdition = number.unknown_edition
reason_number reason.NotShortest = number.not_shortest
reason_number reason.NotHeld = number.not_held
reason_number reason.UnknownParty = number.unknown_party
reason_number reason.FieldMissing = number.field_missing
reason_number reason.NumberOutside = number.number_outside
reason_number reason.ItemOutside = number.item_outside
reason_number reason.AlternativeOutside = number.alternative_outside
reason_number reason.SizeOutside = number.size_outside
reason_number reason.NoSpatAndMap = number.no_spat_and_map
reason_number reason.RepeatedSignal = number.repeated_signal
reason_number reason.PhaseNotListed = number.phase_not_listed
reason_number reason.RecordCut = number.record_cut
reason_number reason.NumberNotShortest = number.number_not_shortest
reason_number reason.EntryNotOnce = number.entry_not_once
reason_number reason.WrongMessage = number.wrong_message
reason_number reason.EntryTooLong = number.entry_too_long

-- all of them
abbrev pub every_reason : List Reason
every_reason =
    reason.TooLong ∷ reason.UnknownType ∷ reason.Short ∷ reason.Outside ∷ reason.Extended ∷ reason.SpareBits ∷ reason.NoValue ∷
    reason.LeavesItsRange ∷ reason.NoInformation ∷ reason.NoRsi ∷ reason.EventPosition ∷ reason.EventReach ∷ reason.SignPosition ∷
    reason.SignDescription ∷ reason.SignReach ∷ reason.TableFull ∷ reason.CountFull ∷ reason.NoRsm ∷ reason.RepeatedId ∷ reason.UnitMissing ∷
    reason.NoSender ∷ reason.UnknownEdition ∷ reason.NotShortest ∷ reason.NotHeld ∷ reason.UnknownParty ∷ reason.FieldMissing ∷
    reason.NumberOutside ∷ reason.ItemOutside ∷ reason.AlternativeOutside ∷ reason.SizeOutside ∷ reason.NoSpatAndMap ∷ reason.RepeatedSignal ∷
    reason.PhaseNotListed ∷ reason.RecordCut ∷ reason.NumberNotShortest ∷ reason.EntryNotOnce ∷ reason.WrongMessage ∷ reason.EntryTooLong ∷ []

-- the first of these that is told by a number
unfoldable pub first_with : ℕ → List Reason → Option Reason
first_with number [] = None
first_with number (one ∷ more) = cond (eqb (reason_number one) number) (Some one) (first_with number more)

-- the reason that is told by a number, where there is one
abbrev pub reason_with : ℕ → Option Reason
reason_with number = first_with number every_reason
