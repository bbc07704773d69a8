-- The frames of a drive as calls to the loss table, the latest first, as a history has its calls (document 02, A4).
use Rattle.std.specs.Prelude.{ℕ, cond, List, [], ◌∷◌, ℤ, take, eqb}
use Rattle.answers.specs.GivenBack as number
use Rattle.answers.specs.declared.Answer.{Answer}
use Rattle.meaning.specs.Messages.{read_message, sheet_after}
use Rattle.programs.specs.Frames.{lent_cells}
use Rattle.senders.specs.History.Call.{report}
use Rattle.parties.specs.History.{Turn}
use Rattle.parties.specs.History.Turn.{by}
use Rattle.origins.specs.Frame.{origin_in}
use Rattle.origins.specs.declared.Origin.{Origin}
use Rattle.programs_losses.specs.Drives.{logger, frame_change, later, no_records}
use Rattle.programs_losses.specs.declared.Drive.{Drive}

abbrev pub call_of : Origin → Turn
call_of o = by logger (report o.kind o.id o.count)

-- one call where the frame can be read, else none, behind the earlier ones
unfoldable pub answer_calls : Answer → List ℤ → List Turn → List Turn
answer_calls a sheet earlier = cond (eqb a.number number.done) (call_of (origin_in (take a.count sheet)) ∷ earlier) earlier

unfoldable pub calls_of : List (List ℕ) → List Turn
calls_of [] = []
calls_of (frame ∷ earlier) = answer_calls (read_message 0 frame lent_cells) (sheet_after 0 frame lent_cells) (calls_of earlier)

-- the drive after these frames
unfoldable pub drive_of : List (List ℕ) → Drive
drive_of [] = no_records
drive_of (frame ∷ earlier) = later (drive_of earlier) (frame_change (drive_of earlier).table frame)
