-- What the losses program knows after the records so far, what it makes of the next one, and all that it prints (document 02, A4).
use Rattle.std.specs.Prelude.{ℕ, zero, suc, ◌+◌, Bool, List, [], ◌++◌, cond, ℤ, length, take, drop, eqb, Option, Some, None, Result, Ok, Err}
use Rattle.answers.specs.GivenBack as number
use Rattle.answers.specs.Refusals.{refusal}
use Rattle.answers.specs.Answers.{refused_by}
use Rattle.answers.specs.declared.Answer.{Answer}
use Rattle.basics.specs.Counts.{capped}
use Rattle.meaning.specs.Messages.{read_message, sheet_after}
use Rattle.printing.specs.Texts.{ascii}
use Rattle.records.specs.Records.{record_length, first_record, is_whole, record_of}
use Rattle.records.specs.declared.Record.{Record}
use Rattle.records.specs.declared.Cut.{Cut}
use Rattle.programs.specs.Frames.{lent_cells}
use Rattle.parties.specs.Parties.{Answered, empty_parties, untouched, reported_by, shown_by}
use Rattle.parties.specs.declared.Parties.{Parties}
use Rattle.origins.specs.Frame.{origin_in}
use Rattle.origins.specs.declared.Origin.{Origin}
use Rattle.programs_losses.specs.Lines.{unread_line, report_line, shown_line, totals_line}
use Rattle.programs_losses.specs.declared.Drive.{Drive}
use Rattle.programs_losses.specs.declared.Taken.{Taken}
use Rattle.answers.specs.declared.reasons.Reason.TheVariants as reason

-- what a record makes of a drive: the drive after it, how many bytes its line has, and whether another record may follow
pub record Step : Type 0 where
  pub drive : Drive
  pub length : ℕ
  pub more : Bool

-- what a frame makes of a drive: the drive after it, and how many bytes its line has
pub record Told : Type 0 where
  pub drive : Drive
  pub length : ℕ

-- ---- a frame

-- the program is the first party of the table (document 02, A10: "beside the logger")
abbrev pub logger : ℕ
logger = 0

-- the report of the frame that a sheet has
abbrev pub report_of : Parties → Origin → Answered
report_of table o = reported_by table logger o.kind o.id o.count

-- what becomes of the table: "A frame that can't be read is printed with its number and not counted"
unfoldable pub answer_change : Parties → Answer → List ℤ → Answered
answer_change table a sheet = cond (eqb a.number number.done) (report_of table (origin_in (take a.count sheet))) (untouched a.number table)

-- and what is printed of it
unfoldable pub answer_line : ℕ → Parties → Answer → List ℤ → List ℕ
answer_line at table a sheet = cond (eqb a.number number.done) (report_line at (answer_change table a sheet).number) (unread_line at a)

-- of a frame, which has no type number in front
abbrev pub frame_change : Parties → List ℕ → Answered
frame_change table frame = answer_change table (read_message 0 frame lent_cells) (sheet_after 0 frame lent_cells)

abbrev pub frame_line : ℕ → Parties → List ℕ → List ℕ
frame_line at table frame = answer_line at table (read_message 0 frame lent_cells) (sheet_after 0 frame lent_cells)

-- ---- a record

-- with one record more: the table as it became, and one frame more that is counted where it was accepted; a count stops at the largest number of 64 bits
unfoldable pub later : Drive → Answered → Drive
later d c = record { table = c.parties; records = capped (d.records + 1); counted = cond (eqb c.number number.done) (capped (d.counted + 1)) d.counted }

-- "a cut last record is 3"
abbrev pub cut_answer : Answer
cut_answer = refused_by (refusal reason.Short 0)

unfoldable pub record_line : Drive → Result (Option Record) Cut → List ℕ → List ℕ
record_line d (Ok (Some found)) frame = frame_line d.records d.table frame
record_line d (Err why) frame = unread_line d.records cut_answer
record_line d (Ok None) frame = []

unfoldable pub record_drive : Drive → Result (Option Record) Cut → List ℕ → Drive
record_drive d (Ok (Some found)) frame = later d (frame_change d.table frame)
record_drive d (Err why) frame = later d (untouched number.short d.table)
record_drive d (Ok None) frame = d

-- the line for the first record of what is held
abbrev pub line_of : Drive → List ℕ → List ℕ
line_of d held = record_line d (first_record held) (record_of held)

abbrev pub drive_after : Drive → List ℕ → Drive
drive_after d held = record_drive d (first_record held) (record_of held)

-- the drive after it, how many bytes its line has, and whether another record may follow: none does behind a record that is not whole
abbrev pub stepped : Drive → List ℕ → Step
stepped d held = record { drive = drive_after d held; length = length (line_of d held); more = is_whole held }

-- the drive after a whole record's frame and how many bytes its line has
abbrev pub told_of : Drive → List ℕ → Told
told_of d frame = record { drive = later d (frame_change d.table frame); length = length (frame_line d.records d.table frame) }

-- the drive that the code leaves, with what it answers
abbrev pub step_of : Drive → Taken → Step
step_of d taken = record { drive = d; length = taken.length; more = taken.more }

abbrev pub told_with : Drive → ℕ → Told
told_with d n = record { drive = d; length = n }

-- ---- the rows, and the last line

abbrev pub row_line : Drive → ℕ → List ℕ
row_line d row = shown_line row (shown_by d.table logger row)

-- so many rows from one on
unfoldable pub row_lines : Drive → ℕ → ℕ → List ℕ
row_lines d zero row = []
row_lines d (suc n) row = row_line d row ++ row_lines d n (row + 1)

abbrev pub total_line : Drive → List ℕ
total_line d = totals_line d.records d.counted

-- ---- all that the program prints

abbrev pub no_records : Drive
no_records = record { table = empty_parties; records = 0; counted = 0 }

-- the held rows in row order, and the last line
abbrev pub report_text : Drive → List ℕ
report_text d = row_lines d 32 0 ++ total_line d

-- for an input of at most so many records: the line of each that is not counted, and then the report; none follows behind a record that is not whole
unfoldable pub output_from : ℕ → Drive → List ℕ → List ℕ
output_from zero d input = report_text d
output_from (suc most) d input =
    cond (is_whole input)
    (line_of d input ++ output_from most (drive_after d input) (drop (record_length input) input))
    (line_of d input ++ report_text (drive_after d input))

-- where the program has an argument
unfoldable pub losses_usage : List ℕ
losses_usage = ascii "use: knotsaffron_losses < INPUT\nINPUT is records, each two bytes of length, high byte first, and a frame of so many bytes.\nPrinted are the frames not counted, what each sender's counts say, and totals: docs/PROGRAMS.md says more.\n"
