-- What the rules program prints: one line for a frame, by its kind and by the map in force, and last how many records there were and how many pass.
use Rattle.std.specs.Prelude.{ℕ, zero, suc, ◌+◌, List, [], ◌++◌, Bool, false, cond, ℤ, length, take, drop, eqb, Option, Some, None, Result, Ok, Err}
use Rattle.answers.specs.GivenBack as number
use Rattle.answers.specs.Refusals.{refusal}
use Rattle.answers.specs.Answers.{refused_by}
use Rattle.answers.specs.declared.Answer.{Answer}
use Rattle.basics.specs.Counts.{capped}
use Rattle.types.specs.Named.{first_edition}
use Rattle.meaning.specs.Messages.{read_message, sheet_after}
use Rattle.printing.specs.Digits.{decimal}
use Rattle.printing.specs.Texts.{ascii, read_text}
use Rattle.programs.specs.Frames.{lent_cells}
use Rattle.records.specs.Records.{record_length, first_record, is_whole, record_of}
use Rattle.records.specs.declared.Record.{Record}
use Rattle.records.specs.declared.Cut.{Cut}
use Rattle.findings.specs.Found.{found, found_passes, in_force_after}
use Rattle.findings.specs.Lines.{found_text}
use Rattle.findings.specs.Finding.{Finding}
use Rattle.programs_checking.specs.declared.Judged.{Judged}
use Rattle.programs_checking.specs.declared.Checked.{Checked}
use Rattle.programs_checking.specs.declared.Tally.{Tally}
use Rattle.answers.specs.declared.reasons.Reason.TheVariants as reason

-- what a frame or a record comes to: its line, whether that says that the frame passes, and the cells of the map in force behind it, none where there is no map yet
pub record Outcome : Type 0 where
  pub line : List ℕ
  pub passes : Bool
  pub map : List ℤ

-- ---- a frame

-- what was found of the sheet of a frame; a MAP is in force from then on
unfoldable pub found_outcome : List ℤ → List ℤ → Finding → Outcome
found_outcome map sheet f = record { line = found_text f; passes = found_passes f; map = in_force_after f sheet map }

-- a frame that can't be read has the line of the reading program, and the map stays in force
unfoldable pub refused_outcome : List ℤ → Answer → Outcome
refused_outcome map a = record { line = read_text first_edition a []; passes = false; map = map }

-- by what reading answered and left in the sheet
unfoldable pub answer_outcome : List ℤ → Answer → List ℤ → Outcome
answer_outcome map a sheet = cond (eqb a.number number.done) (found_outcome map (take a.count sheet) (found (take a.count sheet) map)) (refused_outcome map a)

-- of a frame, which has no type number in front
abbrev pub frame_outcome : List ℤ → List ℕ → Outcome
frame_outcome map frame = answer_outcome map (read_message 0 frame lent_cells) (sheet_after 0 frame lent_cells)

-- the length of the line, whether it says that the frame passes, and how many cells the map in force has
abbrev pub judged_by : Outcome → Judged
judged_by o = record { length = length o.line; passes = o.passes; cells = length o.map }

-- ---- a record of frames

-- a record that is cut is short at its first bit (document 02, A4: "a cut last record is 3"); no record has no line
unfoldable pub record_outcome : List ℤ → Result (Option Record) Cut → List ℕ → Outcome
record_outcome map (Ok (Some found)) frame = frame_outcome map frame
record_outcome map (Err why) frame = refused_outcome map (refused_by (refusal reason.Short 0))
record_outcome map (Ok None) frame = record { line = []; passes = false; map = map }

abbrev pub checked_record : List ℤ → List ℕ → Outcome
checked_record map held = record_outcome map (first_record held) (record_of held)

-- besides, whether another record may follow: none does behind a record that is not whole
abbrev pub checked_by : Outcome → Bool → Checked
checked_by o more = record { length = length o.line; passes = o.passes; more = more; cells = length o.map }

abbrev pub checked_answer : List ℤ → List ℕ → Checked
checked_answer map held = checked_by (checked_record map held) (is_whole held)

-- ---- the last line

-- a record with a line is counted, and again where it passes; a count stops at the largest number of 64 bits
unfoldable pub counted : Tally → Checked → Tally
counted t c = cond (eqb c.length 0) t (record { records = capped (t.records + 1); pass = cond c.passes (capped (t.pass + 1)) t.pass })

abbrev pub tally_text : Tally → List ℕ
tally_text t = decimal t.records ++ (ascii " records, " ++ decimal t.pass ++ ascii " pass\n")

-- what the program prints for an input of at most so many records, behind those that are counted already and with this map in force: the line of each, and then the last line; none follows behind a record that is not whole
unfoldable pub output_from : ℕ → Tally → List ℤ → List ℕ → List ℕ
output_from zero t map input = tally_text t
output_from (suc most) t map input =
    cond (is_whole input)
    ((checked_record map input).line ++ output_from most (counted t (checked_answer map input)) (checked_record map input).map (drop (record_length input) input))
    ((checked_record map input).line ++ tally_text (counted t (checked_answer map input)))

abbrev pub no_records : Tally
no_records = record { records = 0; pass = 0 }

-- ---- what the program prints where it has an argument
unfoldable pub check_usage : List ℕ
check_usage = ascii "use: knotsaffron_check < INPUT\nINPUT is records, each two bytes of length, high byte first, and a frame of so many bytes.\nA line is printed for each, and last how many there are and how many pass: docs/PROGRAMS.md says more.\n"
