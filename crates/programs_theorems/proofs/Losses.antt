-- What the losses program prints: for the encoding of a frame what its value says; its table is the table after the calls of its frames, so that all that is
-- proved of histories holds of the rows that it prints; and how the output goes on, record after record.
-- Assumes nothing.
use Prim.Native.Nat.{ℕ, suc, ◌≤◌}
use mathlib.Core.Bool.{Bool, true, false, cond, not, ◌||◌}
use mathlib.Core.List.{List, [], ◌∷◌, ◌++◌}
use mathlib.Core.Path.{◌≡◌, refl, sym, ap, ap₂, ◌∙◌}
use native.Mathlib.Omega.{arith}
use lib.Dec.{eqb}
use lib.IntN.{ℤ}
use lib.ListN.{length, take, drop, drop_of_length-le}
use lib.Seq.{take-append_seam}
use Rattle.std.specs.Prelude.{Option, Some, None, Result, Ok, Err}
use Rattle.answers.specs.GivenBack as number
use Rattle.answers.specs.declared.Answer.{Answer}
use Rattle.basics.specs.Counts.{capped}
use Rattle.meaning.specs.Messages.{read_message, sheet_after, Encodes}
use Rattle.records.specs.Records.{record_length, first_record, whole, is_whole}
use Rattle.records.specs.declared.Record.{Record}
use Rattle.records.specs.declared.Cut.{Cut}
use Rattle.records.proofs.Records.{still_whole, same_record, same_rest}
use Rattle.programs.specs.Frames.{lent_cells}
use Rattle.senders.specs.Table.{has_sender, shown}
use Rattle.senders.specs.History.{table_after}
use Rattle.parties.specs.Parties.{Answered, untouched, shown_by}
use Rattle.parties.specs.History.{parties_after, own_calls}
use Rattle.parties.specs.declared.Parties.{Parties}
use Rattle.parties.proofs.Theorems.{own_rows}
use Rattle.messages.specs.Message.{message_of}
use Rattle.origins.specs.Frame.{bsm_id, rsm_id, rsi_id, id_at, message_origin, origin_in}
use Rattle.origins.specs.declared.Origin.{Origin}
use Rattle.programs_losses.specs.Lines.{report_line, shown_line}
use Rattle.programs_losses.specs.Drives.{logger, report_of, answer_change, answer_line, frame_change, frame_line, later, record_line, record_drive, line_of, drive_after, row_line, report_text, output_from}
use Rattle.programs_losses.specs.Histories.{call_of, answer_calls, calls_of, drive_of}
use Rattle.programs_losses.specs.declared.Drive.{Drive}
use Rattle.programs_theorems.proofs.Frames.{encoding_made, message_value}

-- ---- the encoding of a frame

module _ {edition : ℕ} {cells : List ℤ} {frame : List ℕ} (E : Encodes edition 0 cells frame) (table : Parties) where
  own : take (length cells) (cells ++ drop (length cells) lent_cells) ≡ cells
  own = take-append_seam cells (drop (length cells) lent_cells)

  -- its origin is that of its value
  pub encoding_origin : origin_in cells ≡ message_origin (message_of E.value)
  unfolding origin_in
  encoding_origin = ap message_origin (message_value E)

  -- it is reported as such
  pub encoding_change : frame_change table frame ≡ report_of table (message_origin (message_of E.value))
  unfolding answer_change
  encoding_change = encoding_made E (answer_change table) ∙ ap (λ (l : List ℤ). report_of table (origin_in l)) own ∙ ap (report_of table) encoding_origin

  -- and it has a line exactly where the table refuses it
  pub encoding_report : (at : ℕ) → frame_line at table frame ≡ report_line at (report_of table (message_origin (message_of E.value))).number
  unfolding answer_line
  encoding_report at =
      encoding_made E (answer_line at table)
      ∙ ap (λ (c : Answered). report_line at c.number) (sym (encoding_made E (answer_change table)) ∙ encoding_change)

-- the messages that have a sender's id are those that the table takes
pub kinds_agree : (kind : ℕ) → has_sender kind ≡ not (eqb (id_at kind) 0)
unfolding id_at
kinds_agree kind = go (eqb kind 0) (eqb kind 2) (eqb kind 4)
  where
    go : (a b c : Bool) → a || (b || c) ≡ not (eqb (cond a bsm_id (cond b rsm_id (cond c rsi_id 0))) 0)
    go true b c = refl
    go false true c = refl
    go false false true = refl
    go false false false = refl

-- ---- the table is that of the history

pub drive_history : (frames : List (List ℕ)) → (drive_of frames).table ≡ parties_after (calls_of frames)
unfolding drive_of calls_of parties_after later answer_change answer_calls
drive_history [] = refl
drive_history (frame ∷ earlier) = go (read_message 0 frame lent_cells) (sheet_after 0 frame lent_cells) (drive_history earlier)
  where
    go : (a : Answer) (sheet : List ℤ) → (drive_of earlier).table ≡ parties_after (calls_of earlier) → (later (drive_of earlier) (answer_change (drive_of earlier).table a sheet)).table ≡ parties_after (answer_calls a sheet (calls_of earlier))
    go a sheet before = by_number (eqb a.number number.done)
      where
        o : Origin
        o = origin_in (take a.count sheet)

        by_number : (b : Bool) → (cond b (report_of (drive_of earlier).table o) (untouched a.number (drive_of earlier).table)).parties ≡ parties_after (cond b (call_of o ∷ calls_of earlier) (calls_of earlier))
        by_number true = ap (λ (t : Parties). (report_of t o).parties) before
        by_number false = before

-- the rows that are printed are those of the program's own history
pub printed_row : (frames : List (List ℕ)) (row : ℕ) → row_line (drive_of frames) row ≡ shown_line row (shown (table_after (own_calls logger (calls_of frames))) row)
printed_row frames row = ap (λ (t : Parties). shown_line row (shown_by t logger row)) (drive_history frames) ∙ ap (shown_line row) (own_rows logger (omega arith) row (calls_of frames))

-- each frame is counted as a record
pub drive_records : (frames : List (List ℕ)) → (drive_of frames).records ≡ capped (length frames)
unfolding drive_of later
drive_records [] = omega arith
drive_records (frame ∷ earlier) = omega (arith, drive_records earlier)

-- ---- record after record

module _ (d : Drive) (content : List ℕ) where
  whole_line : (r : Result (Option Record) Cut) → whole r ≡ true → record_line d r content ≡ frame_line d.records d.table content
  unfolding whole record_line
  whole_line (Ok (Some found)) w = refl
  whole_line (Err why) w = absurd (let z : ◌≡◌ {A = ℕ} 0 1 = cc in omega arith)
  whole_line (Ok None) w = absurd (let z : ◌≡◌ {A = ℕ} 0 1 = cc in omega arith)

  pub whole_drive : (r : Result (Option Record) Cut) → whole r ≡ true → record_drive d r content ≡ later d (frame_change d.table content)
  unfolding whole record_drive
  whole_drive (Ok (Some found)) w = refl
  whole_drive (Err why) w = absurd (let z : ◌≡◌ {A = ℕ} 0 1 = cc in omega arith)
  whole_drive (Ok None) w = absurd (let z : ◌≡◌ {A = ℕ} 0 1 = cc in omega arith)

-- what the program prints goes on behind a whole record that it holds: its line, and then what is printed for the rest, with the record taken
pub losses_go_on : (held more : List ℕ) → is_whole held ≡ true → length held ≡ record_length held → (most : ℕ) (d : Drive)
    → output_from (suc most) d (held ++ more) ≡ line_of d held ++ output_from most (drive_after d held) more
unfolding output_from
losses_go_on held more w all most d =
    let still = still_whole held more w in
    let its = same_record held more w in
    let line : line_of d (held ++ more) ≡ line_of d held = whole_line d _ (first_record (held ++ more)) still ∙ ap (frame_line d.records d.table) its ∙ sym (whole_line d _ (first_record held) w) in
    let next : drive_after d (held ++ more) ≡ drive_after d held = whole_drive d _ (first_record (held ++ more)) still ∙ ap (λ (f : List ℕ). later d (frame_change d.table f)) its ∙ sym (whole_drive d _ (first_record held) w) in
    let few : length held ≤ record_length held = omega (arith, all) in
    let none : drop (record_length held) held ≡ [] = drop_of_length-le held few in
    let rest : drop (record_length (held ++ more)) (held ++ more) ≡ more = same_rest held more w ∙ ap (λ (l : List ℕ). l ++ more) none in
    ap (λ (b : Bool). cond b (line_of d (held ++ more) ++ output_from most (drive_after d (held ++ more)) (drop (record_length (held ++ more)) (held ++ more))) (line_of d (held ++ more) ++ report_text (drive_after d (held ++ more)))) still
    ∙ ap₂ (λ (s l : List ℕ). s ++ output_from most (drive_after d (held ++ more)) l) line rest
    ∙ ap (λ (x : Drive). line_of d held ++ output_from most x more) next
