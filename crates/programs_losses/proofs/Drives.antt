-- What a frame and a record make of a drive, in the code's terms.
-- Assumes nothing.
use Prim.Native.Nat.{ℕ, ◌+◌, ◌-◌}
use mathlib.Core.Bool.{Bool, true, false}
use mathlib.Core.List.{List}
use mathlib.Core.Path.{◌≡◌, refl, sym, ap, ap₂, ◌∙◌}
use borrow.Author.Tests.{eq-eqb, ne_eqb}
use lib.Dec.{eqb}
use lib.IntN.{ℤ}
use lib.ListN.{length, take, drop}
use Rattle.std.specs.Prelude.{Option, Some, None, Result, Ok, Err}
use Rattle.answers.specs.GivenBack as number
use Rattle.answers.specs.Answers.{done, refused_by}
use Rattle.answers.specs.declared.Refusal.{Refusal}
use Rattle.answers.specs.declared.Answer.{Answer}
use Rattle.basics.specs.Counts.{capped}
use Rattle.basics.specs.Lists.{filled}
use Rattle.meaning.specs.Messages.{read_message, sheet_after}
use Rattle.records.specs.Records.{cut, first_record, whole, record_of}
use Rattle.records.specs.declared.Record.{Record}
use Rattle.records.specs.declared.Cut.{Cut}
use Rattle.records.proofs.Records.{its_record}
use Rattle.programs.proofs.Inputs.{InFront, same_front}
use Rattle.programs.proofs.Frames.{Enough, same_frame, own_cells}
use Rattle.parties.specs.Parties.{Answered, untouched}
use Rattle.parties.specs.declared.Parties.{Parties}
use Rattle.origins.specs.Frame.{origin_in}
use Rattle.origins.specs.declared.Origin.{Origin}
use Rattle.programs_losses.specs.Lines.{unread_line, report_line}
use Rattle.programs_losses.specs.Drives.{Step, Told, report_of, answer_change, answer_line, frame_change, frame_line, later, cut_answer, record_line, record_drive, line_of, drive_after, stepped, told_of}
use Rattle.programs_losses.specs.declared.Drive.{Drive}

-- ---- one record more

module _ (d : Drive) (c : Answered) {records : ℕ} (er : records ≡ capped (d.records + 1)) where
  pub later_counted : c.number ≡ 0 → {counted : ℕ} → counted ≡ capped (d.counted + 1) → record { table = c.parties; records = records; counted = counted } ≡ later d c
  unfolding later
  later_counted e ec = rw (eq-eqb c.number 0 e, er, ec)

  pub later_uncounted : eqb c.number 0 ≡ false → record { table = c.parties; records = records; counted = d.counted } ≡ later d c
  unfolding later
  later_uncounted isnt = rw (isnt, er)

-- ---- a frame, where cells enough are lent

module _ (table : Parties) where
  change_refusal : (why : Refusal) (s t : List ℤ) → answer_change table (refused_by why) s ≡ answer_change table (refused_by why) t
  unfolding answer_change
  change_refusal why s t = refl

  change_cells : (bits : ℕ) (cells s t : List ℤ) → answer_change table (done bits (length cells)) (filled cells s) ≡ answer_change table (done bits (length cells)) (filled cells t)
  unfolding answer_change
  change_cells bits cells s t = ap (λ (l : List ℤ). report_of table (origin_in l)) (own_cells cells s ∙ sym (own_cells cells t))

  line_refusal : (at : ℕ) (why : Refusal) (s t : List ℤ) → answer_line at table (refused_by why) s ≡ answer_line at table (refused_by why) t
  unfolding answer_line answer_change
  line_refusal at why s t = refl

  line_cells : (at bits : ℕ) (cells s t : List ℤ) → answer_line at table (done bits (length cells)) (filled cells s) ≡ answer_line at table (done bits (length cells)) (filled cells t)
  unfolding answer_line
  line_cells at bits cells s t = ap (λ (c : Answered). report_line at c.number) (change_cells bits cells s t)

module _ (d : Drive) (frame out : List ℕ) (lent : List ℤ) (enough : Enough frame lent) {a : Answer} {sheet : List ℤ} (e : (a ≡ read_message 0 frame lent) × (sheet ≡ sheet_after 0 frame lent)) where
  -- what is promised of an answer and of the buffer
  abbrev Right : Told → List ℕ → Type 0
  Right t out' = (t ≡ told_of d frame) × (out' ≡ filled (frame_line d.records d.table frame) out)

  its_change : answer_change d.table a sheet ≡ frame_change d.table frame
  its_change = ap₂ (answer_change d.table) e.0 e.1 ∙ same_frame (answer_change d.table) (change_refusal d.table) (change_cells d.table) frame lent enough

  its_line : answer_line d.records d.table a sheet ≡ frame_line d.records d.table frame
  its_line = ap₂ (answer_line d.records d.table) e.0 e.1 ∙ same_frame (answer_line d.records d.table) (line_refusal d.table d.records) (line_cells d.table d.records) frame lent enough

  right : {c : Answered} {line : List ℕ} → c ≡ frame_change d.table frame → line ≡ frame_line d.records d.table frame
      → {n : ℕ} {out' : List ℕ} → InFront line out n out' → {d' : Drive} → d' ≡ later d c → Right (record { drive = d'; length = n }) out'
  right ec el l ed = let f = same_front el out l in (ap₂ (λ (x : Drive) (k : ℕ). record { drive = x; length = k }) (ed ∙ ap (later d) ec) f.0, f.1)

  pub told_unread : ¬ (a.number ≡ 0) → {n : ℕ} {out' : List ℕ} → InFront (unread_line d.records a) out n out' → {d' : Drive} → d' ≡ later d (untouched a.number d.table) → Right (record { drive = d'; length = n }) out'
  unfolding answer_change answer_line
  told_unread isnt =
      let c : answer_change d.table a sheet ≡ untouched a.number d.table = rw (ne_eqb a.number 0 isnt) refl in
      let t : answer_line d.records d.table a sheet ≡ unread_line d.records a = rw (ne_eqb a.number 0 isnt) refl in
      right (sym c ∙ its_change) (sym t ∙ its_line)

  pub told_report : a.number ≡ 0 → {o : Origin} → o ≡ origin_in (take a.count sheet) → {c : Answered} → c ≡ report_of d.table o
      → {n : ℕ} {out' : List ℕ} → InFront (report_line d.records c.number) out n out' → {d' : Drive} → d' ≡ later d c → Right (record { drive = d'; length = n }) out'
  unfolding answer_change answer_line
  told_report h eo {c} ec =
      let made : answer_change d.table a sheet ≡ report_of d.table (origin_in (take a.count sheet)) = rw (eq-eqb a.number 0 h) refl in
      let same : c ≡ answer_change d.table a sheet = ec ∙ ap (report_of d.table) eo ∙ sym made in
      let t : answer_line d.records d.table a sheet ≡ report_line d.records (answer_change d.table a sheet).number = rw (eq-eqb a.number 0 h) refl in
      right (same ∙ its_change) (ap (λ (x : Answered). report_line d.records x.number) same ∙ sym t ∙ its_line)

-- ---- a record

module _ (d : Drive) (held out : List ℕ) {r : Result (Option Record) Cut} (er : r ≡ first_record held) where
  abbrev Taken : Step → List ℕ → Type 0
  Taken s out' = (s ≡ stepped d held) × (out' ≡ filled (line_of d held) out)

  made : Drive → ℕ → Bool → Step
  made x n b = record { drive = x; length = n; more = b }

  taken : (q : Result (Option Record) Cut) → r ≡ q → {n : ℕ} {out' : List ℕ} {x : Drive} → InFront (record_line d q (record_of held)) out n out' → x ≡ record_drive d q (record_of held) → Taken (made x n (whole q)) out'
  unfolding made
  taken q u l ex =
      let is : q ≡ first_record held = sym u ∙ er in
      let f = same_front (ap (λ (p : Result (Option Record) Cut). record_line d p (record_of held)) is) out l in
      (ap₂ (λ (y : Drive) (k : ℕ). made y k (whole q)) (ex ∙ ap (λ (p : Result (Option Record) Cut). record_drive d p (record_of held)) is) f.0 ∙ ap (λ (p : Result (Option Record) Cut). made (drive_after d held) (length (line_of d held)) (whole p)) is, f.1)

  pub take_whole : {found : Record} → r ≡ Ok (Some found) → {t : Told} {out' : List ℕ}
      → (t ≡ told_of d (take (found.end - found.start) (drop found.start held))) × (out' ≡ filled (frame_line d.records d.table (take (found.end - found.start) (drop found.start held))) out)
      → Taken (record { drive = t.drive; length = t.length; more = true }) out'
  unfolding made record_line record_drive whole
  take_whole {found} u l =
      let its = its_record held (sym er ∙ u) in
      taken (Ok (Some found)) u
      (same_front (ap (frame_line d.records d.table) its) out (ap (λ (x : Told). x.length) l.0, l.1))
      (ap (λ (x : Told). x.drive) l.0 ∙ ap (λ (f : List ℕ). later d (frame_change d.table f)) its)

  pub take_cut : r ≡ Err cut → {n : ℕ} {out' : List ℕ} {x : Drive} → InFront (unread_line d.records cut_answer) out n out' → x ≡ later d (untouched number.short d.table) → Taken (record { drive = x; length = n; more = false }) out'
  unfolding made record_line record_drive whole
  take_cut u l ex = taken (Err cut) u l ex

  pub take_none : r ≡ Ok None → Taken (record { drive = d; length = 0; more = false }) out
  unfolding made record_line record_drive whole
  take_none u = taken (Ok None) u (refl, refl) refl
