-- What a frame comes to, refused or found, and what a record does; the map in force in its memory; the last line.
-- Assumes nothing.
use Prim.Native.Nat.{ℕ, ◌+◌, ◌-◌, ◌<◌, ◌≤◌, ◌^◌, min}
use mathlib.Core.Bool.{Bool, true, false}
use mathlib.Core.List.{List, [], ◌++◌}
use mathlib.Core.Path.{◌≡◌, refl, sym, ap, ap₂, subst, ◌∙◌}
use native.Mathlib.Decide.{dec_le}
use native.Mathlib.Omega.{arith}
use borrow.Author.Tests.{eq-eqb, ne_eqb}
use lib.IntN.{ℤ}
use lib.ListN.{length, take, drop, length-append, take-append-drop, length-take}
use lib.Seq.{length-take-le, take_all}
use Rattle.std.specs.Prelude.{Option, Some, None, Result, Ok, Err}
use Rattle.answers.specs.Refusals.{refusal}
use Rattle.answers.specs.Answers.{refused_by}
use Rattle.answers.specs.declared.Answer.{Answer}
use Rattle.types.specs.Named.{first_edition}
use Rattle.meaning.specs.Messages.{read_message, sheet_after}
use Rattle.basics.specs.Counts.{capped}
use Rattle.basics.specs.Lists.{filled}
use Rattle.printing.specs.Texts.{ascii, read_text}
use Rattle.printing.proofs.Lengths.{decimal_short}
use Rattle.findings.specs.Found.{found, found_passes, in_force_after}
use Rattle.findings.specs.Lines.{longest_line, found_text}
use Rattle.findings.specs.Finding.{Finding}
use Rattle.programs_checking.specs.Checks.{Outcome, found_outcome, refused_outcome, answer_outcome, frame_outcome, judged_by, record_outcome, checked_record, checked_by, checked_answer, counted, tally_text}
use Rattle.programs_checking.specs.declared.Judged.{Judged}
use Rattle.programs_checking.specs.declared.Checked.{Checked}
use Rattle.programs_checking.specs.declared.Tally.{Tally}
use Rattle.records.specs.Records.{cut, first_record, whole, record_of}
use Rattle.records.specs.declared.Record.{Record}
use Rattle.records.specs.declared.Cut.{Cut}
use Rattle.records.proofs.Records.{its_record}
use Rattle.programs.proofs.Frames.{Enough}
use Rattle.programs.proofs.Inputs.{InFront}
use Rattle.programs_checking.proofs.Lent.{same_outcome}
use Rattle.answers.specs.declared.reasons.Reason.TheVariants as reason

-- ---- a map in its memory

-- what stands in front stays
pub still_filled : (cells : ℕ) (memory : List ℤ) → memory ≡ filled (take cells memory) memory
still_filled cells memory = go (dec_le cells (length memory))
  where
    go : Dec (cells ≤ length memory) → memory ≡ filled (take cells memory) memory
    go (yes h) = sym (take-append-drop cells memory) ∙ ap (λ (k : ℕ). take cells memory ++ drop k memory) (sym (length-take-le cells memory h))
    go (no h) =
        let all : take cells memory ≡ memory = take_all cells memory (omega arith) in
        sym (take-append-drop (length memory) memory) ∙ ap₂ (λ (a b : List ℤ). a ++ b) (take_all (length memory) memory (omega arith) ∙ sym all) (ap (λ (l : List ℤ). drop (length l) memory) (sym all))

module _ (cells : ℕ) (memory : List ℤ) (h : cells ≤ length memory) where
  pub still_long : cells ≡ length (take cells memory)
  still_long = sym (length-take-le cells memory h)

-- behind a finding
module _ (sheet memory : List ℤ) (count cells : ℕ) (f : Finding) where
  abbrev Kept : ℕ → List ℤ → Type 0
  Kept n after = (n ≡ length (in_force_after f (take count sheet) (take cells memory))) × (after ≡ filled (in_force_after f (take count sheet) (take cells memory)) memory)

  pub kept_other : in_force_after f (take count sheet) (take cells memory) ≡ take cells memory → {n : ℕ} → n ≡ length (take cells memory) → Kept n memory
  kept_other e en = (en ∙ ap length (sym e), still_filled cells memory ∙ ap (λ (l : List ℤ). filled l memory) (sym e))

  pub kept_map : in_force_after f (take count sheet) (take cells memory) ≡ take count sheet → count ≤ length sheet → {n : ℕ} {after : List ℤ} → n ≡ count → after ≡ filled (take count sheet) memory → Kept n after
  kept_map e l en ea = (en ∙ still_long count sheet l ∙ ap length (sym e), ea ∙ ap (λ (x : List ℤ). filled x memory) (sym e))

-- ---- a frame

-- in the code's terms: what is promised of an answer and of the memory, where cells enough are lent
module _ (frame out : List ℕ) (memory : List ℤ) (cells : ℕ) (lent : List ℤ) (enough : Enough frame lent) {a : Answer} {sheet : List ℤ} (e : (a ≡ read_message 0 frame lent) × (sheet ≡ sheet_after 0 frame lent)) where
  abbrev map : List ℤ
  map = take cells memory

  its : answer_outcome map a sheet ≡ frame_outcome map frame
  its = ap₂ (answer_outcome map) e.0 e.1 ∙ same_outcome map frame lent enough

  abbrev pub Right : Judged → List ℕ → List ℤ → Type 0
  Right j out' memory' = (j ≡ judged_by (frame_outcome map frame)) × ((out' ≡ filled (frame_outcome map frame).line out) × (memory' ≡ filled (frame_outcome map frame).map memory))

  right : (o : Outcome) → o ≡ frame_outcome map frame → {j : Judged} {out' : List ℕ} {memory' : List ℤ} → j ≡ judged_by o → out' ≡ filled o.line out → memory' ≡ filled o.map memory → Right j out' memory'
  right o eo ej el em = (ej ∙ ap judged_by eo, (el ∙ ap (λ (x : Outcome). filled x.line out) eo, em ∙ ap (λ (x : Outcome). filled x.map memory) eo))

  pub judged_refused : cells ≤ length memory → ¬ (a.number ≡ 0) → {n : ℕ} {out' : List ℕ} → InFront (read_text first_edition a []) out n out' → {k : ℕ} {memory' : List ℤ} → (k ≡ cells) × (memory' ≡ memory) → Right (record { length = n; passes = false; cells = k }) out' memory'
  unfolding answer_outcome refused_outcome
  judged_refused h isnt {n} l (ek, em) =
      let is : refused_outcome map a ≡ answer_outcome map a sheet = sym (rw (ne_eqb a.number 0 isnt) refl) in
      right (refused_outcome map a) (is ∙ its) (ap₂ (λ (m c : ℕ). record { length = m; passes = false; cells = c }) l.0 (ek ∙ still_long cells memory h)) l.1 (em ∙ still_filled cells memory)

  pub judged_found : a.number ≡ 0 → {f : Finding} → f ≡ found (take a.count sheet) map → {n : ℕ} {out' : List ℕ} → InFront (found_text f) out n out' → {b : Bool} → b ≡ found_passes f → {k : ℕ} {memory' : List ℤ} → (k ≡ length (in_force_after f (take a.count sheet) map)) × (memory' ≡ filled (in_force_after f (take a.count sheet) map) memory) → Right (record { length = n; passes = b; cells = k }) out' memory'
  unfolding answer_outcome found_outcome
  judged_found z {f} ef {n} l {b} eb {k} (ek, em) =
      let is : found_outcome map (take a.count sheet) f ≡ answer_outcome map a sheet = ap (found_outcome map (take a.count sheet)) ef ∙ sym (rw (eq-eqb a.number 0 z) refl) in
      right (found_outcome map (take a.count sheet) f) (is ∙ its) (same_judged l.0 eb ek) l.1 em
    where
      same_judged : {m n : ℕ} {p q : Bool} {i j : ℕ} → m ≡ n → p ≡ q → i ≡ j → ◌≡◌ {A = Judged} (record { length = m; passes = p; cells = i }) (record { length = n; passes = q; cells = j })
      same_judged u v w = rw (u, v, w)

-- ---- a count of cells beyond the memory is told as the whole of it

pub taken_length : (cells : ℕ) (memory : List ℤ) → min cells (length memory) ≡ length (take cells memory)
taken_length cells memory = sym (length-take cells memory)

abbrev Told : List ℕ → List ℕ → List ℤ → List ℤ → Judged → List ℕ → List ℤ → Type 0
Told frame out memory map j out' memory' = (j ≡ judged_by (frame_outcome map frame)) × ((out' ≡ filled (frame_outcome map frame).line out) × (memory' ≡ filled (frame_outcome map frame).map memory))

module _ (memory : List ℤ) (cells : ℕ) {held : ℕ} (eh : held ≡ length (take cells memory)) where
  same_map : take held memory ≡ take cells memory
  same_map = go (dec_le cells (length memory))
    where
      go : Dec (cells ≤ length memory) → take held memory ≡ take cells memory
      go (yes h) = ap (λ (n : ℕ). take n memory) (eh ∙ length-take-le cells memory h)
      go (no h) =
          let all : take cells memory ≡ memory = take_all cells memory (omega arith) in
          ap (λ (n : ℕ). take n memory) (eh ∙ ap length all) ∙ take_all (length memory) memory (omega arith) ∙ sym all

  pub held_few : held ≤ length memory
  held_few = omega (arith, eh, taken_length cells memory)

  pub whole_memory : (frame out : List ℕ) {j : Judged} {out' : List ℕ} {memory' : List ℤ} → Told frame out memory (take held memory) j out' memory' → Told frame out memory (take cells memory) j out' memory'
  whole_memory frame out {j} {out'} {memory'} t = subst (λ (map : List ℤ). Told frame out memory map j out' memory') same_map t

-- ---- a record

module _ (held out : List ℕ) (memory : List ℤ) (cells : ℕ) {r : Result (Option Record) Cut} (er : r ≡ first_record held) where
  abbrev in_force : List ℤ
  in_force = take cells memory

  -- what is promised of an answer and of the memory
  abbrev pub Shown : Checked → List ℕ → List ℤ → Type 0
  Shown c out' memory' = (c ≡ checked_answer in_force held) × ((out' ≡ filled (checked_record in_force held).line out) × (memory' ≡ filled (checked_record in_force held).map memory))

  show_it : (q : Result (Option Record) Cut) → r ≡ q → (o : Outcome) → o ≡ record_outcome in_force q (record_of held) → {c : Checked} {out' : List ℕ} {memory' : List ℤ} → c ≡ checked_by o (whole q) → out' ≡ filled o.line out → memory' ≡ filled o.map memory → Shown c out' memory'
  show_it q u o eo ec el em =
      let is : q ≡ first_record held = sym u ∙ er in
      let all : o ≡ checked_record in_force held = eo ∙ ap (λ (x : Result (Option Record) Cut). record_outcome in_force x (record_of held)) is in
      (ec ∙ ap₂ (λ (x : Outcome) (q : Result (Option Record) Cut). checked_by x (whole q)) all is, (el ∙ ap (λ (x : Outcome). filled x.line out) all, em ∙ ap (λ (x : Outcome). filled x.map memory) all))

  pub show_whole : {found : Record} → r ≡ Ok (Some found) → {j : Judged} {out' : List ℕ} {memory' : List ℤ} → Told (take (found.end - found.start) (drop found.start held)) out memory in_force j out' memory' → Shown (record { length = j.length; passes = j.passes; more = true; cells = j.cells }) out' memory'
  unfolding record_outcome whole
  show_whole {found} u (ej, (el, em)) =
      let its-frame = its_record held (sym er ∙ u) in
      show_it (Ok (Some found)) u (frame_outcome in_force (take (found.end - found.start) (drop found.start held))) (ap (frame_outcome in_force) its-frame) (ap (λ (x : Judged). record { length = x.length; passes = x.passes; more = true; cells = x.cells }) ej) el em

  module _ {n : ℕ} (en : n ≡ length in_force) where
    pub show_cut : r ≡ Err cut → {k : ℕ} {out' : List ℕ} → InFront (read_text first_edition (refused_by (refusal reason.Short 0)) []) out k out' → Shown (record { length = k; passes = false; more = false; cells = n }) out' memory
    unfolding record_outcome refused_outcome whole
    show_cut u l = show_it (Err cut) u (refused_outcome in_force (refused_by (refusal reason.Short 0))) refl (ap₂ (λ (a b : ℕ). record { length = a; passes = false; more = false; cells = b }) l.0 en) l.1 (still_filled cells memory)

    pub show_none : r ≡ Ok None → Shown (record { length = 0; passes = false; more = false; cells = n }) out memory
    unfolding record_outcome whole
    show_none u = show_it (Ok None) u (record { line = []; passes = false; map = in_force }) refl (ap (λ (b : ℕ). record { length = 0; passes = false; more = false; cells = b }) en) refl (still_filled cells memory)

-- ---- the last line

module _ (t : Tally) (c : Checked) where
  pub counted_none : c.length ≡ 0 → t ≡ counted t c
  unfolding counted
  counted_none h = rw (eq-eqb c.length 0 h)

  module _ (h : c.length ≡ 0 → ⊥) {records : ℕ} (er : records ≡ capped (t.records + 1)) where
    pub counted_pass : c.passes ≡ true → {pass : ℕ} → pass ≡ capped (t.pass + 1) → record { records = records; pass = pass } ≡ counted t c
    unfolding counted
    counted_pass p ep = rw (ne_eqb c.length 0 h, p, er, ep)

    pub counted_fault : c.passes ≡ false → record { records = records; pass = t.pass } ≡ counted t c
    unfolding counted
    counted_fault p = rw (ne_eqb c.length 0 h, p, er)

pub tally_short : (t : Tally) → t.records < 2 ^ 64 → t.pass < 2 ^ 64 → length (tally_text t) ≤ longest_line
unfolding ascii
tally_short t hr hp = simp length-append (omega (arith, decimal_short t.records hr, decimal_short t.pass hp))
