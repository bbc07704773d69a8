-- What the rules program prints: for the encoding of a frame the line of what is found of its value, `passes` exactly where nothing is wrong; that a MAP is in
-- force from then on, and stays so behind every other frame; that a record counts as passing exactly where its line is `passes`; and how the output goes on,
-- record after record.
-- Assumes nothing.
use Prim.Native.Nat.{ℕ, suc, ◌<◌, ◌≤◌}
use mathlib.Core.Bool.{Bool, true, false, cond}
use mathlib.Core.List.{List, [], ◌∷◌, ◌++◌}
use mathlib.Core.Path.{◌≡◌, refl, sym, ap, ◌∙◌}
use native.Mathlib.Omega.{arith}
use borrow.Author.Tests.{eqb-true, eq-eqb, ne_eqb}
use lib.Dec.{eqb}
use lib.IntN.{ℤ}
use lib.ListN.{length, get_or, take, drop, length-append, drop_of_length-le}
use lib.Seq.{take-append_seam}
use Rattle.std.specs.Prelude.{Option, Some, None, Result, Ok, Err}
use Rattle.answers.specs.Refusals.{refusal}
use Rattle.answers.specs.declared.Answer.{Answer}
use Rattle.types.specs.Named.{first_edition}
use Rattle.answers.specs.Answers.{refused_by}
use Rattle.meaning.specs.Messages.{read_message, sheet_after, Encodes}
use Rattle.meaning.specs.Values.{Parts}
use Rattle.printing.specs.Texts.{ascii, read_text, refused_text}
use Rattle.records.specs.Records.{record_length, first_record, whole, is_whole, record_of}
use Rattle.records.specs.declared.Record.{Record}
use Rattle.records.specs.declared.Cut.{Cut}
use Rattle.records.proofs.Records.{still_whole, same_record, same_rest}
use Rattle.messages.specs.Message.{Message, message, message_of, bsm_frame, map_frame, rsm_frame, spat_frame, rsi_frame}
use Rattle.rules.specs.Rsi.{ruled, message_ruling}
use Rattle.rules.specs.Ruling.{Ruling}
use Rattle.rules.proofs.Theorems.{value_number}
use Rattle.participants.specs.Rsm.{rsm_ruled}
use Rattle.signals.specs.Signal.{nodes_in}
use Rattle.findings.specs.Found.{signal_found, kind_found, message_found, found, found_passes, in_force_after}
use Rattle.findings.specs.Lines.{other_line, ruling_line, profile_line, verdict_line, found_text}
use Rattle.findings.specs.Finding.{Finding}
use Rattle.findings.specs.Finding as finding
use Rattle.programs.specs.Frames.{lent_cells}
use Rattle.programs_theorems.proofs.Frames.{encoding_made, message_value}
use Rattle.programs_checking.specs.Checks.{Outcome, found_outcome, refused_outcome, answer_outcome, frame_outcome, record_outcome, checked_record, checked_by, checked_answer, counted, tally_text, output_from}
use Rattle.programs_checking.specs.declared.Tally.{Tally}
use Rattle.answers.specs.declared.reasons.Reason.TheVariants as reason

-- ---- the encoding of a frame

module _ {edition : ℕ} {cells : List ℤ} {frame : List ℕ} (E : Encodes edition 0 cells frame) where
  -- what it comes to is what is found of its cells
  pub encoding_outcome : (map : List ℤ) → frame_outcome map frame ≡ found_outcome map cells (found cells map)
  unfolding answer_outcome
  encoding_outcome map = encoding_made E (answer_outcome map) ∙ ap (λ (l : List ℤ). found_outcome map l (found l map)) (take-append_seam cells (drop (length cells) lent_cells))

  -- and that is by the message of its value
  pub found_value : (map : List ℤ) → found cells map ≡ message_found (message_of E.value) cells map
  unfolding found
  found_value map = ap (λ (m : Message). message_found m cells map) (message_value E)

  pub ruled_value : ruled cells ≡ message_ruling (message_of E.value)
  unfolding ruled
  ruled_value = ap message_ruling (message_value E)

  -- so 7, that the cells are no value, never occurs
  pub never_no_value : (ruled cells).number ≡ 7 → ⊥
  never_no_value e = value_number E.value (sym (ap (λ (r : Ruling). r.number) ruled_value) ∙ e)

  module _ (map : List ℤ) {kind : ℕ} {parts : Parts} (is : message_of E.value ≡ message kind parts) where
    by_kind : found cells map ≡ kind_found kind cells map
    unfolding message_found
    by_kind = found_value map ∙ ap (λ (m : Message). message_found m cells map) is

    -- a MAP is told by its nodes, and is in force from then on
    pub map_in_force : kind ≡ map_frame → ((frame_outcome map frame).map ≡ cells) × ((frame_outcome map frame).line ≡ found_text (finding.Map (nodes_in cells)))
    unfolding kind_found found_outcome in_force_after
    map_in_force e =
        let f : found cells map ≡ finding.Map (nodes_in cells) = by_kind ∙ rw e refl in
        let o = encoding_outcome map ∙ ap (found_outcome map cells) f in
        (ap (λ (x : Outcome). x.map) o, ap (λ (x : Outcome). x.line) o)

    -- a SPAT is held against the map in force, or there is none yet
    pub signal_line : kind ≡ spat_frame → (frame_outcome map frame).line ≡ found_text (signal_found cells map)
    unfolding kind_found found_outcome
    signal_line e = let f : found cells map ≡ signal_found cells map = by_kind ∙ rw e refl in ap (λ (x : Outcome). x.line) (encoding_outcome map ∙ ap (found_outcome map cells) f)

    -- an RSM by its sending profile
    pub profile_line_lem : kind ≡ rsm_frame → (frame_outcome map frame).line ≡ found_text (finding.Profiled (rsm_ruled cells))
    unfolding kind_found found_outcome
    profile_line_lem e = let f : found cells map ≡ finding.Profiled (rsm_ruled cells) = by_kind ∙ rw e refl in ap (λ (x : Outcome). x.line) (encoding_outcome map ∙ ap (found_outcome map cells) f)

    -- for a BSM there is no rule
    pub vehicle_line : kind ≡ bsm_frame → (frame_outcome map frame).line ≡ ascii "no rule for BSM\n"
    unfolding kind_found found_outcome found_text
    vehicle_line e = let f : found cells map ≡ finding.NoRule = by_kind ∙ rw e refl in ap (λ (x : Outcome). x.line) (encoding_outcome map ∙ ap (found_outcome map cells) f)

    -- an RSI by the RSI sending rules
    pub rsi_line : kind ≡ rsi_frame → (frame_outcome map frame).line ≡ found_text (finding.Ruled (ruled cells))
    unfolding kind_found found_outcome
    rsi_line e = let f : found cells map ≡ finding.Ruled (ruled cells) = by_kind ∙ rw e refl in ap (λ (x : Outcome). x.line) (encoding_outcome map ∙ ap (found_outcome map cells) f)

    -- and no frame but a MAP changes the map in force
    pub map_stays : ¬ (kind ≡ map_frame) → (frame_outcome map frame).map ≡ map
    unfolding kind_found found_outcome in_force_after signal_found
    map_stays a =
        let f : found cells map ≡ cond (eqb kind spat_frame) (signal_found cells map) (cond (eqb kind rsm_frame) (finding.Profiled (rsm_ruled cells)) (cond (eqb kind bsm_frame) finding.NoRule (finding.Ruled (ruled cells)))) = by_kind ∙ rw (ne_eqb kind map_frame a) refl in
        ap (λ (x : Outcome). x.map) (encoding_outcome map) ∙ ap (λ (g : Finding). in_force_after g cells map) f ∙ go (eqb kind spat_frame) (eqb kind rsm_frame) (eqb kind bsm_frame) map
      where
        go : (b c d : Bool) (m : List ℤ) → in_force_after (cond b (signal_found cells m) (cond c (finding.Profiled (rsm_ruled cells)) (cond d finding.NoRule (finding.Ruled (ruled cells))))) cells m ≡ m
        go true c d [] = refl
        go true c d (x ∷ xs) = refl
        go false true d m = refl
        go false false true m = refl
        go false false false m = refl

-- a frame that can't be read changes nothing
pub refused_stays : (map : List ℤ) (frame : List ℕ) → ¬ ((read_message 0 frame lent_cells).number ≡ 0) → (frame_outcome map frame).map ≡ map
unfolding answer_outcome refused_outcome
refused_stays map frame isnt = rw (ne_eqb (read_message 0 frame lent_cells).number 0 isnt) refl

-- ---- a line is `passes` exactly where what was found says so

ruling_when : (n place : ℕ) → n ≡ 0 → ruling_line n place ≡ ascii "passes\n"
unfolding ruling_line
ruling_when n place e = rw e refl

ruling_only_when : (n place : ℕ) → ruling_line n place ≡ ascii "passes\n" → n ≡ 0
unfolding ruling_line ascii
ruling_only_when n place = go (eqb n 0) refl (eqb n 12) (eqb n 13) (eqb n 14) (eqb n 15) (eqb n 16)
  where
    one : ◌≡◌ {A = ℕ} 49 112 → n ≡ 0
    one e = absurd (omega arith)

    word : ◌≡◌ {A = ℕ} 114 112 → n ≡ 0
    word e = absurd (omega arith)

    begin : List ℕ → ℕ
    begin s = get_or s 0 0

    go : (a : Bool) → eqb n 0 ≡ a → (b c d e f : Bool)
        → cond a (ruling_line 0 place) (cond b (ruling_line 12 place) (cond c (ruling_line 13 place) (cond d (ruling_line 14 place) (cond e (ruling_line 15 place) (cond f (ruling_line 16 place) (other_line n place)))))) ≡ ascii "passes\n" → n ≡ 0
    go true ea b c d e f l = eqb-true n 0 ea
    go false ea true c d e f l = one (ap begin l)
    go false ea false true d e f l = one (ap begin l)
    go false ea false false true e f l = one (ap begin l)
    go false ea false false false true f l = one (ap begin l)
    go false ea false false false false true l = one (ap begin l)
    go false ea false false false false false l = word (ap begin l)

profile_when : (n place : ℕ) → n ≡ 0 → profile_line n place ≡ ascii "passes\n"
unfolding profile_line
profile_when n place e = rw e refl

profile_only_when : (n place : ℕ) → profile_line n place ≡ ascii "passes\n" → n ≡ 0
unfolding profile_line ascii
profile_only_when n place = go (eqb n 0) refl (eqb n 23) (eqb n 24) (eqb n 30)
  where
    two : ◌≡◌ {A = ℕ} 50 112 → n ≡ 0
    two e = absurd (omega arith)

    three : ◌≡◌ {A = ℕ} 51 112 → n ≡ 0
    three e = absurd (omega arith)

    word : ◌≡◌ {A = ℕ} 114 112 → n ≡ 0
    word e = absurd (omega arith)

    begin : List ℕ → ℕ
    begin s = get_or s 0 0

    go : (a : Bool) → eqb n 0 ≡ a → (b c d : Bool) → cond a (profile_line 0 place) (cond b (profile_line 23 place) (cond c (profile_line 24 place) (cond d (profile_line 30 place) (other_line n place)))) ≡ ascii "passes\n" → n ≡ 0
    go true ea b c d l = eqb-true n 0 ea
    go false ea true c d l = two (ap begin l)
    go false ea false true d l = two (ap begin l)
    go false ea false false true l = three (ap begin l)
    go false ea false false false l = word (ap begin l)

verdict_when : (n node phase : ℕ) → n ≡ 0 → verdict_line n node phase ≡ ascii "passes\n"
unfolding verdict_line
verdict_when n node phase e = rw e refl

verdict_only_when : (n node phase : ℕ) → verdict_line n node phase ≡ ascii "passes\n" → n ≡ 0
unfolding verdict_line ascii
verdict_only_when n node phase = go (eqb n 0) refl (eqb n 51) (eqb n 52)
  where
    five : ◌≡◌ {A = ℕ} 53 112 → n ≡ 0
    five e = absurd (omega arith)

    word : ◌≡◌ {A = ℕ} 114 112 → n ≡ 0
    word e = absurd (omega arith)

    begin : List ℕ → ℕ
    begin s = get_or s 0 0

    go : (a : Bool) → eqb n 0 ≡ a → (b c : Bool) → cond a (verdict_line 0 node phase) (cond b (verdict_line 51 node phase) (cond c (verdict_line 52 node phase) (other_line n node))) ≡ ascii "passes\n" → n ≡ 0
    go true ea b c l = eqb-true n 0 ea
    go false ea true c l = five (ap begin l)
    go false ea false true l = five (ap begin l)
    go false ea false false l = word (ap begin l)

pub passes_when : (f : Finding) → found_passes f ≡ true → found_text f ≡ ascii "passes\n"
unfolding found_passes found_text
passes_when (finding.Ruled r) e = ruling_when r.number r.place (eqb-true r.number 0 e)
passes_when (finding.Profiled r) e = profile_when r.number r.place (eqb-true r.number 0 e)
passes_when (finding.Compared v) e = verdict_when v.number v.node v.phase (eqb-true v.number 0 e)
passes_when (finding.Map n) e = absurd (let z : ◌≡◌ {A = ℕ} 0 1 = cc in omega arith)
passes_when finding.NoMap e = absurd (let z : ◌≡◌ {A = ℕ} 0 1 = cc in omega arith)
passes_when finding.NoRule e = absurd (let z : ◌≡◌ {A = ℕ} 0 1 = cc in omega arith)

pub passes_only_when : (f : Finding) → found_text f ≡ ascii "passes\n" → found_passes f ≡ true
unfolding found_passes found_text ascii
passes_only_when (finding.Ruled r) e = eq-eqb r.number 0 (ruling_only_when r.number r.place e)
passes_only_when (finding.Profiled r) e = eq-eqb r.number 0 (profile_only_when r.number r.place e)
passes_only_when (finding.Compared v) e = eq-eqb v.number 0 (verdict_only_when v.number v.node v.phase e)
passes_only_when (finding.Map n) e = absurd (let z : ◌≡◌ {A = ℕ} 109 112 = ap (λ (s : List ℕ). get_or s 0 0) e in omega arith)
passes_only_when finding.NoMap e = absurd (let z : ◌≡◌ {A = ℕ} 110 112 = ap (λ (s : List ℕ). get_or s 0 0) e in omega arith)
passes_only_when finding.NoRule e = absurd (let z : ◌≡◌ {A = ℕ} 110 112 = ap (λ (s : List ℕ). get_or s 0 0) e in omega arith)

-- ---- a record counts as passing exactly where its line says so

-- a refusal begins with another letter
refusal_line : (a : Answer) → eqb a.number 0 ≡ false → read_text first_edition a [] ≡ ascii "passes\n" → ⊥
unfolding read_text ascii
refusal_line a u e =
    let l : read_text first_edition a [] ≡ refused_text (ascii "bit") a = rw u in
    let z : ◌≡◌ {A = ℕ} 114 112 = ap (λ (s : List ℕ). get_or s 0 0) (sym l ∙ e) in
    omega arith

abbrev SaysSo : Outcome → Type 0
SaysSo o = (o.passes ≡ true → o.line ≡ ascii "passes\n") × (o.line ≡ ascii "passes\n" → o.passes ≡ true)

answer_says : (map : List ℤ) (a : Answer) (sheet : List ℤ) → SaysSo (answer_outcome map a sheet)
unfolding answer_outcome found_outcome refused_outcome
answer_says map a sheet = go (eqb a.number 0) refl
  where
    go : (b : Bool) → eqb a.number 0 ≡ b → SaysSo (cond b (found_outcome map (take a.count sheet) (found (take a.count sheet) map)) (refused_outcome map a))
    go true u = (passes_when (found (take a.count sheet) map), passes_only_when (found (take a.count sheet) map))
    go false u = ((λ e. absurd (let z : ◌≡◌ {A = ℕ} 0 1 = cc in omega arith)), λ e. absurd (refusal_line a u e))

pub record_says_lem : (map : List ℤ) (held : List ℕ) → SaysSo (checked_record map held)
unfolding record_outcome refused_outcome ascii
record_says_lem map held = go (first_record held)
  where
    go : (r : Result (Option Record) Cut) → SaysSo (record_outcome map r (record_of held))
    go (Ok (Some found)) = answer_says map (read_message 0 (record_of held) lent_cells) (sheet_after 0 (record_of held) lent_cells)
    go (Err why) = ((λ e. absurd (let z : ◌≡◌ {A = ℕ} 0 1 = cc in omega arith)), λ e. absurd (refusal_line (refused_by (refusal reason.Short 0)) refl e))
    go (Ok None) = ((λ e. absurd (let z : ◌≡◌ {A = ℕ} 0 1 = cc in omega arith)), λ e. absurd (let z : ◌≡◌ {A = ℕ} 0 7 = ap length e in omega arith))

-- ---- a record that is there has a line, so that the last line counts it

ruling_some : (n place : ℕ) → 0 < length (ruling_line n place)
unfolding ruling_line ascii
ruling_some n place = go (eqb n 0) (eqb n 12) (eqb n 13) (eqb n 14) (eqb n 15) (eqb n 16)
  where
    go : (a b c d e f : Bool)
        → 0 < length (cond a (ruling_line 0 place) (cond b (ruling_line 12 place) (cond c (ruling_line 13 place) (cond d (ruling_line 14 place) (cond e (ruling_line 15 place) (cond f (ruling_line 16 place) (other_line n place)))))))
    go true b c d e f = omega arith
    go false true c d e f = simp length-append (omega arith)
    go false false true d e f = simp length-append (omega arith)
    go false false false true e f = simp length-append (omega arith)
    go false false false false true f = simp length-append (omega arith)
    go false false false false false true = simp length-append (omega arith)
    go false false false false false false = simp length-append (omega arith)

profile_some : (n place : ℕ) → 0 < length (profile_line n place)
unfolding profile_line ascii
profile_some n place = go (eqb n 0) (eqb n 23) (eqb n 24) (eqb n 30)
  where
    go : (a b c d : Bool) → 0 < length (cond a (profile_line 0 place) (cond b (profile_line 23 place) (cond c (profile_line 24 place) (cond d (profile_line 30 place) (other_line n place)))))
    go true b c d = omega arith
    go false true c d = simp length-append (omega arith)
    go false false true d = omega arith
    go false false false true = simp length-append (omega arith)
    go false false false false = simp length-append (omega arith)

verdict_some : (n node phase : ℕ) → 0 < length (verdict_line n node phase)
unfolding verdict_line ascii
verdict_some n node phase = go (eqb n 0) (eqb n 51) (eqb n 52)
  where
    go : (a b c : Bool) → 0 < length (cond a (verdict_line 0 node phase) (cond b (verdict_line 51 node phase) (cond c (verdict_line 52 node phase) (other_line n node))))
    go true b c = omega arith
    go false true c = simp length-append (omega arith)
    go false false true = simp length-append (omega arith)
    go false false false = simp length-append (omega arith)

found_some : (f : Finding) → 0 < length (found_text f)
unfolding found_text ascii
found_some (finding.Ruled r) = ruling_some r.number r.place
found_some (finding.Profiled r) = profile_some r.number r.place
found_some (finding.Compared v) = verdict_some v.number v.node v.phase
found_some (finding.Map n) = simp length-append (omega arith)
found_some finding.NoMap = omega arith
found_some finding.NoRule = omega arith

refusal_some : (a : Answer) → eqb a.number 0 ≡ false → 0 < length (read_text first_edition a [])
unfolding read_text ascii
refusal_some a u = rw u (simp length-append (omega arith))

answer_some : (map : List ℤ) (a : Answer) (sheet : List ℤ) → 0 < length (answer_outcome map a sheet).line
unfolding answer_outcome found_outcome refused_outcome
answer_some map a sheet = go (eqb a.number 0) refl
  where
    go : (b : Bool) → eqb a.number 0 ≡ b → 0 < length (cond b (found_outcome map (take a.count sheet) (found (take a.count sheet) map)) (refused_outcome map a)).line
    go true u = found_some (found (take a.count sheet) map)
    go false u = refusal_some a u

pub some_line : (map : List ℤ) (held : List ℕ) → (first_record held ≡ Ok None → ⊥) → 0 < length (checked_record map held).line
unfolding record_outcome refused_outcome
some_line map held there = go (first_record held) refl
  where
    go : (r : Result (Option Record) Cut) → first_record held ≡ r → 0 < length (record_outcome map r (record_of held)).line
    go (Ok (Some found)) e = answer_some map (read_message 0 (record_of held) lent_cells) (sheet_after 0 (record_of held) lent_cells)
    go (Err why) e = refusal_some (refused_by (refusal reason.Short 0)) refl
    go (Ok None) e = absurd (there e)

-- ---- record after record

-- what a whole record comes to goes by what is in it
whole_outcome : (map : List ℤ) (content : List ℕ) (r : Result (Option Record) Cut) → whole r ≡ true → record_outcome map r content ≡ frame_outcome map content
unfolding whole record_outcome
whole_outcome map content (Ok (Some found)) w = refl
whole_outcome map content (Err why) w = absurd (let z : ◌≡◌ {A = ℕ} 0 1 = cc in omega arith)
whole_outcome map content (Ok None) w = absurd (let z : ◌≡◌ {A = ℕ} 0 1 = cc in omega arith)

-- what the program prints goes on behind a whole record that it holds: the line, and then what is printed for the rest, with the record counted and the map that is in force behind it
pub output_goes_on : (map : List ℤ) (held more : List ℕ) → is_whole held ≡ true → length held ≡ record_length held → (most : ℕ) (t : Tally)
    → output_from (suc most) t map (held ++ more) ≡ (checked_record map held).line ++ output_from most (counted t (checked_answer map held)) (checked_record map held).map more
unfolding output_from
output_goes_on map held more w all most t =
    let still = still_whole held more w in
    let outcome : checked_record map (held ++ more) ≡ checked_record map held = whole_outcome map _ (first_record (held ++ more)) still ∙ ap (frame_outcome map) (same_record held more w) ∙ sym (whole_outcome map _ (first_record held) w) in
    let few : length held ≤ record_length held = omega (arith, all) in
    let none : drop (record_length held) held ≡ [] = drop_of_length-le held few in
    let rest : drop (record_length (held ++ more)) (held ++ more) ≡ more = same_rest held more w ∙ ap (λ (l : List ℕ). l ++ more) none in
    let o = checked_record map (held ++ more) in
    ap (λ (b : Bool). cond b (o.line ++ output_from most (counted t (checked_by o (is_whole (held ++ more)))) o.map (drop (record_length (held ++ more)) (held ++ more))) (o.line ++ tally_text (counted t (checked_by o (is_whole (held ++ more)))))) still
    ∙ ap (λ (b : Bool). o.line ++ output_from most (counted t (checked_by o b)) o.map (drop (record_length (held ++ more)) (held ++ more))) (still ∙ sym w)
    ∙ ap (λ (x : Outcome). x.line ++ output_from most (counted t (checked_by x (is_whole held))) x.map (drop (record_length (held ++ more)) (held ++ more))) outcome
    ∙ ap (λ (l : List ℕ). (checked_record map held).line ++ output_from most (counted t (checked_answer map held)) (checked_record map held).map l) rest
