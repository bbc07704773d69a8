-- What an accepted call makes of the rows, over any finite sequence of calls from the empty table, and how a dropped row is used again (document 02,
-- A4). Assumes nothing.
use Rattle.std.proofs.Common.{◌≡◌, ℕ, ◌+◌, ◌%◌, ◌^◌, ◌<◌, ◌≤◌, true, false, not, ◌⊎◌, List, [], ◌∷◌, sym, refl, ap, ◌∙◌, subst, inl, inr, arith, get_or-set_other, get_or-set_same, ne_eqb}
use native.Mathlib.Decide.{dec_lt}
use Rattle.loss.specs.Ring.{Loss, ring_formula}
use Rattle.loss.proofs.Theorems.{counts_in_range, missed_below_128}
use Rattle.senders.specs.declared.Sender.{Sender}
use Rattle.senders.specs.Rows.{free, holds}
use Rattle.senders.specs.Table.{nobody, no_row, placed, has_sender, entered, counted}
use Rattle.senders.specs.History.{Call, answered, answer_to, table_after, counts_of, is_sender, first_count, losses, row_of}
use Rattle.senders.specs.History.Call.{report, drop}
use Rattle.senders.proofs.Outcomes.{number_of, row_told, Outcome, DropOutcome, report_comes_to, drop_comes_to}
use Rattle.senders.proofs.Counts.{plain_sum}
use Rattle.senders.proofs.Keys.{apart, both, is_self}
use Rattle.senders.proofs.Keeping.{row_after, Held, Somewhere}
use Rattle.senders.proofs.Steps.{placed_table, noted_counts}
use Rattle.senders.proofs.History.{kept}
use Rattle.senders.proofs.Theorems.{rows_say, sound_row, row_of_sender, missed_never_wraps, LowestFree, new_sender_lowest}
use Rattle.senders.proofs.Numbers.{ReportSays, report_answers_when, never_entered}

-- after a call one row is this, and every other row is as it was
pub record OneRow (calls : List Call) (call : Call) (row : ℕ) (s : Sender) : Type 0 where
  pub inside : row < 32
  pub there : row_after (call ∷ calls) row ≡ s
  pub others : (other : ℕ) → ¬ (other ≡ row) → row_after (call ∷ calls) other ≡ row_after calls other

one_row : (calls : List Call) (call : Call) (row : ℕ) (s : Sender) → row < 32 → answered (table_after calls) call ≡ placed (table_after calls) row s → OneRow calls call row s
one_row calls call row s h e =
    let t = placed_table calls call row s e in
    record {
      inside = h;
      there = rw t (get_or-set_same (table_after calls).senders row s no_row (omega (arith, (kept calls).long)));
      others = λ other n. rw t (get_or-set_other (table_after calls).senders row other s no_row n);
    }

-- one report more of a sender is the same sender's
counted_holds : (kind : ℕ) (id : List ℕ) (s : Sender) (count : ℕ) → holds kind id s ≡ true → holds kind id (counted s count) ≡ true
counted_holds kind id s count e = rw (ne_eqb (s.received + 1) 0 (λ q. omega arith)) (both (not (free s)) (is_sender kind id s.kind s.id) e).1

-- ---- a report

-- "adds one to received and adds 01's loss count to missed": plainly, for what is missed doesn't come near the end of 64 bits
abbrev pub one_more : Sender → ℕ → Sender
one_more s count =
    record { id = s.id; kind = s.kind; first = s.first; last = count; received = s.received + 1; missed = s.missed + ring_formula s.last count }

module _ (calls : List Call) (row : ℕ) (inside : row < 32) (held : Held calls (row_after calls row)) (count : ℕ) (small : count ≤ 127) where
  abbrev s : Sender
  s = row_after calls row

  last_small : s.last ≤ 127
  last_small = rw held.row_is (sound_row calls row inside held).small.0

  pub counted_plainly : counted (row_after calls row) count ≡ one_more (row_after calls row) count
  counted_plainly =
      ap (λ (missed : ℕ). record { id = s.id; kind = s.kind; first = s.first; last = count; received = s.received + 1; missed = missed })
      (ap (λ (l : Loss). (s.missed + l.missed) % 2 ^ 64) (counts_in_range s.last count last_small small)
      ∙ plain_sum s.missed (ring_formula s.last count) (missed_never_wraps calls row inside held) (missed_below_128 s.last count last_small))

module _ (calls : List Call) (kind : ℕ) (id : List ℕ) (count : ℕ) (accepted : (answer_to calls (report kind id count)).number ≡ 0) where
  -- the row told has one count more of its sender, whose counts it had before or which is new
  pub reported_row : OneRow calls (report kind id count) (answer_to calls (report kind id count)).row (row_of kind id (count ∷ counts_of kind id calls))
  reported_row = go (report_comes_to (table_after calls) kind id count)
    where
      -- a row that holds the sender afterwards
      told : (row : ℕ) (s : Sender) → row < 32 → answer_to calls (report kind id count) ≡ placed (table_after calls) row s → holds kind id s ≡ true → OneRow calls (report kind id count) (answer_to calls (report kind id count)).row (row_of kind id (count ∷ counts_of kind id calls))
      told row s h e own =
          let one = one_row calls (report kind id count) row s h e in
          let says = row_of_sender (report kind id count ∷ calls) row h kind id (rw one.there own) in
          let counts : counts_of kind id (report kind id count ∷ calls) ≡ count ∷ counts_of kind id calls = noted_counts calls (report kind id count) row s e kind id ∙ rw (is_self kind id) refl in
          rw (ap row_told e) (record { inside = h; there = says ∙ ap (row_of kind id) counts; others = one.others })

      go : Outcome (table_after calls) kind id count → OneRow calls (report kind id count) (answer_to calls (report kind id count)).row (row_of kind id (count ∷ counts_of kind id calls))
      go (inl r) = absurd (let l = sym (ap number_of r.is) ∙ accepted in omega arith)
      go (inr (inl c)) =
          told c.row (counted (row_after calls c.row) count) (omega (arith, c.known.inside, (kept calls).long)) c.is
          (counted_holds kind id (row_after calls c.row) count c.known.there)
      go (inr (inr c)) = told c.row (entered kind id count) (omega (arith, c.spare.inside, (kept calls).long)) c.is (is_self kind id)

  -- "with received 1 and missed 0"
  pub new_row : counts_of kind id calls ≡ [] → row_after (report kind id count ∷ calls) (answer_to calls (report kind id count)).row ≡ entered kind id count
  unfolding first_count losses
  new_row none = reported_row.there ∙ ap (λ (c : List ℕ). row_of kind id (count ∷ c)) none

  -- a known sender stays in its row
  pub known_row : (at : Somewhere kind id calls) → ((answer_to calls (report kind id count)).row ≡ at.row) × (row_after (report kind id count ∷ calls) at.row ≡ one_more (row_after calls at.row) count)
  known_row at = go (report_comes_to (table_after calls) kind id count)
    where
      held_in : (row : ℕ) (h : row < 32) → holds kind id (row_after calls row) ≡ true → (row_after calls row ≡ nobody) ⊎ Held calls (row_after calls row) → Held calls (row_after calls row)
      held_in row h e (inl none) = apart (rw none at e)
      held_in row h e (inr held) = held

      go : Outcome (table_after calls) kind id count → ((answer_to calls (report kind id count)).row ≡ at.row) × (row_after (report kind id count ∷ calls) at.row ≡ one_more (row_after calls at.row) count)
      go (inl r) = absurd (let l = sym (ap number_of r.is) ∙ accepted in omega arith)
      go (inr (inl c)) =
          let h : c.row < 32 = omega (arith, c.known.inside, (kept calls).long) in
          let same = (kept calls).once kind id c.row at.row h at.inside c.known.there at.there in
          let held = held_in c.row h c.known.there (rows_say calls c.row h) in
          let one = one_row calls (report kind id count) c.row (counted (row_after calls c.row) count) h c.is in
          (ap row_told c.is ∙ same, subst (λ (row : ℕ). row_after (report kind id count ∷ calls) row ≡ one_more (row_after calls row) count) same (one.there ∙ counted_plainly calls c.row h held count c.small))
      go (inr (inr c)) = apart (sym (c.spare.nowhere at.row (omega (arith, at.inside, (kept calls).long))) ∙ at.there)

-- ---- a drop

module _ (calls : List Call) (kind : ℕ) (id : List ℕ) (accepted : (answer_to calls (drop kind id)).number ≡ 0) where
  -- "A sender can be dropped": the row told was its own, and is free
  pub record Dropped : Type 0 where
    pub was : holds kind id (row_after calls (answer_to calls (drop kind id)).row) ≡ true
    pub after : OneRow calls (drop kind id) (answer_to calls (drop kind id)).row nobody

  pub dropped_row : Dropped
  dropped_row = go (drop_comes_to (table_after calls) kind id)
    where
      go : DropOutcome (table_after calls) kind id → Dropped
      go (inl r) = absurd (let l = sym (ap number_of r.is) ∙ accepted in omega arith)
      go (inr c) =
          record {
            was = rw (ap row_told c.is) c.known.there;
            after = rw (ap row_told c.is) (one_row calls (drop kind id) c.row nobody (omega (arith, c.known.inside, (kept calls).long)) c.is);
          }

  -- "and its row is used again": by the next new sender, unless a lower one is free
  module _ (newKind : ℕ) (newId : List ℕ) (count : ℕ) (small : count ≤ 127) (sender : has_sender newKind ≡ true) (new : counts_of newKind newId (drop kind id ∷ calls) ≡ []) where
    pub next_accepted : (answer_to (drop kind id ∷ calls) (report newKind newId count)).number ≡ 0
    next_accepted =
        report_answers_when (drop kind id ∷ calls) newKind newId count 0
        (ReportSays.new_sender small sender (never_entered (drop kind id ∷ calls) newKind newId new) (record { row = (answer_to calls (drop kind id)).row; inside = dropped_row.after.inside; there = rw dropped_row.after.there refl }))

    pub used_again_or_lower : (answer_to (drop kind id ∷ calls) (report newKind newId count)).row ≤ (answer_to calls (drop kind id)).row
    used_again_or_lower = elim (dec_lt (answer_to calls (drop kind id)).row (answer_to (drop kind id ∷ calls) (report newKind newId count)).row) [
      | yes h ↦ apart (sym (lowest.above (answer_to calls (drop kind id)).row h) ∙ rw dropped_row.after.there refl)
      | no h ↦ omega arith
    ]
      where
        lowest : LowestFree (drop kind id ∷ calls) (answer_to (drop kind id ∷ calls) (report newKind newId count)).row
        lowest = new_sender_lowest (drop kind id ∷ calls) newKind newId count next_accepted new

    pub used_again : ((lower : ℕ) → lower < (answer_to calls (drop kind id)).row → free (row_after calls lower) ≡ false) → (answer_to (drop kind id ∷ calls) (report newKind newId count)).row ≡ (answer_to calls (drop kind id)).row
    used_again held = elim (dec_lt (answer_to (drop kind id ∷ calls) (report newKind newId count)).row (answer_to calls (drop kind id)).row) [
      | yes h ↦ apart (sym (held (answer_to (drop kind id ∷ calls) (report newKind newId count)).row h) ∙ rw (← dropped_row.after.others (answer_to (drop kind id ∷ calls) (report newKind newId count)).row (λ e. omega arith)) (new_sender_lowest (drop kind id ∷ calls) newKind newId count next_accepted new).there)
      | no h ↦ omega (arith, used_again_or_lower)
    ]
