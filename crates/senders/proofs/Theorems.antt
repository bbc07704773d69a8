-- What the loss table says after any calls, which is any finite sequence of them from the empty table (document 02, A4). `report` and `drop` answer `reported` and `dropped`, and `start` the empty table, so
-- all of this holds of the code. Assumes nothing.
use Rattle.std.proofs.Common.{◌≡◌, ℕ, suc, ◌+◌, ◌-◌, ◌*◌, ◌%◌, ◌<◌, ◌≤◌, true, false, ◌⊎◌, List, [], ◌∷◌, length, pos, ◌-ℤ◌, sym, ap, ◌∙◌, subst, inl, inr, arith, le-ltb, lt-ltb, ne_eqb}
use native.Mathlib.Decide.{dec_lt}
use Rattle.basics.specs.Rings.{around}
use Rattle.answers.specs.GivenBack as number
use Rattle.senders.specs.declared.Sender.{Sender}
use Rattle.senders.specs.declared.Table.{Table}
use Rattle.senders.specs.Rows.{free, holds}
use Rattle.senders.specs.Table.{Shown, Changed, nobody, reported, dropped, most_received, nothing_shown, shown_sender, shown}
use Rattle.senders.specs.History.{Call, answered, answer_to, table_after, counts_of, losses, row_of}
use Rattle.senders.specs.History.Call.{report, drop}
use Rattle.senders.proofs.Outcomes.{number_of, row_told, Refused, CountedOn, Outcome, DropOutcome, report_comes_to, drop_comes_to}
use Rattle.senders.proofs.Counts.{losses_bound, ring_agrees}
use Rattle.senders.proofs.Keys.{apart, holds_that}
use Rattle.senders.proofs.Keeping.{row_after, Held, Sound, Somewhere}
use Rattle.senders.proofs.History.{kept}

-- ---- "each number equals what its accepted reports since its entry say"

module _ (calls : List Call) (row : ℕ) (inside : row < 32) where
  pub rows_say : (row_after calls row ≡ nobody) ⊎ Held calls (row_after calls row)
  rows_say = (kept calls).says row inside

  -- a row that holds a sender is what the counts of its accepted reports make
  pub row_of_sender : (kind : ℕ) (id : List ℕ) → holds kind id (row_after calls row) ≡ true → row_after calls row ≡ row_of kind id (counts_of kind id calls)
  row_of_sender kind id e = go rows_say
    where
      key : ((row_after calls row).kind ≡ kind) × ((row_after calls row).id ≡ id)
      key = holds_that kind id (row_after calls row) e

      go : (row_after calls row ≡ nobody) ⊎ Held calls (row_after calls row) → row_after calls row ≡ row_of kind id (counts_of kind id calls)
      go (inl none) = apart (rw none at e)
      go (inr held) =
          let is : row_after calls row ≡ row_of kind id (held.latest ∷ held.earlier) = rw (key.0, key.1) at held.row_is in
          let counts : counts_of kind id calls ≡ held.latest ∷ held.earlier = rw (← key.0, ← key.1) held.counts_are in
          is ∙ ap (row_of kind id) (sym counts)

  -- of a row that is held: the counts of its sender are those of the ring, and none too many
  pub sound_row : (held : Held calls (row_after calls row)) → Sound (held.latest ∷ held.earlier)
  sound_row held = subst Sound held.counts_are ((kept calls).sound (row_after calls row).kind (row_after calls row).id)

  -- "received minus 1 plus missed agrees with last minus first round the ring of 128"
  pub numbers_agree :
      Held calls (row_after calls row)
      → ((row_after calls row).received - 1 + (row_after calls row).missed) % 128 ≡ around 128 (pos (row_after calls row).last -ℤ pos (row_after calls row).first)
  numbers_agree held =
      let s = sound_row held in
      rw held.row_is (ap (λ (n : ℕ). (n + losses held.latest held.earlier) % 128) (omega arith) ∙ ring_agrees held.latest held.earlier s.small.0 s.small.1)

  -- missed is far from the end of 64 bits
  pub missed_never_wraps : Held calls (row_after calls row) → (row_after calls row).missed ≤ 127 * most_received
  missed_never_wraps held =
      let s = sound_row held in
      rw held.row_is (omega (arith, losses_bound held.latest held.earlier s.small.1, s.few))

  pub received_bound : (row_after calls row).received ≤ most_received
  received_bound = go rows_say
    where
      go : (row_after calls row ≡ nobody) ⊎ Held calls (row_after calls row) → (row_after calls row).received ≤ most_received
      go (inl none) = rw none (omega arith)
      go (inr held) = rw held.row_is (sound_row held).few

-- ---- a row as it is shown

-- 28 where there is no such row or none stands there; else 0 with the row that the history says
pub data RowShown (calls : List Call) (row : ℕ) : Shown → Type 0 where
  no_such_row : 32 ≤ row → RowShown calls row nothing_shown
  nobody_there : row < 32 → row_after calls row ≡ nobody → RowShown calls row nothing_shown
  somebody_there : row < 32 → Held calls (row_after calls row) → RowShown calls row (record { number = number.done; sender = row_after calls row })

pub shown_says : (calls : List Call) (row : ℕ) → RowShown calls row (shown (table_after calls) row)
unfolding shown
shown_says calls row = elim (dec_lt row 32) [
  | yes h ↦ rw (lt-ltb row 32 h) (go h (rows_say calls row h))
  | no h ↦ rw (le-ltb row 32 (omega arith)) (RowShown.no_such_row (omega arith))
]
  where
    go : row < 32 → (row_after calls row ≡ nobody) ⊎ Held calls (row_after calls row) → RowShown calls row (shown_sender (row_after calls row))
    go h (inl none) = subst (RowShown calls row) (sym (ap shown_sender none)) (RowShown.nobody_there h none)
    go h (inr held) = rw (ne_eqb (row_after calls row).received 0 (λ e. received e)) (RowShown.somebody_there h held)
      where
        received : (row_after calls row).received ≡ 0 → ⊥
        received e = let q = ap (λ (s : Sender). s.received) held.row_is in omega arith

-- ---- "a sender stands in one row at most", and in one where it was accepted and not dropped

pub stands_once :
    (calls : List Call) (kind : ℕ) (id : List ℕ) (row other : ℕ) → row < 32 → other < 32
    → holds kind id (row_after calls row) ≡ true → holds kind id (row_after calls other) ≡ true → row ≡ other
stands_once calls = (kept calls).once

pub stands_somewhere : (calls : List Call) (kind : ℕ) (id : List ℕ) → 0 < length (counts_of kind id calls) → Somewhere kind id calls
stands_somewhere calls = (kept calls).stands

-- ---- "changes nothing", whatever the table holds

same_table : {table : Table} {c : Changed} → Refused table c → c.table ≡ table
same_table r = ap (λ (d : Changed). d.table) r.is

pub refusal_keeps_the_table : (table : Table) (call : Call) → ¬ ((answered table call).number ≡ 0) → (answered table call).table ≡ table
refusal_keeps_the_table table (report kind id count) h = go (report_comes_to table kind id count)
  where
    go : Outcome table kind id count → (reported table kind id count).table ≡ table
    go (inl r) = same_table r
    go (inr (inl c)) = absurd (h (ap number_of c.is))
    go (inr (inr c)) = absurd (h (ap number_of c.is))
refusal_keeps_the_table table (drop kind id) h = go (drop_comes_to table kind id)
  where
    go : DropOutcome table kind id → (dropped table kind id).table ≡ table
    go (inl r) = same_table r
    go (inr c) = absurd (h (ap number_of c.is))

-- ---- which row

-- "a new sender takes the lowest free row": the row told was free, and all rows below it were held
pub record LowestFree (calls : List Call) (row : ℕ) : Type 0 where
  pub inside : row < 32
  pub there : free (row_after calls row) ≡ true
  pub above : (other : ℕ) → other < row → free (row_after calls other) ≡ false

module _ (calls : List Call) (kind : ℕ) (id : List ℕ) (count : ℕ) (accepted : (answer_to calls (report kind id count)).number ≡ 0) where
  -- an accepted report of a sender that has none since its entry
  pub new_sender_lowest : counts_of kind id calls ≡ [] → LowestFree calls (answer_to calls (report kind id count)).row
  new_sender_lowest none = go (report_comes_to (table_after calls) kind id count)
    where
      held_before : (c : CountedOn (table_after calls) kind id count (reported (table_after calls) kind id count)) → (row_after calls c.row ≡ nobody) ⊎ Held calls (row_after calls c.row) → ⊥
      held_before c (inl e) = apart (rw e at c.known.there)
      held_before c (inr held) =
          let t = holds_that kind id (row_after calls c.row) c.known.there in
          let q : counts_of kind id calls ≡ held.latest ∷ held.earlier = rw (← t.0, ← t.1) held.counts_are in
          let l : ◌≡◌ {A = ℕ} 0 (suc (length held.earlier)) = ap length (sym none ∙ q) in
          omega arith

      go : Outcome (table_after calls) kind id count → LowestFree calls (answer_to calls (report kind id count)).row
      go (inl r) = absurd (let l = sym (ap number_of r.is) ∙ accepted in omega arith)
      go (inr (inl c)) = absurd (held_before c ((kept calls).says c.row (omega (arith, c.known.inside, (kept calls).long))))
      go (inr (inr c)) = subst (LowestFree calls) (sym (ap row_told c.is)) (record { inside = omega (arith, c.spare.inside, (kept calls).long); there = c.spare.there; above = c.spare.above })
