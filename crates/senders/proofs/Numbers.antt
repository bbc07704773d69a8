-- Which number a call answers, over any finite sequence of calls from the empty table (document 02, A4): each number has its sentence, and is
-- answered exactly where that holds. Assumes nothing.
use Rattle.std.proofs.Common.{◌≡◌, ℕ, ◌<◌, ◌≤◌, Bool, true, false, cond, eqb, leb, List, [], ◌∷◌, length, sym, refl, ap, ◌∙◌, subst, arith, eq-eqb, ne_eqb, eqb-true, le-leb, leb-false, leb-true}
use native.Mathlib.Decide.{ℕ_discrete}
use borrow.Author.Tests.{eqb-false, lt-leb}
use Rattle.answers.specs.GivenBack as number
use Rattle.senders.specs.declared.Sender.{Sender}
use Rattle.senders.specs.Rows.{Spot, free, holds, first_at, spot_in}
use Rattle.senders.specs.Table.{Changed, no_row, has_sender, at_spot, dropped_at, reported, dropped, most_received}
use Rattle.senders.specs.History.{Call, table_after, answer_to, counts_of, is_sender}
use Rattle.senders.specs.History.Call.{report, drop}
use Rattle.senders.proofs.Outcomes.{number_of}
use Rattle.senders.proofs.First.{known_at, free_at, full_at, spot_known, spot_free, spot_full}
use Rattle.senders.proofs.Keys.{apart, is_that}
use Rattle.senders.proofs.Keeping.{row_after, Somewhere}
use Rattle.senders.proofs.History.{kept}
use Rattle.senders.proofs.Theorems.{row_of_sender, received_bound}

-- ---- what the sentences speak of

-- a sender that isn't held: no row has it
abbrev pub NotHeld : List Call → ℕ → List ℕ → Type 0
NotHeld calls kind id = (row : ℕ) → row < 32 → holds kind id (row_after calls row) ≡ false

-- "a full table": no row is free
abbrev pub FullTable : List Call → Type 0
FullTable calls = (row : ℕ) → row < 32 → free (row_after calls row) ≡ false

pub record FreeRow (calls : List Call) : Type 0 where
  pub row : ℕ
  pub inside : row < 32
  pub there : free (row_after calls row) ≡ true

-- ---- the sentences, by number

pub data ReportSays (calls : List Call) (kind : ℕ) (id : List ℕ) (count : ℕ) : ℕ → Type 0 where
  -- "A count above 127 is 4, before all others."
  above_127 : 127 < count → ReportSays calls kind id count number.outside
  -- "MAP and SPAT have no sender id: a report of one, or of no known kind, is 25, after 4 and before the rest."
  no_sender : count ≤ 127 → has_sender kind ≡ false → ReportSays calls kind id count number.no_sender
  -- "Received at 4,294,967,295 refuses with 21"
  received_full : count ≤ 127 → has_sender kind ≡ true → (at : Somewhere kind id calls) → (row_after calls at.row).received ≡ most_received → ReportSays calls kind id count number.count_full
  -- "a full table refuses a new sender with 20"
  table_full : count ≤ 127 → has_sender kind ≡ true → NotHeld calls kind id → FullTable calls → ReportSays calls kind id count number.table_full
  -- "A report of a known sender adds one to received"
  known_sender : count ≤ 127 → has_sender kind ≡ true → (at : Somewhere kind id calls) → (row_after calls at.row).received < most_received → ReportSays calls kind id count number.done
  -- "a new sender takes the lowest free row"
  new_sender : count ≤ 127 → has_sender kind ≡ true → NotHeld calls kind id → FreeRow calls → ReportSays calls kind id count number.done

pub data DropSays (calls : List Call) (kind : ℕ) (id : List ℕ) : ℕ → Type 0 where
  -- "dropping one that isn't held is 28"
  not_held : NotHeld calls kind id → DropSays calls kind id number.not_held
  -- "A sender can be dropped"
  held : Somewhere kind id calls → DropSays calls kind id number.done

below : (n : ℕ) → n ≤ most_received → eqb n most_received ≡ false → n < most_received
below n h e = elim (ℕ_discrete n most_received) [
  | yes q ↦ absurd (eqb-false n most_received e q)
  | no q ↦ omega arith
]

-- ---- a kind without senders

module _ (kind : ℕ) (none : has_sender kind ≡ false) where
  refused : (calls : List Call) (id : List ℕ) (count : ℕ) → (reported (table_after calls) kind id count).number ≡ 0 → ⊥
  unfolding reported
  refused calls id count = go (leb count 127) refl
    where
      go : (b : Bool) → leb count 127 ≡ b → (reported (table_after calls) kind id count).number ≡ 0 → ⊥
      go true e a = let z : ◌≡◌ {A = ℕ} 25 0 = rw (e, none) at a in omega arith
      go false e a = let z : ◌≡◌ {A = ℕ} 4 0 = rw e at a in omega arith

  -- no report of it is accepted
  no_counts : (calls : List Call) (id : List ℕ) → counts_of kind id calls ≡ []
  unfolding counts_of
  no_counts [] id = refl
  no_counts (report ofKind ofId count ∷ calls) id =
      rw (no_counts calls id) (go (eqb (reported (table_after calls) ofKind ofId count).number 0) (is_sender kind id ofKind ofId) refl refl)
    where
      go : (a b : Bool) → eqb (reported (table_after calls) ofKind ofId count).number 0 ≡ a → is_sender kind id ofKind ofId ≡ b → cond a (cond b (count ∷ []) []) [] ≡ []
      go false b e f = refl
      go true false e f = refl
      go true true e f =
          let t = is_that kind id ofKind ofId f in
          absurd (refused calls ofId count (rw t.0 at (eqb-true (reported (table_after calls) ofKind ofId count).number 0 e)))
  no_counts (drop ofKind ofId ∷ calls) id =
      rw (no_counts calls id) (go (eqb (dropped (table_after calls) ofKind ofId).number 0) (is_sender kind id ofKind ofId))
    where
      go : (a b : Bool) → ◌≡◌ {A = List ℕ} (cond a (cond b [] []) []) []
      go false b = refl
      go true false = refl
      go true true = refl

-- ---- a sender that the history has no counts of

unseen : (calls : List Call) (kind : ℕ) (id : List ℕ) (row : ℕ) → row < 32 → counts_of kind id calls ≡ [] → (b : Bool) → holds kind id (row_after calls row) ≡ b → b ≡ false
unseen calls kind id row h none false e = refl
unseen calls kind id row h none true e = apart (rw (row_of_sender calls row h kind id e, none) at e)

pub never_entered : (calls : List Call) (kind : ℕ) (id : List ℕ) → counts_of kind id calls ≡ [] → NotHeld calls kind id
never_entered calls kind id none row h = unseen calls kind id row h none (holds kind id (row_after calls row)) refl

-- ---- the spot

module _ (calls : List Call) (kind : ℕ) (id : List ℕ) where
  abbrev rows : List Sender
  rows = (table_after calls).senders

  long : {row : ℕ} → row < 32 → row < length rows
  long h = omega (arith, (kept calls).long)

  short : {row : ℕ} → row < length rows → row < 32
  short h = omega (arith, (kept calls).long)

  at_known : (at : Somewhere kind id calls) → spot_in rows kind id ≡ Spot.Known at.row
  at_known at =
      let e = spot_known rows no_row kind id at.row (long at.inside) at.there in
      let k = known_at rows no_row kind id (first_at (holds kind id) rows) (sym e) in
      e ∙ ap Spot.Known ((kept calls).once kind id (first_at (holds kind id) rows) at.row (short k.inside) at.inside k.there at.there)

  at_free : NotHeld calls kind id → (f : FreeRow calls) → spot_in rows kind id ≡ Spot.Free (first_at free rows)
  at_free none f = spot_free rows no_row kind id (λ other h. none other (short h)) f.row (long f.inside) f.there

  at_full : NotHeld calls kind id → FullTable calls → spot_in rows kind id ≡ Spot.Full
  at_full none all = spot_full rows no_row kind id (λ other h. none other (short h)) (λ other h. all other (short h))

  abbrev known_there : (row : ℕ) → spot_in rows kind id ≡ Spot.Known row → Somewhere kind id calls
  known_there row e = let k = known_at rows no_row kind id row (sym e) in record { row = row; inside = short k.inside; there = k.there }

  -- ---- a report

  module _ (count : ℕ) where
    abbrev answer : Changed
    answer = answer_to calls (report kind id count)

    module _ (small : count ≤ 127) (sender : has_sender kind ≡ true) where
      by_spot : (spot : Spot) → spot_in rows kind id ≡ spot → answer ≡ at_spot (table_after calls) kind id count spot
      unfolding reported
      by_spot spot e = rw (le-leb count 127 small, sender, e) refl

      by_received : (at : Somewhere kind id calls) (b : Bool) → eqb (row_after calls at.row).received most_received ≡ b → answer.number ≡ cond b number.count_full number.done
      by_received at true e = ap number_of (by_spot (Spot.Known at.row) (at_known at)) ∙ rw e refl
      by_received at false e = ap number_of (by_spot (Spot.Known at.row) (at_known at)) ∙ rw e refl

      judged_known : (row : ℕ) → spot_in rows kind id ≡ Spot.Known row → ReportSays calls kind id count answer.number
      judged_known row e = go (eqb (row_after calls row).received most_received) refl
        where
          at : Somewhere kind id calls
          at = known_there row e

          go : (b : Bool) → eqb (row_after calls row).received most_received ≡ b → ReportSays calls kind id count answer.number
          go true f = rw (by_received at true f) (ReportSays.received_full small sender at (eqb-true _ _ f))
          go false f = rw (by_received at false f) (ReportSays.known_sender small sender at (below (row_after calls row).received (received_bound calls row at.inside) f))

      judged : (spot : Spot) → spot_in rows kind id ≡ spot → ReportSays calls kind id count answer.number
      judged (Spot.Known row) e = judged_known row e
      judged (Spot.Free row) e =
          let f = free_at rows no_row kind id row (sym e) in
          rw (ap number_of (by_spot (Spot.Free row) e))
          (ReportSays.new_sender small sender (λ other h. f.nowhere other (long h)) (record { row = row; inside = short f.inside; there = f.there }))
      judged Spot.Full e =
          let f = full_at rows no_row kind id (sym e) in
          rw (ap number_of (by_spot Spot.Full e)) (ReportSays.table_full small sender (λ other h. f.nowhere other (long h)) (λ other h. f.none_free other (long h)))

    report_says : ReportSays calls kind id count answer.number
    unfolding reported
    report_says = go (leb count 127) (has_sender kind) refl refl
      where
        go : (a b : Bool) → leb count 127 ≡ a → has_sender kind ≡ b → ReportSays calls kind id count answer.number
        go false b e f = rw e (ReportSays.above_127 (leb-false count 127 e))
        go true false e f = rw (e, f) (ReportSays.no_sender (leb-true count 127 e) f)
        go true true e f = judged (leb-true count 127 e) f (spot_in rows kind id) refl

    -- a report answers a number exactly where its sentence holds: where it does,
    pub report_answers_when : (n : ℕ) → ReportSays calls kind id count n → (answer_to calls (report kind id count)).number ≡ n
    unfolding reported
    report_answers_when n (ReportSays.above_127 h) = rw (lt-leb count 127 h) refl
    report_answers_when n (ReportSays.no_sender h f) = rw (le-leb count 127 h, f) refl
    report_answers_when n (ReportSays.received_full h k at e) = by_received h k at true (eq-eqb _ _ e)
    report_answers_when n (ReportSays.known_sender h k at l) = by_received h k at false (ne_eqb (row_after calls at.row).received most_received (λ e. omega arith))
    report_answers_when n (ReportSays.table_full h k none all) = ap number_of (by_spot h k Spot.Full (at_full none all))
    report_answers_when n (ReportSays.new_sender h k none f) = ap number_of (by_spot h k (Spot.Free (first_at free rows)) (at_free none f))

    -- and only there
    pub report_answers_only_when : (n : ℕ) → (answer_to calls (report kind id count)).number ≡ n → ReportSays calls kind id count n
    report_answers_only_when n e = subst (ReportSays calls kind id count) e report_says

  -- ---- a drop

  abbrev drop_answer : Changed
  drop_answer = answer_to calls (drop kind id)

  drop_by_spot : has_sender kind ≡ true → (spot : Spot) → spot_in rows kind id ≡ spot → drop_answer ≡ dropped_at (table_after calls) spot
  unfolding dropped
  drop_by_spot sender spot e = rw (sender, e) refl

  drop_of_none : NotHeld calls kind id → (b : Bool) → has_sender kind ≡ b → (spot : Spot) → spot_in rows kind id ≡ spot → drop_answer.number ≡ number.not_held
  unfolding dropped
  drop_of_none none false k spot e = rw k refl
  drop_of_none none true k (Spot.Known row) e = let at = known_there row e in apart (sym (none row at.inside) ∙ at.there)
  drop_of_none none true k (Spot.Free row) e = ap number_of (drop_by_spot k (Spot.Free row) e)
  drop_of_none none true k Spot.Full e = ap number_of (drop_by_spot k Spot.Full e)

  drop_of_one : (at : Somewhere kind id calls) → (b : Bool) → has_sender kind ≡ b → drop_answer.number ≡ number.done
  drop_of_one at true k = ap number_of (drop_by_spot k (Spot.Known at.row) (at_known at))
  drop_of_one at false k = apart (sym (never_entered calls kind id (no_counts kind k calls id) at.row at.inside) ∙ at.there)

  drop_says : (b : Bool) → has_sender kind ≡ b → (spot : Spot) → spot_in rows kind id ≡ spot → DropSays calls kind id drop_answer.number
  drop_says false k spot e = go (never_entered calls kind id (no_counts kind k calls id))
    where
      go : NotHeld calls kind id → DropSays calls kind id drop_answer.number
      go none = rw (drop_of_none none false k spot e) (DropSays.not_held none)
  drop_says true k (Spot.Known row) e = rw (ap number_of (drop_by_spot k (Spot.Known row) e)) (DropSays.held (known_there row e))
  drop_says true k (Spot.Free row) e =
      rw (ap number_of (drop_by_spot k (Spot.Free row) e)) (DropSays.not_held (λ other h. (free_at rows no_row kind id row (sym e)).nowhere other (long h)))
  drop_says true k Spot.Full e =
      rw (ap number_of (drop_by_spot k Spot.Full e)) (DropSays.not_held (λ other h. (full_at rows no_row kind id (sym e)).nowhere other (long h)))

  -- a drop, the same: a kind without senders has none that is held
  pub drop_answers_when : (n : ℕ) → DropSays calls kind id n → (answer_to calls (drop kind id)).number ≡ n
  drop_answers_when n (DropSays.not_held none) = drop_of_none none (has_sender kind) refl (spot_in rows kind id) refl
  drop_answers_when n (DropSays.held at) = drop_of_one at (has_sender kind) refl

  pub drop_answers_only_when : (n : ℕ) → (answer_to calls (drop kind id)).number ≡ n → DropSays calls kind id n
  drop_answers_only_when n e = subst (DropSays calls kind id) e (drop_says (has_sender kind) refl (spot_in rows kind id) refl)
