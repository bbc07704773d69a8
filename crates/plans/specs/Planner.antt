-- The planner (document 02, A9: "a simple planner that fills messages in order"): which entry it puts into which message, and what it answers.
use Rattle.std.specs.Prelude.{ℕ, zero, suc, ◌+◌, Bool, cond, ◌&&◌, List, [], ◌∷◌, ◌++◌, ℤ, pos, length, eqb, leb, ltb}
use Rattle.answers.specs.Answers.{done, refused_by, no_room, lent_after}
use Rattle.answers.specs.Refusals.{refusal}
use Rattle.answers.specs.declared.Answer.{Answer}
use Rattle.answers.specs.declared.Refusal.{Refusal}
use Rattle.messages.specs.Message.{message_in}
use Rattle.messages.specs.Repeats.{Repeat, repeated, nowhere, or_else}
use Rattle.packing.specs.Entries.{header_in, Pieces, pieces, no_pieces, entries_of}
use Rattle.plans.specs.Plans.{good_message, is_limit}
use Rattle.answers.specs.declared.reasons.Reason.TheVariants as reason

-- ---- the messages

-- the numbers of so many entries, from i on
unfoldable pub numbers_from : ℕ → ℕ → List ℤ
numbers_from i zero = []
numbers_from i (suc n) = pos i ∷ numbers_from (suc i) n

-- the open message has so many entries, those from `from` on, and `left` entries are behind them: the next one goes into it where it makes a good message of it,
-- and else begins another
unfoldable pub packed : (List ℤ → Bool) → ℕ → ℕ → ℕ → List (List ℤ)
packed good from held zero = cond (eqb held 0) [] (numbers_from from held ∷ [])
packed good from held (suc left) =
    cond (good (numbers_from from (suc held))) (packed good from (suc held) left) (numbers_from from held ∷ packed good (from + held) 1 left)

-- the first of so many entries, counted from i, that is no good message alone
unfoldable pub first_too_long : (List ℤ → Bool) → ℕ → ℕ → Repeat
first_too_long good i zero = nowhere
first_too_long good i (suc n) = cond (good (numbers_from i 1)) (first_too_long good (suc i) n) (repeated i)

-- ---- what is planned: 7, 4, 72 for "no plan", else the messages

pub data Made : Type 0 where
  made : List (List ℤ) → Made
  not_made : Refusal → Made

-- 72 with the entry
abbrev pub no_plan : ℕ → Made
no_plan i = not_made (refusal reason.EntryTooLong i)

unfoldable pub planned_by : Bool → List ℤ → ℕ → Pieces → Made
planned_by signs header limit (pieces entries) =
    cond (is_limit limit)
    (or_else no_plan (first_too_long (good_message signs header entries limit) 0 (length entries)) (made (packed (good_message signs header entries limit) 0 0 (length entries))))
    (not_made (refusal reason.Outside 0))
planned_by signs header limit no_pieces = not_made (refusal reason.NoValue 0)

unfoldable pub planned : ℕ → List ℤ → List ℤ → ℕ → Made
planned kind header entries limit =
    cond (ltb kind 2 && header_in (message_in header)) (planned_by (eqb kind 1) header limit (entries_of (eqb kind 1) entries)) (not_made (refusal reason.NoValue 0))

-- ---- the cells of a plan: the count of messages, and of each the count of its entries and their numbers

unfoldable pub message_cells : List (List ℤ) → List ℤ
message_cells [] = []
message_cells (cells ∷ more) = pos (length cells) ∷ (cells ++ message_cells more)

unfoldable pub plan_cells : List (List ℤ) → List ℤ
plan_cells messages = pos (length messages) ∷ message_cells messages

unfoldable pub cells_of : Made → List ℤ
cells_of (made messages) = plan_cells messages
cells_of (not_made why) = []

-- ---- the answer, where so many cells are lent; and the lent cells after it

unfoldable pub made_answer : Made → ℕ → Answer
made_answer (made messages) room = cond (leb (length (plan_cells messages)) room) (done 0 (length (plan_cells messages))) (no_room (length (plan_cells messages)))
made_answer (not_made why) room = refused_by why

unfoldable pub plan_answer : ℕ → List ℤ → List ℤ → ℕ → List ℤ → Answer
plan_answer kind header entries limit lent = made_answer (planned kind header entries limit) (length lent)

unfoldable pub plan_after : ℕ → List ℤ → List ℤ → ℕ → List ℤ → List ℤ
plan_after kind header entries limit lent = lent_after (plan_answer kind header entries limit lent) (cells_of (planned kind header entries limit)) lent
