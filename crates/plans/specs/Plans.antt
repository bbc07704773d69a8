-- Plans for entries of RSI messages (document 02, A9): which entry goes into which message, and which plans are good. The form of the input is that of
-- docs/PLANS.md.
use Rattle.std.specs.Prelude.{ℕ, zero, suc, ◌+◌, Bool, true, false, cond, not, ◌&&◌, List, [], ◌∷◌, ℤ, pos, negsuc, length, get_or, take, drop, eqb, leb, ltb}
use Rattle.basics.specs.Lists.{natural}
use Rattle.answers.specs.GivenBack as given
use Rattle.messages.specs.Message.{message_in}
use Rattle.messages.specs.Repeats.{Repeat, repeated, nowhere, or_else}
use Rattle.rules.specs.Rsi.{ruling, passes}
use Rattle.rules.specs.Ruling.{Ruling}
use Rattle.packing.specs.Entries.{header_in, Pieces, pieces, no_pieces, entries_of, most_in}
use Rattle.packing.specs.Message.{message_octets}

-- ---- the plan: a cell with the count of messages, then for each a cell with its count of entries and their numbers, and nothing behind

pub data Plan : Type 0 where
  plan : List (List ℤ) → Plan  -- of each message the numbers of its entries, which may be any cells
  no_plan : Plan

unfoldable pub with_message : List ℤ → Plan → Plan
with_message cells (plan more) = plan (cells ∷ more)
with_message cells no_plan = no_plan

unfoldable pub messages_from : ℕ → List ℤ → Plan
messages_from zero [] = plan []
messages_from zero (cell ∷ cells) = no_plan
messages_from (suc m) [] = no_plan
messages_from (suc m) (pos n ∷ cells) = cond (leb n (length cells)) (with_message (take n cells) (messages_from m (drop n cells))) no_plan
messages_from (suc m) (negsuc n ∷ cells) = no_plan

unfoldable pub plan_of : List ℤ → Plan
plan_of [] = no_plan
plan_of (pos m ∷ cells) = messages_from m cells
plan_of (negsuc m ∷ cells) = no_plan

-- ---- "70 and the first entry not standing exactly once"

unfoldable pub is_entry : ℕ → ℤ → Bool
is_entry i (pos n) = eqb n i
is_entry i (negsuc n) = false

-- how often an entry stands among these numbers, and in these messages
unfoldable pub often : ℕ → List ℤ → ℕ
often i [] = 0
often i (cell ∷ cells) = cond (is_entry i cell) (suc (often i cells)) (often i cells)

unfoldable pub often_in : ℕ → List (List ℤ) → ℕ
often_in i [] = 0
often_in i (cells ∷ more) = often i cells + often_in i more

-- the first of so many entries, counted from i, that does not stand once
unfoldable pub first_not_once : ℕ → ℕ → List (List ℤ) → Repeat
first_not_once i zero messages = nowhere
first_not_once i (suc n) messages = cond (eqb (often_in i messages) 1) (first_not_once (suc i) n messages) (repeated i)

-- ---- "71 and the first message that is empty, names an entry not there, is out of order, too full or too long"

-- all are entries that are there, in order: each above the one before it
unfoldable pub is_in_order : ℕ → ℕ → List ℤ → Bool
is_in_order n least [] = true
is_in_order n least (pos i ∷ cells) = ltb i n && leb least i && is_in_order n (suc i) cells
is_in_order n least (negsuc i ∷ cells) = false

unfoldable pub is_empty : List ℤ → Bool
is_empty [] = true
is_empty (cell ∷ cells) = false

-- the cells of the entries that these numbers name
unfoldable pub named : List (List ℤ) → List ℤ → List (List ℤ)
named entries [] = []
named entries (cell ∷ cells) = get_or entries (natural cell) [] ∷ named entries cells

unfoldable pub good_message : Bool → List ℤ → List (List ℤ) → ℕ → List ℤ → Bool
good_message signs header entries limit cells =
    not (is_empty cells) && is_in_order (length entries) 0 cells && leb (length cells) (most_in signs) && leb (message_octets signs header (named entries cells)) limit

unfoldable pub first_bad : (List ℤ → Bool) → ℕ → List (List ℤ) → Repeat
first_bad good m [] = nowhere
first_bad good m (cells ∷ more) = cond (good cells) (first_bad good (suc m) more) (repeated m)

-- ---- the check: 7, 4, 70, 71

unfoldable pub plan_ruling : Bool → List ℤ → List (List ℤ) → List (List ℤ) → ℕ → Ruling
plan_ruling signs header entries messages limit =
    or_else (ruling given.entry_not_once) (first_not_once 0 (length entries) messages)
    (or_else (ruling given.wrong_message) (first_bad (good_message signs header entries limit) 0 messages) passes)

-- a limit of 1 to 2,048 bytes
unfoldable pub is_limit : ℕ → Bool
is_limit limit = leb 1 limit && leb limit 2048

unfoldable pub formed : Bool → List ℤ → Pieces → Plan → ℕ → Ruling
formed signs header (pieces entries) (plan messages) limit = cond (is_limit limit) (plan_ruling signs header entries messages limit) (ruling given.outside 0)
formed signs header (pieces entries) no_plan limit = ruling given.no_value 0
formed signs header no_pieces p limit = ruling given.no_value 0

-- kind 0 is events, 1 signs
unfoldable pub plan_checked : ℕ → List ℤ → List ℤ → List ℤ → ℕ → Ruling
plan_checked kind header entries cells limit =
    cond (ltb kind 2 && header_in (message_in header)) (formed (eqb kind 1) header (entries_of (eqb kind 1) entries) (plan_of cells) limit) (ruling given.no_value 0)
