-- What the private functions of the crate answer: how often entries stand, and whether a message is good by the sizes of its entries.
use Rattle.std.specs.Prelude.{ℕ, zero, suc, ◌+◌, ◌<◌, ◌≤◌, min, ◌≡◌, Bool, true, false, cond, not, ◌&&◌, List, [], ◌∷◌, Option, Some, None, ℤ, eqb, leb, length, get_or}
use Rattle.basics.specs.Lists.{natural}
use Rattle.bits.specs.Bytes.{octets_for}
use Rattle.messages.specs.Repeats.{repeated, nowhere}
use Rattle.packing.specs.Entries.{most_in}
use Rattle.packing.specs.Sizes.{stop}
use Rattle.plans.specs.Planner.{numbers_from, first_too_long}
use Rattle.plans.specs.Plans.{Plan, plan, no_plan, plan_of, often, often_in, first_not_once, is_in_order, is_empty}

-- cells are the plan of these messages
abbrev pub IsPlan : List ℤ → List (List ℤ) → Type 0
IsPlan cells messages = plan_of cells ≡ plan messages

-- no entry was counted more than twice
abbrev pub Twice : ℕ → List ℕ → Type 0
Twice count times = (i : ℕ) → i < count → get_or times i 0 ≤ 2

-- entry i was counted once more, up to 2, if it is one of so many, and no other
pub record Counted (i count : ℕ) (before after : List ℕ) : Type 0 where
  pub same : length after ≡ length before
  pub all : (j : ℕ) → j < count → get_or after j 0 ≡ min (get_or before j 0 + cond (eqb i j) 1 0) 2

-- behind these numbers each of so many entries was counted as often as it stands among them besides, up to 2
pub record CountedAll (cells : List ℤ) (count : ℕ) (before after : List ℕ) : Type 0 where
  pub same : length after ≡ length before
  pub all : (j : ℕ) → j < count → get_or after j 0 ≡ min (get_or before j 0 + often j cells) 2

-- whether a plan is of its form, and how often each entry stands in it: 2 where more than once
abbrev pub Tallied : Plan → ℕ → List ℕ → Bool → Type 0
Tallied (plan messages) count times r = (r ≡ true) × ((i : ℕ) → i < count → get_or times i 0 ≡ min (often_in i messages) 2)
Tallied no_plan count times r = r ≡ false

-- entries that were counted so, up to 2
abbrev pub Tally : List (List ℤ) → ℕ → List ℕ → Type 0
Tally messages count times = (i : ℕ) → i < count → get_or times i 0 ≡ min (often_in i messages) 2

-- the first entry that does not stand once, if there is one
abbrev pub FirstOf : List (List ℤ) → ℕ → Option ℕ → Type 0
FirstOf messages count (Some i) = first_not_once 0 count messages ≡ repeated i
FirstOf messages count None = first_not_once 0 count messages ≡ nowhere

-- the sizes of the entries that these numbers name, added up
unfoldable pub summed : List ℕ → List ℤ → ℕ
summed sizes [] = 0
summed sizes (cell ∷ cells) = get_or sizes (natural cell) 0 + summed sizes cells

-- a message is good by the sizes of so many entries, with so many bits besides
unfoldable pub good_by : Bool → ℕ → List ℕ → ℕ → ℕ → List ℤ → Bool
good_by signs count sizes base limit cells =
    not (is_empty cells) && is_in_order count 0 cells && leb (length cells) (most_in signs) && leb (octets_for (base + summed sizes cells)) limit

-- no size is above the one where they stop
abbrev pub Stopped : ℕ → List ℕ → Type 0
Stopped count sizes = (i : ℕ) → i < count → get_or sizes i 0 ≤ stop

-- ---- of the planner

-- the first entry that is no good message alone, if there is one
abbrev pub FirstLong : (List ℤ → Bool) → ℕ → Option ℕ → Type 0
FirstLong good count (Some i) = first_too_long good 0 count ≡ repeated i
FirstLong good count None = first_too_long good 0 count ≡ nowhere

-- each of so many entries is a good message alone
abbrev pub Alone : (List ℤ → Bool) → ℕ → Type 0
Alone good count = (i : ℕ) → i < count → good (numbers_from i 1) ≡ true

-- how many of so many entries that are left go into the message that has so many from `from` on
unfoldable pub most_from : (List ℤ → Bool) → ℕ → ℕ → ℕ → ℕ
most_from good from held zero = held
most_from good from held (suc left) = cond (good (numbers_from from (suc held))) (most_from good from (suc held) left) held
