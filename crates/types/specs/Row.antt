-- A row of a type table: six numbers, and what a row of each kind holds.
use Rattle.std.specs.Prelude.{ℕ, ◌-◌, ℤ, pos, neg_ℤ, ◌-ℤ◌}
use Rattle.basics.specs.Lists.{natural}
use Rattle.types.specs.Kinds as kinds

pub record Row : Type 0 where
  pub kind : ℕ  -- a number of Kinds
  pub mark : ℕ  -- 1 where it is extensible and its extension bit gives no cell, 2 where it gives one (edition 2); of a component, 1 where it is OPTIONAL
  pub lowest : ℤ  -- the lowest value, index or size
  pub highest : ℤ  -- the highest; of a sequence, how many additions it has
  pub first : ℕ  -- the row of the first component or alternative, behind which stand the additions; of a list its item, of a component or an open value its type
  pub count : ℕ  -- how many components a sequence has, additions a choice, open values a selector; of an open value, its number

abbrev pub minus : ℕ → ℤ
minus n = neg_ℤ (pos n)

-- highest minus lowest
abbrev pub span_of : Row → ℕ
span_of r = natural (r.highest -ℤ r.lowest)

abbrev pub integer : ℤ → ℤ → Row
integer lowest highest = record { kind = kinds.whole_number; mark = 0; lowest = lowest; highest = highest; first = 0; count = 0 }

-- with so many items
abbrev pub enumerated : ℕ → Row
enumerated items = record { kind = kinds.enumeration; mark = 0; lowest = pos 0; highest = pos (items - 1); first = 0; count = 0 }

-- so many components from a row on
abbrev pub sequence : ℕ → ℕ → Row
sequence first count = record { kind = kinds.sequence; mark = 0; lowest = pos 0; highest = pos 0; first = first; count = count }

-- so many alternatives from a row on
abbrev pub choice : ℕ → ℕ → Row
choice first count = record { kind = kinds.choice; mark = 0; lowest = pos 0; highest = pos (count - 1); first = first; count = 0 }

-- least and most items, and the item's row
abbrev pub list : ℕ → ℕ → ℕ → Row
list least most item = record { kind = kinds.list; mark = 0; lowest = pos least; highest = pos most; first = item; count = 0 }

-- a component that is always there, or an alternative, with its type's row
abbrev pub must : ℕ → Row
must type = record { kind = kinds.component; mark = 0; lowest = pos 0; highest = pos 0; first = type; count = 0 }

-- a component that is OPTIONAL, with its type's row
abbrev pub may : ℕ → Row
may type = record { kind = kinds.component; mark = 1; lowest = pos 0; highest = pos 0; first = type; count = 0 }

abbrev pub extensible : Row → Row
extensible r = record { kind = r.kind; mark = 1; lowest = r.lowest; highest = r.highest; first = r.first; count = r.count }

-- ---- edition 2: an extension bit that gives a cell, and open values

-- with so many components and behind them so many additions, from a row on
abbrev pub extended_sequence : ℕ → ℕ → ℕ → Row
extended_sequence first count additions = record { kind = kinds.sequence; mark = 2; lowest = pos 0; highest = pos additions; first = first; count = count }

-- with so many alternatives and behind them so many additions, from a row on
abbrev pub extended_choice : ℕ → ℕ → ℕ → Row
extended_choice first count additions = record { kind = kinds.choice; mark = 2; lowest = pos 0; highest = pos (count - 1); first = first; count = additions }

-- with so many root items; all others are unknown
abbrev pub extended_enumeration : ℕ → Row
extended_enumeration items = record { kind = kinds.enumeration; mark = 2; lowest = pos 0; highest = pos (items - 1); first = 0; count = 0 }

-- a number, and so many open values of known types from a row on, among which it chooses
abbrev pub selecting : ℤ → ℤ → ℕ → ℕ → Row
selecting lowest highest first count = record { kind = kinds.selector; mark = 0; lowest = lowest; highest = highest; first = first; count = count }

-- the open value of a number: an addition, counted from 0, or one that is chosen
abbrev pub known : ℕ → ℕ → Row
known number type = record { kind = kinds.known; mark = 0; lowest = pos 0; highest = pos 0; first = type; count = number }
