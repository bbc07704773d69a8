-- Questions about a value: which component is there and what it is, which alternative was chosen, and which entries a list has.
use Rattle.std.specs.Prelude.{ℕ, zero, suc, Bool, true, false}
use Rattle.meaning.specs.Values.{Value, Parts, Values}
use Rattle.meaning.specs.Values.Value.{whole, sequence, chosen, items, beyond, extended, added, picked, kept}
use Rattle.meaning.specs.Values.Parts.{finished, absent, there}
use Rattle.meaning.specs.Values.Values.{no_items}

-- component k of a sequence is there, counted from 0 in written order
unfoldable pub has : ℕ → Parts → Bool
has k finished = false
has zero (absent more) = false
has zero (there v more) = true
has (suc k) (absent more) = has k more
has (suc k) (there v more) = has k more

-- component k of a sequence, where it is there; else a sequence of no components
unfoldable pub part : ℕ → Parts → Value
part k finished = sequence finished
part zero (absent more) = sequence finished
part zero (there v more) = v
part (suc k) (absent more) = part k more
part (suc k) (there v more) = part k more

-- the components of a sequence; the values of edition 2 alone, which stand in no sheet of edition 1, have none
unfoldable pub parts_of : Value → Parts
parts_of (whole n) = finished
parts_of (sequence parts) = parts
parts_of (chosen n v) = finished
parts_of (items vs) = finished
parts_of (beyond n) = finished
parts_of (extended parts more) = finished
parts_of (added n v) = finished
parts_of (picked n v) = finished
parts_of (kept vs) = finished

-- the items of a list, and none of a value of edition 2 alone
unfoldable pub items_of : Value → Values
items_of (whole n) = no_items
items_of (sequence parts) = no_items
items_of (chosen n v) = no_items
items_of (items vs) = vs
items_of (beyond n) = no_items
items_of (extended parts more) = no_items
items_of (added n v) = no_items
items_of (picked n v) = no_items
items_of (kept vs) = no_items

-- the entries of component k, which is a list: none where it is absent
unfoldable pub entries : ℕ → Parts → Values
entries k parts = items_of (part k parts)
