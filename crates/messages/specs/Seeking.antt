-- The first entry of a list of which something is told.
use Rattle.std.specs.Prelude.{ℕ, suc, ◌≡◌, List, Option, Some, None, ℤ}
use Rattle.meaning.specs.Values.{Value, Values}
use Rattle.meaning.specs.Values.Values.{no_items, item}
use Rattle.sheet.specs.Standing.{Stands}
use Rattle.sheet.specs.declared.Listing.{Listing}

-- what was asked of the entries of a listing, each at its place: `answers` says what of a place. Nothing was told of each entry, up to the first of which
-- something was told, which is named by its index, counted from i; or up to the end
pub data Sought {T : Type 0} (answers : ℕ → Option T → Type 0) (cells : List ℤ) (list : Listing) (row : ℕ) : ℕ → Values → Option (ℕ × T) → Type 0 where
  at_end : {i : ℕ} → Sought answers cells list row i no_items None
  told_here : {i place : ℕ} {v : Value} {more : Values} {said : T} → list.row ≡ row → Stands cells row place v → answers place (Some said)
      → Sought answers cells list row i (item v more) (Some (i, said))
  told_later : {i place : ℕ} {v : Value} {more : Values} {told : Option (ℕ × T)} → list.row ≡ row → Stands cells row place v → answers place None
      → Sought answers cells list row (suc i) more told → Sought answers cells list row i (item v more) told
