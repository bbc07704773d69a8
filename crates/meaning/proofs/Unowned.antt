-- Writing tells no row: it is the same whichever row a field, a choice or a list belongs to.
-- Assumes nothing.
use Prim.Native.Nat.{ℕ, zero, suc}
use mathlib.Core.Path.{◌≡◌, refl}
use mathlib.Core.List.{List}
use lib.IntN.{ℤ}
use Rattle.answers.specs.declared.reasons.Reason.{Reason}
use Rattle.types.specs.Shape.{Ty, Alts, field, told}
use Rattle.types.specs.Shape.Ty.{num, choice, list}
use Rattle.meaning.specs.Walk.{walk}
use Rattle.meaning.specs.Writing.{write_whole, write}

-- as a step, for the size of a list and for its items
pub field_unowned : (why : Reason) (row : ℕ) (lowest : ℤ) (span : ℕ) → write_whole (told why row (field lowest span)) ≡ write_whole (field lowest span)
unfolding write_whole
field_unowned why row lowest span = refl

pub step_unowned : (why : Reason) (row : ℕ) (lowest : ℤ) (span : ℕ) → write (num (told why row (field lowest span))) ≡ write (num (field lowest span))
unfolding walk write_whole
step_unowned why row lowest span = refl

module _ (cells : List ℤ) (k : ℕ) where
  pub whole_unowned : (why : Reason) (row : ℕ) (lowest : ℤ) (span : ℕ) → write_whole (told why row (field lowest span)) cells k ≡ write_whole (field lowest span) cells k
  unfolding write_whole
  whole_unowned why row lowest span = refl

  pub number_unowned : (why : Reason) (row : ℕ) (lowest : ℤ) (span : ℕ) → write (num (told why row (field lowest span))) cells k ≡ write (num (field lowest span)) cells k
  unfolding walk write_whole
  number_unowned why row lowest span = refl

  pub choice_unowned : (row : ℕ) (alts : Alts) → write (choice row alts) cells k ≡ write (choice 0 alts) cells k
  unfolding walk write_whole
  choice_unowned row alts = refl

  pub list_unowned : (row least more : ℕ) (t : Ty) → write (list row least more t) cells k ≡ write (list 0 least more t) cells k
  unfolding walk write_whole
  list_unowned row least zero t = refl
  list_unowned row least (suc more) t = refl

  -- a list of whole numbers, as the strings of a Description are
  pub items_unowned : (row least more : ℕ) (why : Reason) (owner : ℕ) (lowest : ℤ) (span : ℕ) → write (list row least more (num (told why owner (field lowest span)))) cells k ≡ write (list 0 least more (num (field lowest span))) cells k
  unfolding walk write_whole
  items_unowned row least zero why owner lowest span = refl
  items_unowned row least (suc more) why owner lowest span = refl
