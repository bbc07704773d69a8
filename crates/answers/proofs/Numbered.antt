-- Laws of reasons and their numbers.
use Rattle.std.proofs.Common.{◌≡◌, ℕ, ◌+◌, ◌<◌, ◌≤◌, List, [], ◌∷◌, length, get_or, drop, Option, Some, None, refl, arith, drop-cons, add-one}
use Rattle.std.proofs.lemmas.List.{drop_all}
use mathlib.Core.Path.{sym, subst, ap, ◌∙◌}
use mathlib.Core.Bool.{Bool, true, false, cond}
use lib.Dec.{T, eqb, eqb→eq}
use borrow.Author.Tests.{eq-eqb, ne_eqb}
use Rattle.answers.specs.Reasons.{reason_number, first_with, reason_with}
use Rattle.answers.specs.GivenBack as number
use Rattle.answers.specs.declared.reasons.Reason.{Reason}
use Rattle.answers.specs.declared.reasons.Reason.TheVariants as reason

module _ (number : ℕ) (reasons : List Reason) (i : ℕ) (default : Reason) (there : i < length reasons) where
  -- the one at a place is told by the number
  pub first_here : reason_number (get_or reasons i default) ≡ number → first_with number (drop i reasons) ≡ Some (get_or reasons i default)
  unfolding first_with
  first_here e = rw (drop-cons reasons i default there, eq-eqb _ _ e) refl

  -- it is not
  pub first_further : ¬ (reason_number (get_or reasons i default) ≡ number) → first_with number (drop i reasons) ≡ first_with number (drop (i + 1) reasons)
  unfolding first_with
  first_further n = rw (drop-cons reasons i default there, ne_eqb _ _ n, add-one) refl

-- behind the last one is none
pub first_nowhere : (number : ℕ) (reasons : List Reason) (i : ℕ) → length reasons ≤ i → first_with number (drop i reasons) ≡ None
unfolding first_with
first_nowhere number reasons i h = rw (drop_all i reasons h) refl

-- one that is found is told by the number
pub first_with_number : (number : ℕ) (reasons : List Reason) (one : Reason) → first_with number reasons ≡ Some one → reason_number one ≡ number
unfolding first_with
first_with_number number [] one e = absurd (let z : ◌≡◌ {A = ℕ} 0 1 = cc in omega arith)
first_with_number number (other ∷ more) one e = go (first_with_number number more one) (eqb (reason_number other) number) refl e
  where
    go : (first_with number more ≡ Some one → reason_number one ≡ number) → (b : Bool) → eqb (reason_number other) number ≡ b → cond b (Some other) (first_with number more) ≡ Some one → reason_number one ≡ number
    go later true is found = let same : other ≡ one = cc in rw (← same) (eqb→eq (reason_number other) number (subst T (sym is) tt))
    go later false is found = later found

-- a reason is found by its number
pub reason_found : (one : Reason) → reason_with (reason_number one) ≡ Some one
unfolding first_with
reason_found reason.TooLong = refl
reason_found reason.UnknownType = refl
reason_found reason.Short = refl
reason_found reason.Outside = refl
reason_found reason.Extended = refl
reason_found reason.SpareBits = refl
reason_found reason.NoValue = refl
reason_found reason.LeavesItsRange = refl
reason_found reason.NoInformation = refl
reason_found reason.NoRsi = refl
reason_found reason.EventPosition = refl
reason_found reason.EventReach = refl
reason_found reason.SignPosition = refl
reason_found reason.SignDescription = refl
reason_found reason.SignReach = refl
reason_found reason.TableFull = refl
reason_found reason.CountFull = refl
reason_found reason.NoRsm = refl
reason_found reason.RepeatedId = refl
reason_found reason.UnitMissing = refl
reason_found reason.NoSender = refl
reason_found reason.UnknownEdition = refl
reason_found reason.NotShortest = refl
reason_found reason.NotHeld = refl
reason_found reason.UnknownParty = refl
reason_found reason.FieldMissing = refl
reason_found reason.NumberOutside = refl
reason_found reason.ItemOutside = refl
reason_found reason.AlternativeOutside = refl
reason_found reason.SizeOutside = refl
reason_found reason.NoSpatAndMap = refl
reason_found reason.RepeatedSignal = refl
reason_found reason.PhaseNotListed = refl
reason_found reason.RecordCut = refl
reason_found reason.NumberNotShortest = refl
reason_found reason.EntryNotOnce = refl
reason_found reason.WrongMessage = refl
reason_found reason.EntryTooLong = refl

-- every number is below this one
pub reason_small : (one : Reason) → reason_number one < 128
reason_small reason.TooLong = omega arith
reason_small reason.UnknownType = omega arith
reason_small reason.Short = omega arith
reason_small reason.Outside = omega arith
reason_small reason.Extended = omega arith
reason_small reason.SpareBits = omega arith
reason_small reason.NoValue = omega arith
reason_small reason.LeavesItsRange = omega arith
reason_small reason.NoInformation = omega arith
reason_small reason.NoRsi = omega arith
reason_small reason.EventPosition = omega arith
reason_small reason.EventReach = omega arith
reason_small reason.SignPosition = omega arith
reason_small reason.SignDescription = omega arith
reason_small reason.SignReach = omega arith
reason_small reason.TableFull = omega arith
reason_small reason.CountFull = omega arith
reason_small reason.NoRsm = omega arith
reason_small reason.RepeatedId = omega arith
reason_small reason.UnitMissing = omega arith
reason_small reason.NoSender = omega arith
reason_small reason.UnknownEdition = omega arith
reason_small reason.NotShortest = omega arith
reason_small reason.NotHeld = omega arith
reason_small reason.UnknownParty = omega arith
reason_small reason.FieldMissing = omega arith
reason_small reason.NumberOutside = omega arith
reason_small reason.ItemOutside = omega arith
reason_small reason.AlternativeOutside = omega arith
reason_small reason.SizeOutside = omega arith
reason_small reason.NoSpatAndMap = omega arith
reason_small reason.RepeatedSignal = omega arith
reason_small reason.PhaseNotListed = omega arith
reason_small reason.RecordCut = omega arith
reason_small reason.NumberNotShortest = omega arith
reason_small reason.EntryNotOnce = omega arith
reason_small reason.WrongMessage = omega arith
reason_small reason.EntryTooLong = omega arith

-- none is 0
pub reason_positive : (one : Reason) → 0 < reason_number one
reason_positive reason.TooLong = omega arith
reason_positive reason.UnknownType = omega arith
reason_positive reason.Short = omega arith
reason_positive reason.Outside = omega arith
reason_positive reason.Extended = omega arith
reason_positive reason.SpareBits = omega arith
reason_positive reason.NoValue = omega arith
reason_positive reason.LeavesItsRange = omega arith
reason_positive reason.NoInformation = omega arith
reason_positive reason.NoRsi = omega arith
reason_positive reason.EventPosition = omega arith
reason_positive reason.EventReach = omega arith
reason_positive reason.SignPosition = omega arith
reason_positive reason.SignDescription = omega arith
reason_positive reason.SignReach = omega arith
reason_positive reason.TableFull = omega arith
reason_positive reason.CountFull = omega arith
reason_positive reason.NoRsm = omega arith
reason_positive reason.RepeatedId = omega arith
reason_positive reason.UnitMissing = omega arith
reason_positive reason.NoSender = omega arith
reason_positive reason.UnknownEdition = omega arith
reason_positive reason.NotShortest = omega arith
reason_positive reason.NotHeld = omega arith
reason_positive reason.UnknownParty = omega arith
reason_positive reason.FieldMissing = omega arith
reason_positive reason.NumberOutside = omega arith
reason_positive reason.ItemOutside = omega arith
reason_positive reason.AlternativeOutside = omega arith
reason_positive reason.SizeOutside = omega arith
reason_positive reason.NoSpatAndMap = omega arith
reason_positive reason.RepeatedSignal = omega arith
reason_positive reason.PhaseNotListed = omega arith
reason_positive reason.RecordCut = omega arith
reason_positive reason.NumberNotShortest = omega arith
reason_positive reason.EntryNotOnce = omega arith
reason_positive reason.WrongMessage = omega arith
reason_positive reason.EntryTooLong = omega arith

pub told_done : (why : Reason) → ¬ (reason_number why ≡ number.done)
told_done why e = omega (arith, reason_positive why)

pub never_done : (why : Reason) → eqb (reason_number why) number.done ≡ false
never_done why = ne_eqb (reason_number why) number.done (told_done why)

-- each has a number of its own
pub numbers_differ : (why other : Reason) → reason_number why ≡ reason_number other → why ≡ other
numbers_differ why other e =
    let same : ◌≡◌ {A = Option Reason} (Some why) (Some other) = sym (reason_found why) ∙ ap reason_with e ∙ reason_found other in
    cc
