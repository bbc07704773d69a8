-- What the code answers in place of a number and a place: which rule is broken, if any, and by which entry.
use Rattle.std.specs.Prelude.{ℕ, ◌≡◌, List, Option, Some, None, Result, Ok, Err, ℤ}
use Rattle.answers.specs.Reasons.{reason_number}
use Rattle.answers.specs.declared.reasons.Reason.{Reason}
use Rattle.meaning.specs.Values.{Value, Parts}
use Rattle.sheet.specs.Values.{parts_of}
use Rattle.sheet.specs.Standing.{Stands}
use Rattle.sheet.specs.declared.Listing.{Listing}
use Rattle.rules.specs.Rsi.{ruling, passes}
use Rattle.rules.specs.declared.Breach.{Breach}
use Rattle.rules.specs.Ruling.{Ruling}

abbrev pub breach : Reason → ℕ → Breach
breach reason place = record { reason = reason; place = place }

-- the number of the rule that is broken; 0 where none is
unfoldable pub broken : Option Reason → ℕ
broken (Some reason) = reason_number reason
broken None = 0

-- the ruling that an answer tells
unfoldable pub told : Result (Unit {0}) Breach → Ruling
told (Ok done) = passes
told (Err breach) = ruling (reason_number breach.reason) breach.place

-- what a check answers that looks for the first breach: that all is well where there is none
unfoldable pub checked : Option Breach → Result (Unit {0}) Breach
checked None = Ok tt
checked (Some breach) = Err breach

-- what a call answers of the place of an entry is the rule that this entry breaks, told by its number
abbrev pub Judges : (ℕ → Option Reason → Type 0) → List ℤ → Listing → ℕ → (Parts → ℕ) → Type 0
Judges answers cells list row rule = (place : ℕ) (v : Value) (reason : Option Reason) → list.row ≡ row → Stands cells row place v → answers place reason → broken reason ≡ rule (parts_of v)
