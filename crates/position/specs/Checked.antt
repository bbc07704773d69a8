-- What the answers say: the number of document 01, Numbers given back, with the values that go with it.
use Rattle.std.specs.Prelude.{ℕ, ℤ, pos, Result, Ok, Err}
use Rattle.answers.specs.Reasons.{reason_number}
use Rattle.answers.specs.declared.reasons.Reason.{Reason}
use Rattle.position.specs.declared.Place.{Place}

-- the resolver's answer: a number of document 01, and the coordinates, which are 0 with any number but 0
pub record Resolved : Type 0 where
  pub number : ℕ
  pub latitude : ℤ
  pub longitude : ℤ

-- document 01, Positions and counts: "A refusal gives zeros for both coordinates"
abbrev pub refusal : ℕ → Resolved
refusal n = record { number = n; latitude = pos 0; longitude = pos 0 }

-- document 01, Numbers given back: 0 is done
abbrev pub success : ℤ → ℤ → Resolved
success latitude longitude = record { number = 0; latitude = latitude; longitude = longitude }

-- what an answer tells: the place that it gives, or why it was refused
abbrev pub told : Result Place Reason → Resolved
told (Ok place) = success place.latitude place.longitude
told (Err why) = refusal (reason_number why)
