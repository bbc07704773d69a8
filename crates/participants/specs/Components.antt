-- The components that the RSM sending profile names, counted from 0 in written order (source 000). crates/participants/src/lib.rt has the same names for
-- the code.
use Rattle.std.specs.Prelude.{ℕ}

-- of RoadsideSafetyMessage (5.2.2.4)
abbrev pub participants : ℕ
participants = 3

-- of ParticipantData (5.2.3.23)
abbrev pub ptc_id : ℕ
ptc_id = 1

abbrev pub vehicle_class : ℕ
vehicle_class = 14
