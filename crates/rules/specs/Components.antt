-- The components that the rules name, counted from 0 in written order (source 000). crates/rules/src/lib.rt has the same names for the code.
use Rattle.std.specs.Prelude.{ℕ}

-- the lists of RoadSideInformation (5.2.2.3)
abbrev pub rtes : ℕ
rtes = 4

abbrev pub rtss : ℕ
rtss = 5

-- components of RTEData (5.2.3.53)
abbrev pub event_pos : ℕ
event_pos = 3

abbrev pub event_radius : ℕ
event_radius = 4

abbrev pub event_paths : ℕ
event_paths = 8

abbrev pub event_links : ℕ
event_links = 9

-- components of RTSData (5.2.3.55)
abbrev pub sign_pos : ℕ
sign_pos = 2

abbrev pub sign_description : ℕ
sign_description = 3

abbrev pub sign_paths : ℕ
sign_paths = 6

abbrev pub sign_links : ℕ
sign_links = 7
