-- What is found of a frame.
use Rattle.std.specs.Prelude.{ℕ}
use Rattle.rules.specs.Ruling.{Ruling}
use Rattle.signals.specs.Verdict.{Verdict}

-- what the RSI sending rules say, what the RSM sending profile says, what the map in force says of a signal message, how many nodes a map has, that there is
-- no map yet for a signal message, or that there is no rule for a message of a vehicle
pub data Finding : Type 0 where
  Ruled : Ruling → Finding
  Profiled : Ruling → Finding
  Compared : Verdict → Finding
  Map : ℕ → Finding
  NoMap : Finding
  NoRule : Finding
