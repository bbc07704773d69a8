-- Whether a program was given an argument.
use Rattle.std.specs.Prelude.{ℕ, Bool, true, false, Result, Ok, Err}
use Rattle.std.specs.declared.env.FillError.{FillError}
use Rattle.std.specs.declared.env.FillError.TheVariants.{TooLong, NotPresent}

-- by what is answered where an argument is asked for, with no room for its bytes: only "not present" says that there is none
abbrev pub given_by : Result ℕ FillError → Bool
given_by (Ok n) = true
given_by (Err TooLong) = true
given_by (Err NotPresent) = false
