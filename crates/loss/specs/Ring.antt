-- Message counts on their ring (document 01, Positions and counts; source 000, 5.2.4.45: MsgCount is 0 to 127).
use Rattle.std.specs.Prelude.{ℕ, cond, pos, ◌-ℤ◌, nat_le, Result, Ok, Err}
use Rattle.basics.specs.Rings.{around}
use Rattle.answers.specs.GivenBack as number
use Rattle.answers.specs.Reasons.{reason_number}
use Rattle.answers.specs.declared.reasons.Reason.{Reason}

-- the number given back, and the messages missed, which are 0 with any number but 0
pub record Loss : Type 0 where
  pub number : ℕ
  pub missed : ℕ

-- "new minus old minus 1, taken round the ring of 128"
unfoldable pub ring_formula : ℕ → ℕ → ℕ
ring_formula old new = around 128 (pos new -ℤ pos old -ℤ pos 1)

-- done: number 0 (document 01, Numbers given back), with the messages missed
abbrev pub counted : ℕ → Loss
counted n = record { number = number.done; missed = n }

-- "A count above 127: 4 and zero"
abbrev pub outside : Loss
outside = record { number = number.outside; missed = 0 }

-- the answer for any two bytes
unfoldable pub missed_between : ℕ → ℕ → Loss
missed_between old new = cond (nat_le old 127) (cond (nat_le new 127) (counted (ring_formula old new)) outside) outside

-- what the code's answer tells: the messages missed, or the number of the reason
abbrev pub told : Result ℕ Reason → Loss
told (Ok n) = counted n
told (Err why) = record { number = reason_number why; missed = 0 }
