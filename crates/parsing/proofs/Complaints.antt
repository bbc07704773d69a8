-- How long a complaint can be.
-- Assumes nothing.
use Prim.Native.Nat.{ℕ, ◌<◌, ◌≤◌, ◌^◌}
use native.Mathlib.Omega.{arith}
use lib.ListN.{length, length-append}
use Rattle.std.specs.Prelude.{Err}
use Rattle.printing.specs.Texts.{ascii}
use Rattle.printing.proofs.Lengths.{decimal_short}
use Rattle.parsing.specs.Complaints.{complaint, longest_complaint}
use Rattle.parsing.specs.declared.ParseError.TheVariants.{NoEdition, NoNumber, OutOfRange, NoRoom}

pub no_edition_short : length (complaint (Err NoEdition)) ≤ longest_complaint
unfolding complaint ascii
no_edition_short = omega arith

module _ (n : ℕ) (h : n < 2 ^ 64) where
  pub no_number_short : length (complaint (Err (NoNumber n))) ≤ longest_complaint
  unfolding complaint ascii
  no_number_short = simp length-append (omega (arith, decimal_short n h))

  pub out_of_range_short : length (complaint (Err (OutOfRange n))) ≤ longest_complaint
  unfolding complaint ascii
  out_of_range_short = simp length-append (omega (arith, decimal_short n h))

  pub no_room_short : length (complaint (Err (NoRoom n))) ≤ longest_complaint
  unfolding complaint ascii
  no_room_short = simp length-append (omega (arith, decimal_short n h))
