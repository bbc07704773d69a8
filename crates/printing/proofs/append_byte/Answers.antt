-- `printing::append_byte` meets its contract: the byte is put where the buffer has the place, else only counted.
-- Assumes nothing.
use native.Mathlib.Omega.{arith}
use Rattle.printing.proofs.Appending.{append_inside, append_outside}
use Rattle.printing.proofs.append_byte.Goals as goal

pub returns-then-at-out : goal.returns-then-at-out
returns-then-at-out c = append_inside c.if-at-out.true (omega arith)

pub returns : goal.returns
returns c = append_outside c.if-at-out.false c.later.ensures
