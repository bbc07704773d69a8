-- `programs_losses::put_labelled` meets its contract: a piece behind another.
-- Assumes nothing.
use native.Mathlib.Omega.{arith}
use Rattle.printing.proofs.Appending.{then}
use Rattle.programs_losses.proofs.put_labelled.Goals as goal

pub returns : goal.returns
returns c = then (omega arith) c.append-digits.ensures c.append_decimal.ensures
