-- `programs_losses::put_losses_usage` meets its contract: the text is appended at the front of a buffer that has room for it.
-- Assumes nothing.
use native.Mathlib.Omega.{arith}
use Rattle.printing.specs.Texts.{ascii}
use Rattle.programs_losses.specs.Drives.{losses_usage}
use Rattle.programs.proofs.Inputs.{appended_front}
use Rattle.programs_losses.proofs.put_losses_usage.Goals as goal

pub returns : goal.returns
unfolding losses_usage ascii
returns c = let told = appended_front {text = losses_usage} (omega arith) (omega arith) c.append.ensures in record { length = told.0; bytes = told.1 }
