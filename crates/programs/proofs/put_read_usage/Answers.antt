-- `programs::put_read_usage` meets its contract: the text is appended at the front of a buffer that has room for it.
-- Assumes nothing.
use native.Mathlib.Omega.{arith}
use Rattle.printing.specs.Texts.{ascii}
use Rattle.programs.specs.Inputs.{read_usage}
use Rattle.programs.proofs.Inputs.{appended_front}
use Rattle.programs.proofs.put_read_usage.Goals as goal

pub returns : goal.returns
unfolding read_usage ascii
returns c = let told = appended_front {text = read_usage} (omega arith) (omega arith) (c.append.ensures) in record { length = told.0; bytes = told.1 }
