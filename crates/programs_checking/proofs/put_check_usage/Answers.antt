-- `programs_checking::put_check_usage` meets its contract: the text is appended at the front of a buffer that has room for it.
-- Assumes nothing.
use native.Mathlib.Omega.{arith}
use Rattle.printing.specs.Texts.{ascii}
use Rattle.programs_checking.specs.Checks.{check_usage}
use Rattle.programs.proofs.Inputs.{appended_front}
use Rattle.programs_checking.proofs.put_check_usage.Goals as goal

pub returns : goal.returns
unfolding check_usage ascii
returns c = let told = appended_front {text = check_usage} (omega arith) (omega arith) c.append.ensures in record { length = told.0; bytes = told.1 }
