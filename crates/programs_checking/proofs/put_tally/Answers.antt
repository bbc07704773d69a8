-- `programs_checking::put_tally` meets its contract: two pieces behind one another, in a buffer that has room for them.
-- Assumes nothing.
use native.Mathlib.Omega.{arith}
use Rattle.printing.specs.Texts.{ascii}
use Rattle.printing.proofs.Appending.{then}
use Rattle.programs.proofs.Inputs.{appended_front}
use Rattle.programs_checking.specs.Checks.{tally_text}
use Rattle.programs_checking.proofs.Checks.{tally_short}
use Rattle.programs_checking.proofs.put_tally.Goals as goal

pub returns : goal.returns
unfolding ascii
returns c = let t = c.args.tally in let told = appended_front {text = tally_text t} (omega (arith, tally_short t (omega arith) (omega arith))) (omega arith) (then (omega arith) c.append_decimal-words.ensures c.append_sentence.ensures) in record { length = told.0; bytes = told.1 }
