-- `programs_losses::put_uncounted` meets its contract: two numbers behind one another, in a buffer that has room for them.
-- Assumes nothing.
use Prim.Native.Nat.{◌<◌, ◌^◌}
use native.Mathlib.Omega.{arith}
use lib.ListN.{length}
use Rattle.printing.specs.Texts.{ascii}
use Rattle.printing.proofs.Appending.{then}
use Rattle.programs_losses.proofs.Lines.{uncounted_front}
use Rattle.programs_losses.proofs.put_uncounted.Goals as goal

pub returns : goal.returns
unfolding ascii
returns c = let h : length c.args.out.now < 2 ^ 64 = omega arith in let told = uncounted_front c.requires h c.args.at c.args.number (omega arith) (omega arith) (then h (then h c.put_labelled-place.ensures c.put_labelled-end.ensures) c.append.ensures) in record { length = told.0; bytes = told.1 }
