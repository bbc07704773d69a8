-- `programs_losses::put_counts` meets its contract: four numbers behind one another.
-- Assumes nothing.
use Prim.Native.Nat.{◌<◌, ◌^◌}
use native.Mathlib.Omega.{arith}
use lib.ListN.{length}
use Rattle.printing.specs.Texts.{ascii}
use Rattle.printing.proofs.Appending.{then}
use Rattle.programs_losses.proofs.put_counts.Goals as goal

pub returns : goal.returns
unfolding ascii
returns c = let h : length c.args.out.now < 2 ^ 64 = omega arith in then h (then h (then h (then h c.put_labelled-last.ensures c.put_labelled-received.ensures) c.put_labelled-missed.ensures) c.put_labelled-end.ensures) c.append.ensures
