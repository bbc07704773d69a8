-- `Drive::put_total` meets its contract: two numbers behind one another, in a buffer that has room for them.
-- Assumes nothing.
use Prim.Native.Nat.{◌<◌, ◌^◌}
use native.Mathlib.Omega.{arith}
use lib.ListN.{length}
use Rattle.printing.specs.Texts.{ascii}
use Rattle.printing.proofs.Appending.{then}
use Rattle.programs_losses.proofs.Lines.{totals_front}
use Rattle.programs_losses.proofs.Drive.put_total.Goals as goal

pub returns : goal.returns
unfolding ascii
returns c = let h : length c.args.out.now < 2 ^ 64 = omega arith in let told = totals_front (omega arith) h c.args.self.now.records c.args.self.now.counted (omega arith) (omega arith) (then h (then h c.append_decimal-words.ensures c.put_labelled-last.ensures) c.append.ensures) in record { length = told.0; bytes = told.1 }
