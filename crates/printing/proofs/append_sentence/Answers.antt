-- `printing::append_sentence` meets its contract: three pieces behind one another.
-- Assumes nothing.
use Prim.Native.Nat.{◌<◌, ◌^◌}
use native.Mathlib.Omega.{arith}
use lib.ListN.{length}
use Rattle.printing.proofs.Appending.{then}
use Rattle.printing.proofs.append_sentence.Goals.{Start}
use Rattle.printing.proofs.append_sentence.Goals as goal

pub returns : goal.returns
returns c =
    let h : length c.args.out.now < 2 ^ 64 = omega arith in
    then h (then h c.append-number.ensures c.append_decimal-rest.ensures) c.append.ensures
