-- `printing::append_refusal` meets its contract: seven pieces behind one another.
-- Assumes nothing.
use Prim.Native.Nat.{◌<◌, ◌^◌}
use native.Mathlib.Omega.{arith}
use lib.ListN.{length}
use Rattle.printing.specs.Texts.{ascii}
use Rattle.printing.proofs.Appending.{then}
use Rattle.printing.proofs.append_refusal.Goals as goal

pub returns : goal.returns
unfolding ascii
returns c =
    let h : length c.args.out.now < 2 ^ 64 = omega arith in
    then h (then h (then h (then h (then h (then h c.append-number.ensures c.append_decimal-after_number.ensures) c.append-word.ensures) c.append-blank.ensures) c.append-place.ensures) c.append_decimal-end.ensures) c.append.ensures
