-- `printing::append` meets its contract: a turn appends one more byte.
-- Assumes nothing.
use native.Mathlib.Omega.{arith}
use Rattle.printing.proofs.Appending.{then, same_text, one_more}
use Rattle.printing.proofs.append.Goals as goal

pub loop-byte-preserved : goal.loop-byte-preserved
loop-byte-preserved c =
    let l = c.loop-byte in
    same_text (one_more c.args.text.now l.byte-index (omega arith)) (then (omega arith) l.invariant c.append_byte-next.ensures)
