-- `reading::code` meets its contract: what is behind the field is shifted out.
-- Assumes nothing.
use native.Mathlib.Omega.{arith}
use Rattle.reading.proofs.code.Goals as goal

pub returns : goal.returns
returns c = c.head.ensures c.args.w (omega arith)
