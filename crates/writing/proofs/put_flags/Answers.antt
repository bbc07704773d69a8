-- `writing::put_flags` meets its contract.
-- Assumes nothing.
use native.Mathlib.Omega.{arith}
use Rattle.writing.proofs.Target.{put_none}
use Rattle.writing.proofs.put_flags.Goals as goal

pub returns-then-n-eq0 : goal.returns-then-n-eq0
returns-then-n-eq0 c = record { counted = omega (arith, c.requires.2, c.if-n-eq0.true); stored = put_none (c.args.out.now) (c.args.at) (c.args.mask) (c.if-n-eq0.true) }
