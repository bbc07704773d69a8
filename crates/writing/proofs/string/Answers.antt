-- `writing::string` meets its contract: the size, and as many items as it tells.
-- Assumes nothing.
use Prim.Native.Nat.{◌<◌, ◌^◌}
use mathlib.Core.Path.{sym, subst}
use native.Mathlib.Omega.{arith}
use Rattle.walking.proofs.Texts.{size_few}
use Rattle.writing.proofs.Target.{stands_on}
use Rattle.writing.proofs.Texts.{was_put, string_stops, string_goes}
use Rattle.writing.proofs.string.Goals as goal

pub taken-n-requires : goal.taken-n-requires
taken-n-requires c = (c.requires.3.few, omega (arith, c.requires.0), omega (arith, size_few (c.requires.1)))

pub returns-then-n-ge-REFUSED : goal.returns-then-n-ge-REFUSED
returns-then-n-ge-REFUSED c = string_stops (c.args.least) (c.args.top) (c.requires.1) (c.taken-n.ensures) (c.if-n-ge-REFUSED.true)

pub put-c-requires : goal.put-c-requires
put-c-requires c = (omega arith, subst (λ w. c.taken-n.result < 2 ^ w) (c.requires.1) (c.taken-n.ensures.gathered.held (c.if-n-ge-REFUSED.false)), c.requires.3.near, c.requires.3.clean)

pub overflow_add-least-2 : goal.overflow_add-least-2
overflow_add-least-2 c = record { fits = omega (arith, c.requires.0, size_few (c.requires.1), c.taken-n.ensures.small (c.if-n-ge-REFUSED.false)) }

pub run-requires : goal.run-requires
run-requires c = (stands_on (c.requires.3) (was_put (c.taken-n.ensures) (c.if-n-ge-REFUSED.false) 9 (sym (c.requires.1)) (c.put-c.ensures.counted) (c.put-c.ensures.stored)), omega arith, c.requires.2)

pub returns : goal.returns
returns c = string_goes (c.args.least) (c.args.top) (c.requires.1) (c.taken-n.ensures) (c.if-n-ge-REFUSED.false) (c.put-c.ensures.counted) (c.put-c.ensures.stored) (c.requires.3.clean) (c.run.ensures)
