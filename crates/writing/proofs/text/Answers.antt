-- `writing::text` meets its contract: the index, and the string that it tells.
-- Assumes nothing.
use mathlib.Core.Path.{refl}
use native.Mathlib.Omega.{arith}
use Rattle.bits.specs.Numbers.{halvings}
use Rattle.writing.proofs.Target.{stands_on}
use Rattle.writing.proofs.Texts.{was_put, text_stops, text_first, text_second}
use Rattle.writing.proofs.text.Goals as goal

pub taken-n-requires : goal.taken-n-requires
taken-n-requires c = (c.requires.few, omega arith, omega arith)

pub returns-then-n-ge-REFUSED : goal.returns-then-n-ge-REFUSED
returns-then-n-ge-REFUSED c = text_stops (c.taken-n.ensures) (c.if-n-ge-REFUSED.true)

pub put-c-requires : goal.put-c-requires
put-c-requires c = (omega arith, omega (arith, c.taken-n.ensures.small (c.if-n-ge-REFUSED.false)), c.requires.near, c.requires.clean)

pub string-requires : goal.string-requires
unfolding halvings
string-requires c = (omega arith, refl, omega arith, stands_on (c.requires) (was_put (c.taken-n.ensures) (c.if-n-ge-REFUSED.false) 1 refl (c.put-c.ensures.counted) (c.put-c.ensures.stored)))

pub returns-then-n-eq0 : goal.returns-then-n-eq0
returns-then-n-eq0 c = text_first (c.taken-n.ensures) (c.if-n-ge-REFUSED.false) (c.put-c.ensures.counted) (c.put-c.ensures.stored) (c.requires.clean) (c.if-n-eq0.true) (c.string.ensures)

pub string-requires-2 : goal.string-requires-2
unfolding halvings
string-requires-2 c = (omega arith, refl, omega arith, stands_on (c.requires) (was_put (c.taken-n.ensures) (c.if-n-ge-REFUSED.false) 1 refl (c.put-c.ensures.counted) (c.put-c.ensures.stored)))

pub returns : goal.returns
returns c = text_second (c.taken-n.ensures) (c.if-n-ge-REFUSED.false) (c.put-c.ensures.counted) (c.put-c.ensures.stored) (c.requires.clean) (c.if-n-eq0.false) (c.string-2.ensures)
