-- `walking::past` meets its contract.
-- Assumes nothing.
use mathlib.Core.Path.{refl}
use native.Mathlib.Omega.{arith}
use borrow.Author.Tests.{ne_eqb}
use Rattle.walking.specs.Walked.{past_of}
use Rattle.walking.proofs.past.Goals as goal

pub returns-then-mark-eq0 : goal.returns-then-mark-eq0
unfolding past_of
returns-then-mark-eq0 c = record { is = rw c.if-mark-eq0.true (omega arith); near = λ h. (rw c.if-mark-eq0.true refl, omega arith) }

pub returns-else-mark-eq0 : goal.returns-else-mark-eq0
unfolding past_of
returns-else-mark-eq0 c =
    let is = ne_eqb c.args.mark 0 c.if-mark-eq0.false in
    record { is = rw is c.later.ensures; near = λ h. (rw is (omega (arith, c.later.ensures)), omega (arith, c.later.ensures)) }
