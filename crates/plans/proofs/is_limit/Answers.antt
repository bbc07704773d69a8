-- `plans::is_limit` meets its contract: a limit is at least 1 and at most 2,048.
-- Assumes nothing.
use mathlib.Core.Path.{refl}
use borrow.Author.Tests.{le-leb, lt-leb}
use Rattle.plans.specs.Plans.{is_limit}
use Rattle.plans.proofs.is_limit.Goals as goal

pub returns-then-limit-lt1 : goal.returns-then-limit-lt1
unfolding is_limit
returns-then-limit-lt1 c = rw (lt-leb 1 (c.args.limit) (c.if-limit-lt1.true)) refl

pub returns : goal.returns
unfolding is_limit
returns c = rw (le-leb 1 (c.args.limit) (c.if-limit-lt1.false)) refl
