-- `origins::id_component` meets its contract: the three kinds that have an id, and any other.
-- Assumes nothing.
use mathlib.Core.Path.{refl}
use borrow.Author.Tests.{ne_eqb}
use Rattle.origins.specs.Frame.{id_at}
use Rattle.origins.proofs.id_component.Goals as goal

pub returns-in-0 : goal.returns-in-0
unfolding id_at
returns-in-0 c = rw c.in-0.is refl

pub returns-in-2 : goal.returns-in-2
unfolding id_at
returns-in-2 c = rw c.in-2.is refl

pub returns-in-4 : goal.returns-in-4
unfolding id_at
returns-in-4 c = rw c.in-4.is refl

pub returns-in_default : goal.returns-in_default
unfolding id_at
returns-in_default c = rw (ne_eqb _ 0 c.in_default.in_default-own.rest.0.0.1, ne_eqb _ 2 c.in_default.in_default-own.rest.0.1, ne_eqb _ 4 c.in_default.in_default-own.rest.1) refl
