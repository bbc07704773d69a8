-- `rules::event_rule` meets its contract: which components of the event are there says which rule it breaks.
-- Assumes nothing.
use native.Mathlib.Omega.{arith}
use mathlib.Core.Path.{refl, sym, ◌∙◌}
use mathlib.Core.Bool.{false}
use Rattle.rules.specs.Breaches.{broken}
use Rattle.rules.specs.Rsi.{event_rule}
use Rattle.rules.proofs.Rsi.{asked}
use Rattle.rules.proofs.event_rule.Goals as goal

pub returns-then-not-has : goal.returns-then-not-has
unfolding event_rule broken
returns-then-not-has c = λ v er S. rw (asked _ c.requires false _ _ 3 er S (omega arith) (sym c.if-not-has.true ∙ c.has.ensures)) refl

pub returns-then-has : goal.returns-then-has
unfolding event_rule broken
returns-then-has c = λ v er S. rw (asked _ c.requires false _ _ 3 er S (omega arith) (sym c.if-not-has.false ∙ c.has.ensures), asked _ c.requires false _ _ 4 er S (omega arith) (sym c.if-has.true ∙ c.has-2.ensures)) refl

pub returns-then-has-2 : goal.returns-then-has-2
unfolding event_rule broken
returns-then-has-2 c = λ v er S. rw (asked _ c.requires false _ _ 3 er S (omega arith) (sym c.if-not-has.false ∙ c.has.ensures), asked _ c.requires false _ _ 4 er S (omega arith) (sym c.if-has.false ∙ c.has-2.ensures), asked _ c.requires false _ _ 8 er S (omega arith) (sym c.if-has-2.true ∙ c.has-3.ensures)) refl

pub returns-then-has-3 : goal.returns-then-has-3
unfolding event_rule broken
returns-then-has-3 c = λ v er S. rw (asked _ c.requires false _ _ 3 er S (omega arith) (sym c.if-not-has.false ∙ c.has.ensures), asked _ c.requires false _ _ 4 er S (omega arith) (sym c.if-has.false ∙ c.has-2.ensures), asked _ c.requires false _ _ 8 er S (omega arith) (sym c.if-has-2.false ∙ c.has-3.ensures), asked _ c.requires false _ _ 9 er S (omega arith) (sym c.if-has-3.true ∙ c.has-4.ensures)) refl

pub returns : goal.returns
unfolding event_rule broken
returns c = λ v er S. rw (asked _ c.requires false _ _ 3 er S (omega arith) (sym c.if-not-has.false ∙ c.has.ensures), asked _ c.requires false _ _ 4 er S (omega arith) (sym c.if-has.false ∙ c.has-2.ensures), asked _ c.requires false _ _ 8 er S (omega arith) (sym c.if-has-2.false ∙ c.has-3.ensures), asked _ c.requires false _ _ 9 er S (omega arith) (sym c.if-has-3.false ∙ c.has-4.ensures)) refl
