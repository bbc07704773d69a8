-- `rules::sign_rule` meets its contract: which components of the sign are there says which rule it breaks.
-- Assumes nothing.
use native.Mathlib.Omega.{arith}
use mathlib.Core.Path.{refl, sym, ◌∙◌}
use mathlib.Core.Bool.{true}
use Rattle.rules.specs.Breaches.{broken}
use Rattle.rules.specs.Rsi.{sign_rule}
use Rattle.rules.proofs.Rsi.{asked}
use Rattle.rules.proofs.sign_rule.Goals as goal

pub returns-then-not-has : goal.returns-then-not-has
unfolding sign_rule broken
returns-then-not-has c = λ v er S. rw (asked _ c.requires true _ _ 2 er S (omega arith) (sym c.if-not-has.true ∙ c.has.ensures)) refl

pub returns-then-not-has-2 : goal.returns-then-not-has-2
unfolding sign_rule broken
returns-then-not-has-2 c = λ v er S. rw (asked _ c.requires true _ _ 2 er S (omega arith) (sym c.if-not-has.false ∙ c.has.ensures), asked _ c.requires true _ _ 3 er S (omega arith) (sym c.if-not-has-2.true ∙ c.has-2.ensures)) refl

pub returns-then-has : goal.returns-then-has
unfolding sign_rule broken
returns-then-has c = λ v er S. rw (asked _ c.requires true _ _ 2 er S (omega arith) (sym c.if-not-has.false ∙ c.has.ensures), asked _ c.requires true _ _ 3 er S (omega arith) (sym c.if-not-has-2.false ∙ c.has-2.ensures), asked _ c.requires true _ _ 6 er S (omega arith) (sym c.if-has.true ∙ c.has-3.ensures)) refl

pub returns-then-has-2 : goal.returns-then-has-2
unfolding sign_rule broken
returns-then-has-2 c = λ v er S. rw (asked _ c.requires true _ _ 2 er S (omega arith) (sym c.if-not-has.false ∙ c.has.ensures), asked _ c.requires true _ _ 3 er S (omega arith) (sym c.if-not-has-2.false ∙ c.has-2.ensures), asked _ c.requires true _ _ 6 er S (omega arith) (sym c.if-has.false ∙ c.has-3.ensures), asked _ c.requires true _ _ 7 er S (omega arith) (sym c.if-has-2.true ∙ c.has-4.ensures)) refl

pub returns : goal.returns
unfolding sign_rule broken
returns c = λ v er S. rw (asked _ c.requires true _ _ 2 er S (omega arith) (sym c.if-not-has.false ∙ c.has.ensures), asked _ c.requires true _ _ 3 er S (omega arith) (sym c.if-not-has-2.false ∙ c.has-2.ensures), asked _ c.requires true _ _ 6 er S (omega arith) (sym c.if-has.false ∙ c.has-3.ensures), asked _ c.requires true _ _ 7 er S (omega arith) (sym c.if-has-2.false ∙ c.has-4.ensures)) refl
