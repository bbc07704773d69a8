-- `participants::field_rule` meets its contract: a participant has its vehicle class, or lacks it.
-- Assumes nothing.
use Rattle.rules.specs.Breaches.{broken}
use Rattle.participants.proofs.Fields.{entry_passes, entry_lacks}
use Rattle.participants.proofs.field_rule.Goals as goal

pub returns-then-has : goal.returns-then-has
unfolding broken
returns-then-has c = λ v er S. entry_passes _ c.requires _ _ er S c.has.ensures c.if-has.true

pub returns-else-has : goal.returns-else-has
unfolding broken
returns-else-has c = λ v er S. entry_lacks _ c.requires _ _ er S c.has.ensures c.if-has.false
