-- `signals::judge` meets its contract: what is told of a node is the first phase that it uses and that is not listed.
-- Assumes nothing.
use Rattle.std.proofs.Common.{sym, ap, ◌∙◌, rules}
use Rattle.signals.specs.Mismatches.{told}
use Rattle.signals.specs.Steps.{node_row}
use Rattle.signals.proofs.Mismatches.{told_mismatch}
use Rattle.signals.proofs.Nodes.{failed, sought_node}
use Rattle.signals.proofs.Types.{node_known}
use Rattle.signals.proofs.judge.Goals as goal

pub returns-in-Some : goal.returns-in-Some
unfolding failed
returns-in-Some c = λ vs ws G W. told_mismatch c.new.ensures ∙ sym (ap failed c.in-Some.is) ∙ sought_node _ _ _ vs (λ place v said er S e. search rules) 0 ws _ (c.first_told.ensures c.requires node_row ws node_known W)

pub returns-in-None : goal.returns-in-None
unfolding failed told
returns-in-None c = λ vs ws G W. sym (ap failed c.in-None.is) ∙ sought_node _ _ _ vs (λ place v said er S e. search rules) 0 ws _ (c.first_told.ensures c.requires node_row ws node_known W)
