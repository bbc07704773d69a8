-- `signals::compare` meets its contract: an entry that repeats an earlier one, or what the nodes come to.
-- Assumes nothing.
use Rattle.std.proofs.Common.{sym, ap, ◌∙◌}
use Rattle.messages.specs.Repeats.{Repeat}
use Rattle.signals.specs.Signal.{unless_repeated, first_node, judged}
use Rattle.signals.proofs.Flags.{all_clear}
use Rattle.signals.proofs.Mismatches.{told_mismatch}
use Rattle.signals.proofs.compare.Goals as goal

pub gather-requires : goal.gather-requires
gather-requires c = (c.requires.0, c.requires.1, λ k. all_clear 8192 k)

pub returns-in-Ok : goal.returns-in-Ok
unfolding judged unless_repeated
returns-in-Ok c = λ vs ws U W. let G = c.in-Ok.ensures vs U in c.judge.ensures vs ws G W ∙ sym (ap (λ (r : Repeat). unless_repeated r (first_node vs 0 ws)) G.differ)

pub returns-in-Err : goal.returns-in-Err
unfolding judged unless_repeated
returns-in-Err c = λ vs ws U W. told_mismatch c.new.ensures ∙ sym (ap (λ (r : Repeat). unless_repeated r (first_node vs 0 ws)) (c.in-Err.ensures vs U))
