-- `FirstBreach::next` meets its contract: what is told of an entry is the rule that it breaks.
-- Assumes nothing.
use Rattle.std.proofs.Common.{ap, sym, ◌∙◌}
use Rattle.rules.specs.Breaches.{checked, told}
use Rattle.rules.proofs.Breaches.{named, sought, told_breach}
use Rattle.rules.proofs.seeking.FirstBreachIterator.next.Goals as goal

pub returns-in_err-place-clause-steps : goal.returns-in_err-place-clause-steps
unfolding checked told named
returns-in_err-place-clause-steps g c = (
  λ table broken_by row vs known W judges. ap (λ found. told (checked found)) c.from_residual.ensures ∙ sym (ap named c.in_err-place.was) ∙ sought _ _ _ row broken_by judges 0 vs _ (c.next.ensures.steps.0 table row vs known W),
  ap (λ asked. record { broken = asked }) c.next.ensures.steps.1,
)

pub returns-clause-steps : goal.returns-clause-steps
unfolding checked told named
returns-clause-steps g c = (
  λ table broken_by row vs known W judges. told_breach c.new.ensures ∙ sym (ap named c.in_ok-place.was) ∙ sought _ _ _ row broken_by judges 0 vs _ (c.next.ensures.steps.0 table row vs known W),
  ap (λ asked. record { broken = asked }) c.next.ensures.steps.1,
)
