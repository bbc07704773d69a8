-- `callers::first_breach` meets its contract: it tells what the next of `rules::first_breach` gives.
-- Assumes nothing.
use Rattle.std.proofs.Common.{ap, sym, ◌∙◌}
use Rattle.rules.specs.Breaches.{checked, told}
use Rattle.callers.proofs.first_breach.Goals as goal

pub returns-in-Some : goal.returns-in-Some
unfolding checked
returns-in-Some g c = λ table broken_by row vs known W judges.
    sym (ap (λ found. told (checked found)) c.in-Some.is) ∙ c.first_breach.ensures.finds c.next.result c.next.new.self c.next.ensures.steps table broken_by row vs known W judges

pub returns : goal.returns
unfolding checked
returns g c = λ table broken_by row vs known W judges.
    sym (ap (λ found. told (checked found)) c.in-None.is) ∙ c.first_breach.ensures.finds c.next.result c.next.new.self c.next.ensures.steps table broken_by row vs known W judges
