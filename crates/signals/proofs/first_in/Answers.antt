-- `signals::first_in` meets its contract: what is told of an entry is the first phase that it uses and that is not listed.
-- Assumes nothing.
use Rattle.std.proofs.Common.{subst, Option, ℕ}
use Rattle.signals.specs.Phases.{gathered}
use Rattle.signals.specs.Signal.{first_unlisted}
use Rattle.signals.specs.Steps.{Found}
use Rattle.signals.proofs.Searching.{phase_of, sought_phase}
use Rattle.signals.proofs.first_in.Goals as goal

pub returns-in-Some : goal.returns-in-Some
unfolding phase_of
returns-in-Some g c = λ says uses row vs known W finds.
    subst (λ (t : Option (ℕ × ℕ)). Found (phase_of t) (first_unlisted says (gathered uses vs))) c.in-Some.is (sought_phase _ _ _ row says uses finds 0 vs _ (c.first_told.ensures c.requires.table row vs known W))

pub returns-in-None : goal.returns-in-None
unfolding phase_of
returns-in-None g c = λ says uses row vs known W finds.
    subst (λ (t : Option (ℕ × ℕ)). Found (phase_of t) (first_unlisted says (gathered uses vs))) c.in-None.is (sought_phase _ _ _ row says uses finds 0 vs _ (c.first_told.ensures c.requires.table row vs known W))
