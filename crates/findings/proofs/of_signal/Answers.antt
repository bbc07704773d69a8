-- `findings::of_signal` meets its contract: there is a map in force, or none yet.
-- Assumes nothing.
use Rattle.findings.specs.Told.{told}
use Rattle.findings.proofs.Found.{no_map, some_map}
use Rattle.findings.proofs.of_signal.Goals as goal

pub returns-then-map-eq0 : goal.returns-then-map-eq0
unfolding told
returns-then-map-eq0 c = no_map _ _ (c.if-map-eq0.true)

pub returns : goal.returns
unfolding told
returns c = some_map _ _ (c.if-map-eq0.false) (c.check_signal.ensures)
