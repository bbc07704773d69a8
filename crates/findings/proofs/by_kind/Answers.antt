-- `findings::by_kind` meets its contract: a MAP, a SPAT, an RSM, a BSM, and any other.
-- Assumes nothing.
use Rattle.findings.specs.Told.{told}
use Rattle.findings.proofs.Found.{kind_map, kind_signal, kind_profile, kind_vehicle, kind_other}
use Rattle.findings.proofs.by_kind.Goals as goal

pub returns-in-1 : goal.returns-in-1
unfolding told
returns-in-1 c = kind_map _ _ _ (c.in-1.is) (c.nodes_in.ensures)

pub returns-in-3 : goal.returns-in-3
unfolding told
returns-in-3 c = kind_signal _ _ _ (c.in-3.is) (c.of_signal.ensures)

pub returns-in-2 : goal.returns-in-2
unfolding told
returns-in-2 c = kind_profile _ _ _ (c.in-2.is) (c.check_rsm.ensures)

pub returns-in-0 : goal.returns-in-0
unfolding told
returns-in-0 c = kind_vehicle _ _ _ (c.in-0.is)

pub returns-in_default : goal.returns-in_default
unfolding told
returns-in_default c = kind_other _ _ _ (c.in_default.in_default-own.rest.0.0.0.1) (c.in_default.in_default-own.rest.0.0.1) (c.in_default.in_default-own.rest.0.1) (c.in_default.in_default-own.rest.1) (c.check_rsi.ensures)
