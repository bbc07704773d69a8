-- `findings::passes` meets its contract, by what was found.
-- Assumes nothing.
use mathlib.Core.Path.{refl, ◌∙◌}
use Rattle.findings.proofs.Told.{ruling_passes, verdict_passes}
use Rattle.findings.specs.Told.{told}
use Rattle.findings.specs.Found.{found_passes}
use Rattle.findings.proofs.passes.Goals as goal

pub returns-in-Ruled : goal.returns-in-Ruled
unfolding told found_passes
returns-in-Ruled c = rw (c.in-Ruled.is) (c.is_ok.ensures.value ∙ ruling_passes c.in-Ruled.checked)

pub returns-in-Profiled : goal.returns-in-Profiled
unfolding told found_passes
returns-in-Profiled c = rw (c.in-Profiled.is) (c.is_ok-in-Profiled.ensures.value ∙ ruling_passes c.in-Profiled.checked)

pub returns-in-Compared : goal.returns-in-Compared
unfolding told found_passes
returns-in-Compared c = rw (c.in-Compared.is) (c.is_ok-in-Compared.ensures.value ∙ verdict_passes c.in-Compared.checked)

pub returns-in-Map : goal.returns-in-Map
unfolding told found_passes
returns-in-Map c = rw (c.in-Map.is) refl

pub returns-in-NoMap : goal.returns-in-NoMap
unfolding told found_passes
returns-in-NoMap c = rw (c.in-NoMap.is) refl

pub returns-in-NoRule : goal.returns-in-NoRule
unfolding told found_passes
returns-in-NoRule c = rw (c.in-NoRule.is) refl
