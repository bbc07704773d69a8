-- `programs_checking::keep` meets its contract: a MAP takes the place of the map in force, and nothing else changes it.
-- Assumes nothing.
use native.Mathlib.Omega.{arith}
use mathlib.Core.Path.{refl}
use lib.ListN.{length-take}
use Rattle.findings.specs.Found.{in_force_after}
use Rattle.findings.specs.Told.{told}
use Rattle.programs_checking.proofs.Checks.{kept_other, kept_map}
use Rattle.programs_checking.proofs.keep.Goals as goal

pub returns-in-Map : goal.returns-in-Map
unfolding in_force_after told
returns-in-Map c = let a = c.args in kept_map a.sheet.now a.map.now a.count a.cells (told a.finding) (rw c.in-Map.is refl) c.requires.0 refl (c.copy_front.ensures.whole (simp length-take (omega (arith, c.requires))))

pub returns-in-Ruled : goal.returns-in-Ruled
unfolding in_force_after told
returns-in-Ruled c = let a = c.args in kept_other a.sheet.now a.map.now a.count a.cells (told a.finding) (rw c.in-Ruled.is refl) c.in_force.ensures

pub returns-in-Profiled : goal.returns-in-Profiled
unfolding in_force_after told
returns-in-Profiled c = let a = c.args in kept_other a.sheet.now a.map.now a.count a.cells (told a.finding) (rw c.in-Profiled.is refl) c.in_force-in-Profiled.ensures

pub returns-in-Compared : goal.returns-in-Compared
unfolding in_force_after told
returns-in-Compared c = let a = c.args in kept_other a.sheet.now a.map.now a.count a.cells (told a.finding) (rw c.in-Compared.is refl) c.in_force-in-Compared.ensures

pub returns-in-NoMap : goal.returns-in-NoMap
unfolding in_force_after told
returns-in-NoMap c = let a = c.args in kept_other a.sheet.now a.map.now a.count a.cells (told a.finding) (rw c.in-NoMap.is refl) c.in_force-in-NoMap.ensures

pub returns-in-NoRule : goal.returns-in-NoRule
unfolding in_force_after told
returns-in-NoRule c = let a = c.args in kept_other a.sheet.now a.map.now a.count a.cells (told a.finding) (rw c.in-NoRule.is refl) c.in_force-in-NoRule.ensures
