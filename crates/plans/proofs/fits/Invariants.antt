-- The invariant of the loop of `fits`: the numbers so far are in order, and their sizes are added up.
use Rattle.std.proofs.Common.{◌≤◌, take, drop}
use Rattle.plans.proofs.Filling.{Going}
use Rattle.plans.proofs.fits.Given as goal

abbrev pub invariant-loop-k : goal.invariant-loop-k
invariant-loop-k l = (l.n ≤ 16) × Going l.signs l.count l.sizes l.base l.limit (take l.n (drop l.at l.plan)) l.k l.least l.sum
