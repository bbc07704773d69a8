-- The presence number is that of the components that are left.
use Prim.Native.Nat.{◌+◌, ◌-◌, ◌≤◌}
use mathlib.Core.Path.{◌≡◌}
use Rattle.sheet.specs.Moving.{here_from}
use Rattle.sheet.proofs.here.Given as goal

abbrev pub invariant-loop-g : goal.invariant-loop-g
invariant-loop-g l = record {
  near : l.p + (l.g-end - l.g) ≤ l.flag + l.k;
  same : here_from l.rows (l.g-end - l.g) l.g l.sheet l.p ≡ here_from l.rows l.k l.first l.sheet l.flag;
}
