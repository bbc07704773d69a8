-- The component stands behind those that are left.
use Prim.Native.Nat.{◌+◌, ◌-◌, ◌≤◌}
use mathlib.Core.Path.{◌≡◌}
use Rattle.sheet.specs.Moving.{front_from}
use Rattle.sheet.proofs.before.Given as goal

abbrev pub invariant-loop-g : goal.invariant-loop-g
invariant-loop-g l = record {
  near : l.p + (l.g-end - l.g) ≤ l.flag + l.k;
  same : front_from l.rows l.sheet (l.g-end - l.g) l.g l.p l.at ≡ front_from l.rows l.sheet l.k l.first l.flag l.start;
}
