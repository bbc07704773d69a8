-- `position::Offset::new` meets its contract: no width is above the widest. Assumes nothing.
use Prim.Native.Nat.{◌-◌, ◌≤◌, ◌^◌}
use native.Mathlib.Nat.{pow-le-pow_right}
use native.Mathlib.Omega.{arith}
use mathlib.Core.Path.{sym, ◌∙◌}
use Rattle.std.proofs.lemmas.Int.{ints}
use Rattle.position.specs.Ranges.{offsets}
use Rattle.position.proofs.Ranges.{between, from_orders}
use Rattle.position.proofs.Offset.new.Goals as goal

pub invariant_of-result : goal.invariant_of-result
invariant_of-result c =
    let t = between _ _ (sym c.within.ensures ∙ c.if-within.true) in
    let p : 2 ^ (c.args.width.bits - 1) ≤ 2 ^ 23 = pow-le-pow_right {n = 2} (omega arith) {j = 23} (omega arith) in
    record { in_range = from_orders (offsets 24) _ (omega (arith, ints)) (omega (arith, ints)) }
