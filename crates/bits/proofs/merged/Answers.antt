-- `bits::merged` meets its contract: the callees' powers of two put in, what is computed is `merged_of`, which is a byte (`merged_lt`).
-- Assumes nothing.
use mathlib.Core.Path.{◌≡◌}
use Prim.Native.Nat.{◌+◌, ◌*◌, ◌/◌, ◌%◌, ◌^◌}
use native.Mathlib.Omega.{arith}
use lib.Pow.{pow_pos}
use Rattle.bits.proofs.Splices.{merged_lt}
use Rattle.bits.specs.Storing.{merged_of}
use Rattle.bits.proofs.merged.Goals as goal

-- what is computed, by what the callees ensure
same : (c : goal.After-power-2)
    → c.from-b.result / 2 ^ (c.args.m + c.args.r) * c.power.result
    + c.args.part % c.power-2.result * c.power-unit.result
    + c.from-b.result % c.power-unit.result
    ≡ merged_of c.args.old c.args.m c.args.r c.args.part
same c =
    let a = c.args in
    let w = c.from-b.ensures in
    let u = c.power-unit.ensures.fits (omega arith) in
    λ i. w i / 2 ^ (a.m + a.r) * c.power.ensures.fits (omega arith) i + a.part % c.power-2.ensures.fits (omega arith) i * u i + w i % u i

pub overflow_mul-result : goal.overflow_mul-result
overflow_mul-result c =
    let a = c.args in
    let l = merged_lt 8 a.old a.m a.r a.part (omega arith) (omega arith) in
    record { fits = rw (c.from-b.ensures, c.power.ensures.fits (omega arith)) (omega arith) }

pub nonzero_rem-result : goal.nonzero_rem-result
nonzero_rem-result c = omega (arith, pow_pos c.args.m, c.power-2.ensures.fits (omega arith))

pub overflow_mul-result-2 : goal.overflow_mul-result-2
overflow_mul-result-2 c =
    let a = c.args in
    let l = merged_lt 8 a.old a.m a.r a.part (omega arith) (omega arith) in
    record { fits = rw (c.power-2.ensures.fits (omega arith), c.power-unit.ensures.fits (omega arith)) (omega arith) }

pub overflow_add-result : goal.overflow_add-result
overflow_add-result c =
    let a = c.args in
    let l = merged_lt 8 a.old a.m a.r a.part (omega arith) (omega arith) in
    record { fits = rw (c.from-b.ensures, c.power.ensures.fits (omega arith), c.power-2.ensures.fits (omega arith), c.power-unit.ensures.fits (omega arith)) (omega arith) }

pub nonzero_rem-result-2 : goal.nonzero_rem-result-2
nonzero_rem-result-2 c = omega (arith, pow_pos c.args.r, c.power-unit.ensures.fits (omega arith))

pub overflow_add-result-2 : goal.overflow_add-result-2
overflow_add-result-2 c =
    let a = c.args in
    let l = merged_lt 8 a.old a.m a.r a.part (omega arith) (omega arith) in
    record { fits = omega (arith, same c) }

pub overflow_cast-result : goal.overflow_cast-result
overflow_cast-result c =
    let a = c.args in
    let l = merged_lt 8 a.old a.m a.r a.part (omega arith) (omega arith) in
    record { fits = omega (arith, same c) }

pub returns : goal.returns
returns c = same c
