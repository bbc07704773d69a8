-- `bits::put` meets its contract. The invariant: what is written so far is the code's high bits, from the place on to p; a turn is `put_more`, to the end of a byte.
-- Assumes nothing.
use mathlib.Core.Path.{◌≡◌, refl, sym, ap, ◌∙◌}
use Prim.Native.Nat.{ℕ, ◌+◌, ◌-◌, ◌*◌, ◌/◌, ◌^◌, ◌≤◌, ◌<◌}
use native.Mathlib.Omega.{arith}
use lib.ListN.{set, get_or, length-set}
use Rattle.bits.specs.Numbers.{to_bits}
use Rattle.bits.specs.Bytes.{bits_of}
use Rattle.bits.specs.Storing.{splice, merged_of}
use Rattle.bits.proofs.Splices.{put_none, put_more, put_all}
use Rattle.bits.proofs.put.Goals as goal

pub loop-p-init : goal.loop-p-init
loop-p-init c = let a = c.args in (omega arith, omega arith, refl, put_none a.bytes.now a.at _)

pub overflow_sub-stop : goal.overflow_sub-stop
overflow_sub-stop c = omega (arith, c.least-stop.ensures)

pub overflow_sub-q : goal.overflow_sub-q
overflow_sub-q c = omega (arith, c.least-stop.ensures)

pub overflow_sub-end : goal.overflow_sub-end
overflow_sub-end c = omega (arith, c.least-stop.ensures)

pub merged-x-requires : goal.merged-x-requires
merged-x-requires c = omega (arith, c.least-stop.ensures)

pub loop-p-smaller : goal.loop-p-smaller
loop-p-smaller c = omega (arith, c.least-stop.ensures)

pub loop-p-preserved : goal.loop-p-preserved
loop-p-preserved c =
    let l = c.loop-p in
    let a = c.args in
    let end = a.at + a.w in
    let stop = c.least-stop.result in
    let m = stop - l.p in
    let r = l.p / 8 * 8 + 8 - stop in
    let forward : l.p < stop = omega (arith, c.least-stop.ensures) in
    let within : stop ≤ end = omega (arith, c.least-stop.ensures) in
    let byte : stop ≤ l.p / 8 * 8 + 8 = omega (arith, c.least-stop.ensures) in
    let back : l.p + m ≡ stop = omega arith in
    let shift : end - l.p - m ≡ end - stop = omega arith in
    let more = put_more a.bytes.now l.bytes a.at end l.p m r a.code (omega arith) (omega arith) (omega arith) l.invariant.2 (omega arith) (omega arith) l.invariant.3 in (
      omega arith,
      within,
      length-set l.bytes (l.p / 8) _ ∙ l.invariant.2,
      ap (λ (x : ℕ). bits_of (set l.bytes (l.p / 8) x)) (c.merged-x.ensures ∙ ap (λ (k : ℕ). merged_of (get_or l.bytes (l.p / 8) 0) m r (a.code / 2 ^ k)) (sym shift))
          ∙ more
          ∙ ap (λ (k : ℕ). splice (bits_of a.bytes.now) a.at (to_bits (k - a.at) (a.code / 2 ^ (end - k)))) back,
    )

pub returns : goal.returns
returns c =
    let l = c.loop-p in
    let a = c.args in
    l.invariant.3 ∙ ap (splice (bits_of a.bytes.now) a.at) (put_all a.at (a.at + a.w) l.p a.w a.code (omega arith) refl)
