-- `reading::fours` meets its contract. The invariant: what is left of the groups and the numbers behind them answer the whole.
-- Assumes nothing.
use Prim.Native.Nat.{◌+◌, ◌-◌, ◌*◌, ◌<◌}
use native.Mathlib.Omega.{arith}
use mathlib.Core.Path.{◌≡◌}
use Rattle.reading.proofs.Runs.{group, group_within, four_more}
use borrow.Author.Rules.{rules}
use Rattle.reading.proofs.fours.Goals as goal

pub loop-i-init : goal.loop-i-init
loop-i-init c =
    let a = c.args in
    let all : a.n - 0 ≡ a.n = omega arith in
    let place : a.at + 0 * (4 * a.w) ≡ a.at = omega arith in
    let next : a.cell + 4 * 0 ≡ a.cell = omega arith in
    λ total span m P ew full fits. rw (all, place, next) (λ r after u. u)

pub overflow_mul-w : goal.overflow_mul-w
overflow_mul-w c = let narrow = c.requires.2 (omega (arith, c.loop-i-test.true)) in search rules

pub overflow_mul-i : goal.overflow_mul-i
overflow_mul-i c = let within = group_within c.loop-i.i c.args.n (4 * c.args.w) c.loop-i-test.true in record { fits = omega (arith, c.requires.3) }

pub overflow_add-at : goal.overflow_add-at
overflow_add-at c = let within = group_within c.loop-i.i c.args.n (4 * c.args.w) c.loop-i-test.true in record { fits = omega (arith, c.requires.3) }

pub code-x-requires : goal.code-x-requires
code-x-requires c = let within = group_within c.loop-i.i c.args.n (4 * c.args.w) c.loop-i-test.true in let narrow = c.requires.2 (omega (arith, c.loop-i-test.true)) in (omega (arith, c.requires.4), omega (arith, c.requires.1), omega arith)

pub four-requires : goal.four-requires
four-requires c = let some : 0 < c.args.n = omega (arith, c.loop-i-test.true) in (c.requires.2 some, c.requires.0, omega (arith, c.requires.5 some, c.loop-i.auto.sheet))

pub loop-i-preserved : goal.loop-i-preserved
loop-i-preserved c = let l = c.loop-i in
    let a = c.args in
    let some : 0 < a.n = omega (arith, c.loop-i-test.true) in
    let within = group_within l.i a.n (4 * a.w) c.loop-i-test.true in
    let one = group l.i (4 * a.w) in
    λ total span k P ew full fits r after u. l.invariant total span k P ew full fits r after
    (four_more a.b.now total a.low span a.w ew (full some) (4 * (a.n - (l.i + 1)) + k) (omega arith) (omega arith) (omega arith) c.code-x.ensures c.four.ensures (record { place = omega arith; few = P.few; padded = P.padded }) (omega arith) (omega (arith, c.requires.5 some, l.auto.sheet)) (omega (arith, l.auto.sheet)) r after u)

pub returns : goal.returns
returns c = let l = c.loop-i in
    let all : l.i ≡ c.args.n = omega (arith, c.loop-i-test.false) in
    λ total span k P ew full fits r after u. l.invariant total span k P ew full fits r after (let e : 4 * (c.args.n - l.i) + k ≡ k = omega arith in rw (e, all) u)
