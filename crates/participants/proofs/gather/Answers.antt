-- `participants::gather` meets its contract: the participants that are left, with the ids of those before, come to what all of them come to.
-- Assumes nothing.
use Rattle.std.proofs.Common.{◌≡◌, ◌-◌, ◌<◌, refl, arith}
use Rattle.participants.proofs.Gathering.{begins, repeats, goes_on, ends}
use Rattle.participants.proofs.gather.Goals as goal

pub loop-i-init : goal.loop-i-init
loop-i-init c = λ vs W. begins _ _ _ _ _ vs W.are

pub returns-then-met-i : goal.returns-then-met-i
returns-then-met-i c = λ vs W.
    let l = c.loop-i in
    let h : 0 < c.args.list.count - l.i = omega arith in
    repeats _ _ c.requires.0 (W.of_row (omega arith)) _ _ l.i l.ids (l.invariant vs W) h c.number_of-id.ensures (omega arith) c.position-met.ensures refl c.if-met-i.true

pub loop-i-preserved : goal.loop-i-preserved
loop-i-preserved c = λ vs W.
    let l = c.loop-i in
    let h : 0 < c.args.list.count - l.i = omega arith in
    goes_on _ _ c.requires.0 (W.of_row (omega arith)) _ _ l.i l.ids (l.invariant vs W) h c.number_of-id.ensures (omega arith) c.position-met.ensures c.behind-at.ensures c.if-met-i.false (omega arith) (omega arith)

pub returns : goal.returns
returns c = λ vs W.
    let l = c.loop-i in
    let left : c.args.list.count - l.i ≡ 0 = omega arith in
    ends _ _ _ _ l.i l.ids (l.invariant vs W) left (omega arith) (omega arith)
