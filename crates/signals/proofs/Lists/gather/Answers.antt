-- `Lists::gather` meets its contract: the entries that are left, with what was seen of those before, come to what all of them come to.
-- Assumes nothing.
use Rattle.std.proofs.Common.{◌≡◌, ◌-◌, ◌<◌, refl, arith}
use Rattle.messages.proofs.Entries.{entries_many}
use Rattle.messages.proofs.Keys.{position_is}
use Rattle.signals.proofs.Gathering.{begins, repeats, goes_on, ends}
use Rattle.signals.proofs.Lists.gather.Goals as goal

pub loop-i-init : goal.loop-i-init
loop-i-init c = λ vs W. begins _ _ _ _ _ _ vs (λ k h. c.requires.2 k) W.are

pub returns-then-position-i : goal.returns-then-position-i
returns-then-position-i c = λ vs W.
    let l = c.loop-i in
    let h : 0 < c.args.entries.count - l.i = omega arith in
    repeats _ _ c.requires.0 (W.of_row (omega arith)) _ _ l.i l.self.keys l.self.flags (l.invariant vs W) h c.reference-key.ensures (position_is _ _ l.self.keys (omega arith) c.position.ensures) refl c.if-position-i.true

pub loop-i-preserved : goal.loop-i-preserved
loop-i-preserved c = λ vs W.
    let l = c.loop-i in
    let h : 0 < c.args.entries.count - l.i = omega arith in
    goes_on _ _ c.requires.0 (W.of_row (omega arith)) _ _ l.i l.self.keys l.self.flags (l.invariant vs W) h c.reference-key.ensures (position_is _ _ l.self.keys (omega arith) c.position.ensures) c.behind-at.ensures c.if-position-i.false (omega arith) c.entries_of-phases.ensures c.list_phases.ensures (omega arith)

pub returns : goal.returns
returns c = λ vs W.
    let l = c.loop-i in
    let left : c.args.entries.count - l.i ≡ 0 = omega arith in
    let E = ends _ _ _ _ l.i l.self.keys l.self.flags (l.invariant vs W) left in
    record { differ = E.0; all = entries_many _ _ _ _ W.are; filed = E.1 }
