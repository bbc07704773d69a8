-- `FirstTold::next` meets its contract: what is told of the entries that are left, counted from the next, is told of all of them.
-- Assumes nothing.
use Rattle.std.proofs.Common.{◌≡◌, ◌<◌, ◌-◌, ℕ, refl, subst, arith}
use Rattle.sheet.specs.Standing.{Entries}
use Rattle.messages.proofs.Told.{none_left, said_here, said_later}
use Rattle.messages.proofs.seeking.FirstToldIterator.next.Goals as goal

pub loop-i-init : goal.loop-i-init
loop-i-init g c = λ table row vs known W.
    let s = c.args.self.now in
    let all : s.list.count ≡ s.list.count - 0 = omega arith in
    (vs, subst (λ (n : ℕ). Entries s.sheet.now s.list.row s.list.place n vs) all W.are, λ told S. S)

pub returns-in-Some-clause-steps : goal.returns-in-Some-clause-steps
returns-in-Some-clause-steps g c = (
  λ table row vs known W.
      let s = c.args.self.now in
      let left : 0 < s.list.count - c.loop-i.i = omega (arith, c.loop-i-test.true) in
      let er : s.list.row ≡ row = W.of_row (omega arith) in
      let R = c.loop-i.invariant table row vs known W in
      R.2 _ (said_here _ s.sheet.now s.list row c.loop-i.at (s.list.count - c.loop-i.i) c.loop-i.i R.1 table (omega (arith, er, known)) left er c.tell.ensures c.in-Some.is),
  refl,
)

pub loop-i-preserved : goal.loop-i-preserved
loop-i-preserved g c = λ table row vs known W.
    let s = c.args.self.now in
    let left : 0 < s.list.count - c.loop-i.i = omega (arith, c.loop-i-test.true) in
    let er : s.list.row ≡ row = W.of_row (omega arith) in
    let R = c.loop-i.invariant table row vs known W in
    let N = said_later _ s.sheet.now s.list row c.loop-i.at (s.list.count - c.loop-i.i) c.loop-i.i R.1 table (omega (arith, er, known)) left er c.tell.ensures c.in_default.is c.behind-at.ensures (omega arith) in
    (N.0, N.1, λ told S. R.2 told (N.2 told S))

pub returns-clause-steps : goal.returns-clause-steps
returns-clause-steps g c = (
  λ table row vs known W.
      let s = c.args.self.now in
      let R = c.loop-i.invariant table row vs known W in
      R.2 _ (none_left _ s.sheet.now s.list row c.loop-i.at (s.list.count - c.loop-i.i) c.loop-i.i R.1 (omega (arith, c.loop-i-test.false))),
  refl,
)
