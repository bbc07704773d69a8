-- `rules::breach_among` meets its contract: what is told of the entries that are left, counted from the next, is told of all of them, and what is told of
-- an entry is the rule that it breaks.
-- Assumes nothing.
use Rattle.std.proofs.Common.{◌≡◌, ◌<◌, ◌-◌, ◌∙◌, ℕ, subst, arith}
use Rattle.sheet.specs.Standing.{Entries}
use Rattle.messages.proofs.Told.{none_left, said_here, said_later}
use Rattle.rules.specs.Breaches.{told}
use Rattle.rules.proofs.Breaches.{named, sought, told_breach}
use Rattle.rules.proofs.breach_among.Goals as goal

pub loop-i-init : goal.loop-i-init
loop-i-init g c = λ table row vs known W.
    let all : c.args.list.count ≡ c.args.list.count - 0 = omega arith in
    (vs, subst (λ (n : ℕ). Entries c.args.sheet.now c.args.list.row c.args.list.place n vs) all W.are, λ told S. S)

pub returns-in-Some : goal.returns-in-Some
unfolding told named
returns-in-Some g c = λ table broken_by row vs known W judges.
    let left : 0 < c.args.list.count - c.loop-i.i = omega (arith, c.loop-i-test.true) in
    let er : c.args.list.row ≡ row = W.of_row (omega arith) in
    let R = c.loop-i.invariant table row vs known W in
    let S = R.2 _ (said_here _ c.args.sheet.now c.args.list row c.loop-i.at (c.args.list.count - c.loop-i.i) c.loop-i.i R.1 table (omega (arith, er, known)) left er c.rule.ensures c.in-Some.is) in
    told_breach c.new.ensures ∙ sought _ _ _ row broken_by judges 0 vs _ S

pub loop-i-preserved : goal.loop-i-preserved
loop-i-preserved g c = λ table row vs known W.
    let left : 0 < c.args.list.count - c.loop-i.i = omega (arith, c.loop-i-test.true) in
    let er : c.args.list.row ≡ row = W.of_row (omega arith) in
    let R = c.loop-i.invariant table row vs known W in
    let N = said_later _ c.args.sheet.now c.args.list row c.loop-i.at (c.args.list.count - c.loop-i.i) c.loop-i.i R.1 table (omega (arith, er, known)) left er c.rule.ensures c.in_default.is c.behind-at.ensures (omega arith) in
    (N.0, N.1, λ told S. R.2 told (N.2 told S))

pub returns : goal.returns
unfolding told named
returns g c = λ table broken_by row vs known W judges.
    let R = c.loop-i.invariant table row vs known W in
    let S = R.2 _ (none_left _ c.args.sheet.now c.args.list row c.loop-i.at (c.args.list.count - c.loop-i.i) c.loop-i.i R.1 (omega (arith, c.loop-i-test.false))) in
    sought _ _ _ row broken_by judges 0 vs _ S
