-- `signals::list_phases` meets its contract: what is left to be listed, behind what is flagged already, comes to all of it.
-- Assumes nothing.
use Rattle.std.proofs.Common.{◌≡◌, ℕ, ◌+◌, ◌-◌, ◌*◌, ◌%◌, ◌<◌, ◌≤◌, Bool, true, List, length, ap, subst, arith}
use lib.ListN.{set}
use Rattle.sheet.specs.Standing.{Entries}
use Rattle.sheet.proofs.Standing.{entries_none}
use Rattle.messages.specs.Message.{each}
use Rattle.signals.specs.Phases.{listed_phase}
use Rattle.signals.specs.Steps.{flags_each, Marked}
use Rattle.signals.proofs.Flags.{none_marked, one_marked}
use Rattle.signals.proofs.Stepping.{next_phase}
use Rattle.signals.proofs.list_phases.Goals as goal

pub loop-n-init : goal.loop-n-init
loop-n-init c = λ vs W.
    let all : c.args.phases.count ≡ c.args.phases.count - 0 = omega arith in
    (vs, subst (λ (n : ℕ). Entries c.args.sheet.now c.args.phases.row c.args.phases.place n vs) all W.are, λ after M. M)

pub loop-n-preserved : goal.loop-n-preserved
loop-n-preserved c = λ vs W.
    let n : ℕ = c.number_of.result in
    let flags : List Bool = c.loop-n.flags in
    let R = c.loop-n.invariant vs W in
    let h : 0 < c.args.phases.count - c.loop-n._n = omega arith in
    let P = next_phase _ c.requires.0 _ _ _ (W.of_row (omega arith)) h R.1 c.number_of.ensures c.behind-at.ensures in
    let same : n % 256 ≡ n = omega (arith, P.few) in
    let room : flags_each * c.args.i + flags_each ≤ length flags = omega arith in
    let less : c.args.phases.count - c.loop-n._n - 1 ≡ c.args.phases.count - (c.loop-n._n + 1) = omega arith in
    (P.rest, subst (λ (k : ℕ). Entries c.args.sheet.now c.args.phases.row c.behind-at.result k P.rest) less P.are, λ after M. R.2 after (rw P.is (one_marked (flags_each * c.args.i) n P.few flags room (subst (λ (k : ℕ). Marked (flags_each * c.args.i) (each listed_phase P.rest) (set flags (flags_each * c.args.i + k) true) after) same M))))

pub returns : goal.returns
unfolding each
returns c = λ vs W. let R = c.loop-n.invariant vs W in R.2 _ (none_marked _ _ (ap (each listed_phase) (entries_none _ _ _ _ (omega arith) R.1)))
