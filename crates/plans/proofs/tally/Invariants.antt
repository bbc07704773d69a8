-- The invariant of the loop of `tally`: the messages before are counted, and those that are left stand behind them.
use Rattle.std.proofs.Common.{◌-◌, ◌≤◌, length}
use Rattle.plans.proofs.Tallying.{Going}
use Rattle.plans.proofs.tally.Given as goal

abbrev pub invariant-loop-m : goal.invariant-loop-m
invariant-loop-m l = (l.at ≤ length l.plan) × Going l.plan l.count (l.messages - l._m) l.at l.times
