-- The invariant of the loop of `measure`: the entries before are measured, and those that are left stand behind them.
use Rattle.std.proofs.Common.{◌≡◌, ◌≤◌, length}
use Rattle.rules.specs.Lists.{item_row}
use Rattle.packing.proofs.Measuring.{Going}
use Rattle.packing.proofs.measure.Given as goal

abbrev pub invariant-loop-i : goal.invariant-loop-i
invariant-loop-i l = (l.at ≤ length l.entries) × ((er : l.row ≡ item_row l.signs) → Going l.signs l.entries l.row l.count er l.initial.sizes l.at l.i l.sizes)
