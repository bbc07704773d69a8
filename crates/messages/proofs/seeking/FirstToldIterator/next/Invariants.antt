-- The invariant of the loop of `FirstTold::next`: what is told of the entries that are left is told of all.
use Rattle.std.proofs.Common.{◌≡◌, ◌<◌, ◌-◌, ℕ, Option}
use Rattle.types.specs.Rows
use Rattle.types.specs.Table.{numbers}
use Rattle.meaning.specs.Values.{Values}
use Rattle.sheet.specs.Standing.{Entries}
use Rattle.messages.specs.Taking.{Rowed}
use Rattle.messages.specs.Seeking.{Sought}
use Rattle.messages.proofs.seeking.FirstToldIterator.next.Given as goal

abbrev pub invariant-loop-i : goal.invariant-loop-i
invariant-loop-i g l =
    l.self.rows.now ≡ numbers Rows.rows → (row : ℕ) (vs : Values) → row < 414 → Rowed l.self.sheet.now row l.list vs
    → (rest : Values) × Entries l.self.sheet.now l.list.row l.at (l.list.count - l.i) rest
    × ((told : Option (ℕ × g.row.T.Denot)) → Sought (goal.F-post g l.self.tell) l.self.sheet.now l.list row l.i rest told → Sought (goal.F-post g l.self.tell) l.self.sheet.now l.list row 0 vs told)
