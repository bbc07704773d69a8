-- The invariant of the loop of `breach_among`: what is told of the entries that are left is told of all.
use Rattle.std.proofs.Common.{◌≡◌, ◌<◌, ◌-◌, ℕ, Option}
use Rattle.answers.specs.declared.reasons.Reason.{Reason}
use Rattle.types.specs.Rows
use Rattle.types.specs.Table.{numbers}
use Rattle.meaning.specs.Values.{Values}
use Rattle.sheet.specs.Standing.{Entries}
use Rattle.messages.specs.Taking.{Rowed}
use Rattle.messages.specs.Seeking.{Sought}
use Rattle.rules.proofs.breach_among.Given as goal

abbrev pub invariant-loop-i : goal.invariant-loop-i
invariant-loop-i g l =
    l.rows ≡ numbers Rows.rows → (row : ℕ) (vs : Values) → row < 414 → Rowed l.sheet row l.list vs
    → (rest : Values) × Entries l.sheet l.list.row l.at (l.list.count - l.i) rest
    × ((told : Option (ℕ × Reason)) → Sought (goal.F-post g l.rule) l.sheet l.list row l.i rest told → Sought (goal.F-post g l.rule) l.sheet l.list row 0 vs told)
