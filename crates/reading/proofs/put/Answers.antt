-- `reading::put` meets its contract: a cell that the sheet does not have is counted only.
-- Assumes nothing.
use mathlib.Core.Path.{sym}
use native.Mathlib.Omega.{arith}
use lib.Seq.{set_out}
use borrow.Author.Rules.{rules}
use Rattle.reading.proofs.put.Goals as goal

pub returns-then-cell-sheet : goal.returns-then-cell-sheet
returns-then-cell-sheet c = (search rules, omega arith)

pub returns-then-cell-lt-FARTHEST : goal.returns-then-cell-lt-FARTHEST
returns-then-cell-lt-FARTHEST c = (sym (set_out _ _ _ c.if-cell-sheet.false), omega arith)

pub returns-else-cell-lt-FARTHEST : goal.returns-else-cell-lt-FARTHEST
returns-else-cell-lt-FARTHEST c = (sym (set_out _ _ _ c.if-cell-sheet.false), omega arith)
