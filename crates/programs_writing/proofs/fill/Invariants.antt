-- The invariant of the loop of `fill`: the first i cells are in the sheet.
use mathlib.Core.Path.{◌≡◌}
use lib.ListN.{length}
use lib.Seq.{sets}
use Rattle.programs_writing.specs.Cells.{cells_from}
use Rattle.programs_writing.proofs.fill.Given as goal

abbrev pub invariant-loop-i : goal.invariant-loop-i
invariant-loop-i l = (length l.sheet ≡ length l.initial.sheet) × (l.sheet ≡ sets l.initial.sheet 0 (cells_from l.i l.bytes))
