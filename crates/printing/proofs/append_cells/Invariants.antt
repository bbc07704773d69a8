-- The invariant of the loop of `append_cells`: the lines of the cells so far are appended, and each is short enough.
use Prim.Native.Nat.{◌*◌, ◌≤◌}
use lib.ListN.{length, take}
use Rattle.printing.specs.Texts.{each, cell_line, longest_cell_line}
use Rattle.printing.specs.Buffers.{Appended}
use Rattle.printing.proofs.append_cells.Given as goal

abbrev pub invariant-loop-cell : goal.invariant-loop-cell
invariant-loop-cell l = Appended (each cell_line (take l.cell-index l.first)) l.initial.out l.at l.next l.out × (length (each cell_line (take l.cell-index l.first)) ≤ longest_cell_line * l.cell-index)
