-- The invariant of the loop of `append_hexadecimal`: the digits of the bytes so far are appended.
use lib.ListN.{take}
use Rattle.printing.specs.Digits.{hex_byte}
use Rattle.printing.specs.Texts.{each}
use Rattle.printing.specs.Buffers.{Appended}
use Rattle.printing.proofs.append_hexadecimal.Given as goal

abbrev pub invariant-loop-b : goal.invariant-loop-b
invariant-loop-b l = Appended (each hex_byte (take l.b-index l.first)) l.initial.out l.at l.next l.out
