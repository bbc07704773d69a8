-- The invariant of the loop of `append`: the bytes of the text so far are appended.
use lib.ListN.{take}
use Rattle.printing.specs.Buffers.{Appended}
use Rattle.printing.proofs.append.Given as goal

abbrev pub invariant-loop-byte : goal.invariant-loop-byte
invariant-loop-byte l = Appended (take l.byte-index l.text) l.initial.out l.at l.next l.out
