-- `parsing::print_wrong` meets its contract: without room by the length that the first pass counted, else by the second pass.
-- Assumes nothing.
use native.Mathlib.Omega.{arith}
use Rattle.printing.proofs.Printing.{no_room_lem, put, print_says}
use Rattle.parsing.proofs.print_wrong.Goals as goal

pub returns-then-out-needed : goal.returns-then-out-needed
returns-then-out-needed c = let e = no_room_lem _ (c.args.out.now) (c.append_wrong-needed.ensures.text) (c.if-out-needed.true) in record { length = e.0; bytes = e.1; room = c.append_wrong-needed.ensures.room; says = print_says _ _ e.0 }

pub returns : goal.returns
returns c = let e = put _ (c.args.out.now) (c.append_wrong-needed.ensures.text) (omega arith) (c.if-out-needed.false) (c.append_wrong.ensures.text) in record { length = e.0; bytes = e.1; room = c.append_wrong-needed.ensures.room; says = print_says _ _ e.0 }
