-- `printing::print` meets its contract: without room by the length that the first pass counted, else by the second pass.
-- Assumes nothing.
use native.Mathlib.Omega.{arith}
use Rattle.printing.proofs.Printing.{no_room_lem, put, print_says}
use Rattle.printing.proofs.print.Goals as goal

pub returns-then-out-needed : goal.returns-then-out-needed
returns-then-out-needed g c =
    let first = c.requires.1.1 _ _ _ c.append-needed.ensures in
    let e = no_room_lem g.text c.args.out.now first c.if-out-needed.true in
    record { length = e.0; bytes = e.1; says = print_says _ _ e.0; called = (_, _, _, c.append-needed.ensures) }

pub returns : goal.returns
returns g c =
    let first = c.requires.1.1 _ _ _ c.append-needed.ensures in
    let e = put g.text c.args.out.now first (omega arith) c.if-out-needed.false (c.requires.1.1 _ _ _ c.append.ensures) in
    record { length = e.0; bytes = e.1; says = print_says _ _ e.0; called = (_, _, _, c.append-needed.ensures) }
