-- `writing::write_type` meets its contract: whichever bytes the message is made in, it is handed over.
-- Assumes nothing.
use native.Mathlib.Omega.{arith}
use Rattle.writing.proofs.Entry.{table_ready, was_made, zero_stands, fresh_room}
use Rattle.writing.proofs.write_type.Goals as goal

pub walk-r-requires : goal.walk-r-requires
walk-r-requires c = (table_ready (c.requires.0) (c.args.row) (c.args.sheet.now), c.requires.1, zero_stands (c.args.sheet.now) 260 (omega arith) (c.requires.2))

pub hand_over-requires : goal.hand_over-requires
hand_over-requires c = λ few. omega (arith, c.if-r-le-SHORT_BITS.true, fresh_room 260 (c.walk-r.result) (c.walk-r.new.out) (c.walk-r.ensures) (omega arith))

pub returns-then-r-le-SHORT_BITS : goal.returns-then-r-le-SHORT_BITS
returns-then-r-le-SHORT_BITS c = c.hand_over.ensures _ (was_made (c.requires.0) (c.args.row) (c.args.sheet.now) 260 (c.walk-r.result) (omega arith) (c.walk-r.ensures))

pub walk-r-requires-2 : goal.walk-r-requires-2
walk-r-requires-2 c = (table_ready (c.requires.0) (c.args.row) (c.args.sheet.now), c.requires.1, zero_stands (c.args.sheet.now) 2052 (omega arith) (c.requires.2))

pub hand_over-requires-2 : goal.hand_over-requires-2
hand_over-requires-2 c = λ few. omega (arith, fresh_room 2052 (c.walk-r-2.result) (c.walk-r-2.new.out) (c.walk-r-2.ensures) (omega arith))

pub returns : goal.returns
returns c = c.hand_over-2.ensures _ (was_made (c.requires.0) (c.args.row) (c.args.sheet.now) 2052 (c.walk-r-2.result) (omega arith) (c.walk-r-2.ensures))
