-- `programs_checking::check_message` meets its contract: whatever the length of the frame, cells enough are lent.
-- Assumes nothing.
use native.Mathlib.Omega.{arith}
use Rattle.programs_checking.proofs.Checks.{held_few, whole_memory}
use Rattle.programs_checking.proofs.check_message.Goals as goal

pub judge-requires : goal.judge-requires
judge-requires c = ((λ h. omega arith), omega arith, omega arith, omega (arith, held_few c.args.map.now c.args.cells c.in_force-held.ensures))

pub returns-then-frame-le-SHORT_FRAME : goal.returns-then-frame-le-SHORT_FRAME
returns-then-frame-le-SHORT_FRAME c = let told = whole_memory c.args.map.now c.args.cells c.in_force-held.ensures c.args.frame.now c.args.out.now (c.judge.ensures.answer, (c.judge.ensures.bytes, c.judge.ensures.map)) in record { answer = told.0; bytes = told.1.0; map = told.1.1 }

pub judge-requires-then-frame-le-MIDDLE_FRAME : goal.judge-requires-then-frame-le-MIDDLE_FRAME
judge-requires-then-frame-le-MIDDLE_FRAME c = ((λ h. omega arith), omega arith, omega arith, omega (arith, held_few c.args.map.now c.args.cells c.in_force-held.ensures))

pub returns-then-frame-le-MIDDLE_FRAME : goal.returns-then-frame-le-MIDDLE_FRAME
returns-then-frame-le-MIDDLE_FRAME c = let told = whole_memory c.args.map.now c.args.cells c.in_force-held.ensures c.args.frame.now c.args.out.now (c.judge-then-frame-le-MIDDLE_FRAME.ensures.answer, (c.judge-then-frame-le-MIDDLE_FRAME.ensures.bytes, c.judge-then-frame-le-MIDDLE_FRAME.ensures.map)) in record { answer = told.0; bytes = told.1.0; map = told.1.1 }

pub judge-requires-2 : goal.judge-requires-2
judge-requires-2 c = ((λ h. omega arith), omega arith, omega arith, omega (arith, held_few c.args.map.now c.args.cells c.in_force-held.ensures))

pub returns : goal.returns
returns c = let told = whole_memory c.args.map.now c.args.cells c.in_force-held.ensures c.args.frame.now c.args.out.now (c.judge-2.ensures.answer, (c.judge-2.ensures.bytes, c.judge-2.ensures.map)) in record { answer = told.0; bytes = told.1.0; map = told.1.1 }
