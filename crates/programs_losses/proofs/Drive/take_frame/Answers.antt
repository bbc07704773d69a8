-- `Drive::take_frame` meets its contract: whatever the length of the frame, cells enough are lent.
-- Assumes nothing.
use native.Mathlib.Omega.{arith}
use Rattle.programs_losses.proofs.Drive.take_frame.Goals as goal

pub read_frame-requires : goal.read_frame-requires
read_frame-requires c = (c.requires, λ h. omega arith)

pub read_frame-requires-then-frame-le-MIDDLE_FRAME : goal.read_frame-requires-then-frame-le-MIDDLE_FRAME
read_frame-requires-then-frame-le-MIDDLE_FRAME c = (c.requires, λ h. omega arith)

pub read_frame-requires-2 : goal.read_frame-requires-2
read_frame-requires-2 c = (c.requires, λ h. omega arith)
