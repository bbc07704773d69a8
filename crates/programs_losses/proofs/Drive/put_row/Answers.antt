-- `Drive::put_row` meets its contract: a row that is free, or the line of its sender. Assumes nothing.
use Rattle.programs_losses.proofs.Lines.{row_free, row_held}
use Rattle.programs_losses.proofs.Drive.put_row.Goals as goal

pub returns-in-Ok : goal.returns-in-Ok
returns-in-Ok c = let told = row_held c.args.row c.args.out.now c.in-Ok.ensures (c.put_sender.ensures.length, c.put_sender.ensures.bytes) in record { length = told.0; bytes = told.1 }

pub returns-in-Err : goal.returns-in-Err
returns-in-Err c = let told = row_free c.args.row c.args.out.now c.in-Err.field-0 c.in-Err.ensures in record { length = told.0; bytes = told.1 }
