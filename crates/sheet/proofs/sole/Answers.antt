-- `sheet::sole` meets its contract. Assumes nothing.
use Rattle.passing.proofs.Laws.{handed}
use Rattle.sheet.proofs.Alone.{sole_refused, sole_spare, sole_ends}
use Rattle.sheet.proofs.sole.Goals as goal

pub returns-in_err-next : goal.returns-in_err-next
returns-in_err-next c = let told = sole_refused _ _ _ c.pass.ensures.answer c.in_err-next.was (handed c.from_residual.ensures.1) in record { answer = told.0; says = told.1 }

pub returns-then-next-sheet : goal.returns-then-next-sheet
returns-then-next-sheet c = let told = sole_spare _ _ _ c.pass.ensures.answer c.in_ok-next.was c.new.ensures c.if-next-sheet.true in record { answer = told.0; says = told.1 }

pub returns : goal.returns
returns c = let told = sole_ends _ _ _ c.pass.ensures.answer c.in_ok-next.was c.if-next-sheet.false in record { answer = told.0; says = told.1 }
