-- `parsing::append_wrong` meets its contract: nothing for a sheet.
-- Assumes nothing.
use mathlib.Core.Path.{sym, ap}
use native.Mathlib.Omega.{arith}
use lib.ListN.{length}
use Rattle.printing.proofs.Appending.{append_none, same_text}
use Rattle.parsing.specs.Complaints.{complaint}
use Rattle.parsing.specs.Sheets.{Parsed}
use Rattle.parsing.proofs.append_wrong.Goals as goal

pub returns-in-Ok : goal.returns-in-Ok
unfolding complaint
returns-in-Ok c = let e = c.in-Ok.is in
    record { text = same_text (sym (ap complaint e)) (append_none (omega arith)); room = omega (arith, ap (λ (p : Parsed). length (complaint p)) e) }
