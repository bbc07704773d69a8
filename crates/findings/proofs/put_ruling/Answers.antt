-- `findings::put_ruling` meets its contract: nothing is wrong, or why.
-- Assumes nothing.
use native.Mathlib.Omega.{arith}
use Rattle.printing.specs.Texts.{ascii}
use Rattle.rules.specs.Breaches.{told}
use Rattle.findings.specs.Lines.{ruling_line}
use Rattle.findings.proofs.put_ruling.Goals as goal

pub returns-in-Ok : goal.returns-in-Ok
unfolding ascii ruling_line told
returns-in-Ok c = rw c.in-Ok.is (record { text = c.append.ensures; short = omega arith })

pub returns-in-Err : goal.returns-in-Err
unfolding told
returns-in-Err c = rw c.in-Err.is (record { text = c.put_breach.ensures.text; short = c.put_breach.ensures.short })
