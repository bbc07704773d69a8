-- `findings::put_profile` meets its contract: nothing is wrong, or why.
-- Assumes nothing.
use native.Mathlib.Omega.{arith}
use Rattle.printing.specs.Texts.{ascii}
use Rattle.rules.specs.Breaches.{told}
use Rattle.findings.specs.Lines.{profile_line}
use Rattle.findings.proofs.put_profile.Goals as goal

pub returns-in-Ok : goal.returns-in-Ok
unfolding ascii profile_line told
returns-in-Ok c = rw c.in-Ok.is (record { text = c.append.ensures; short = omega arith })

pub returns-in-Err : goal.returns-in-Err
unfolding told
returns-in-Err c = rw c.in-Err.is (record { text = c.put_lack.ensures.text; short = c.put_lack.ensures.short })
