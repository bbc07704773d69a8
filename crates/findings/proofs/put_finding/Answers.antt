-- `findings::put_finding` meets its contract: every line fits into the buffer.
-- Assumes nothing.
use native.Mathlib.Omega.{arith}
use Rattle.findings.specs.Told.{told}
use Rattle.findings.specs.Lines.{found_text}
use Rattle.findings.proofs.Lines.{line_put}
use Rattle.findings.proofs.put_finding.Goals as goal

pub returns : goal.returns
returns c = let told = line_put (found_text (told c.args.finding)) _ (omega arith) (c.put_line.ensures.text) (c.put_line.ensures.short) in record { length = told.0; bytes = told.1 }
