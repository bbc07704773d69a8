-- `findings::put_line` meets its contract, by what was found.
-- Assumes nothing.
use native.Mathlib.Omega.{arith}
use Rattle.printing.specs.Texts.{ascii}
use Rattle.findings.specs.Told.{told}
use Rattle.findings.specs.Lines.{found_text}
use Rattle.findings.proofs.Lines.{nodes_short}
use Rattle.findings.proofs.put_line.Goals as goal

pub returns-in-Ruled : goal.returns-in-Ruled
unfolding told found_text
returns-in-Ruled c = rw (c.in-Ruled.is) (c.put_ruling.ensures)

pub returns-in-Profiled : goal.returns-in-Profiled
unfolding told found_text
returns-in-Profiled c = rw (c.in-Profiled.is) (c.put_profile.ensures)

pub returns-in-Compared : goal.returns-in-Compared
unfolding told found_text
returns-in-Compared c = rw (c.in-Compared.is) (c.put_verdict.ensures)

pub returns-in-Map : goal.returns-in-Map
unfolding told found_text ascii
returns-in-Map c = rw (c.in-Map.is) (record { text = c.append_sentence.ensures; short = nodes_short _ (omega (arith, c.in-Map.known_told-in-Map-1-own)) })

pub returns-in-NoMap : goal.returns-in-NoMap
unfolding told found_text ascii
returns-in-NoMap c = rw (c.in-NoMap.is) (record { text = c.append.ensures; short = omega arith })

pub returns-in-NoRule : goal.returns-in-NoRule
unfolding told found_text ascii
returns-in-NoRule c = rw (c.in-NoRule.is) (record { text = c.append-in-NoRule.ensures; short = omega arith })
