-- `parsing::line_end` meets its contract: behind the first end of a line, or with the text.
-- Assumes nothing.
use mathlib.Core.Path.{ap, ◌∙◌}
use native.Mathlib.Omega.{arith}
use lib.ListN.{drop, length-drop}
use Rattle.std.specs.Prelude.{position, ◌==◌}
use Rattle.printing.specs.Characters.{line_end}
use Rattle.parsing.proofs.Lines.{break_found, break_none, rest_all}
use Rattle.parsing.proofs.line_end.Goals as goal

pub returns-in-Some : goal.returns-in-Some
returns-in-Some c = omega (arith, break_found (drop c.args.at c.args.input.now) (c.line_break.ensures ∙ ap (position (λ b. b == line_end)) (rest_all c.args.input.now c.args.at)) c.in-Some.is)

pub returns-in-None : goal.returns-in-None
returns-in-None c = omega (arith, break_none (drop c.args.at c.args.input.now) (c.line_break.ensures ∙ ap (position (λ b. b == line_end)) (rest_all c.args.input.now c.args.at)) c.in-None.is, length-drop c.args.at c.args.input.now)
