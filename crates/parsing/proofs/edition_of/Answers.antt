-- `parsing::edition_of` meets its contract: the word, and the number behind it.
-- Assumes nothing.
use mathlib.Core.Path.{refl, ap, ◌∙◌}
use Rattle.printing.specs.Texts.{ascii}
use Rattle.parsing.specs.Numbers.{edition_word, edition_of, whole_of}
use Rattle.parsing.proofs.Numbers.{begins_strip}
use Rattle.parsing.proofs.edition_of.Goals as goal

pub returns-in-Some : goal.returns-in-Some
unfolding edition_of ascii
returns-in-Some c = let h = c.in-Some.ensures.cases in rw (begins_strip edition_word c.args.line.now ∙ h.0) (c.whole_of.ensures ∙ ap whole_of h.1)

pub returns-in-None : goal.returns-in-None
unfolding edition_of ascii
returns-in-None c = let h = c.in-None.ensures.cases in rw (begins_strip edition_word c.args.line.now ∙ h) refl
