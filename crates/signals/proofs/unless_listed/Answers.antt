-- `signals::unless_listed` meets its contract: the flag of the phase says whether it is listed.
-- Assumes nothing.
use Rattle.std.proofs.Common.{◌≡◌, ℕ, ◌%◌, false, get_or, sym, ap, ◌∙◌, arith}
use Rattle.signals.proofs.Searching.{none_one, listed_one, unlisted_one}
use Rattle.signals.proofs.unless_listed.Goals as goal

pub returns-then-phase-eq0 : goal.returns-then-phase-eq0
returns-then-phase-eq0 c = λ says F few. none_one says c.args.phase c.if-phase-eq0.true

pub returns-then-listed-phase : goal.returns-then-listed-phase
returns-then-listed-phase c = λ says F few.
    let same : c.args.phase % 256 ≡ c.args.phase = omega arith in
    listed_one says c.args.phase (F c.args.phase few ∙ ap (λ (k : ℕ). get_or c.args.listed.now k false) (sym same) ∙ c.if-listed-phase.true)

pub returns : goal.returns
returns c = λ says F few.
    let same : c.args.phase % 256 ≡ c.args.phase = omega arith in
    (unlisted_one says c.args.phase (F c.args.phase few ∙ ap (λ (k : ℕ). get_or c.args.listed.now k false) (sym same) ∙ c.if-listed-phase.false), c.if-phase-eq0.false)
