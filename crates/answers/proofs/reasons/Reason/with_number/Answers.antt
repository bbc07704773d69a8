-- The reason that is looked at is told by the number, or the search goes on behind it.
use Rattle.std.proofs.Common.{◌≡◌, ◌∙◌, sym, ℕ, arith}
use Rattle.answers.specs.Reasons.{every_reason}
use Rattle.answers.specs.declared.reasons.Reason.TheVariants as reason
use Rattle.answers.proofs.Numbered.{first_here, first_further, first_nowhere}
use Rattle.answers.proofs.reasons.Reason.with_number.Goals as goal

pub returns-then-number : goal.returns-then-number
returns-then-number c = sym (first_here c.args.number every_reason c.loop-reason.reason-index reason.TooLong c.loop-reason-test.true (sym c.number.ensures.is ∙ c.if-number.true)) ∙ c.loop-reason.invariant

pub loop-reason-preserved : goal.loop-reason-preserved
loop-reason-preserved c = sym (first_further c.args.number every_reason c.loop-reason.reason-index reason.TooLong c.loop-reason-test.true (λ e. c.if-number.false (c.number.ensures.is ∙ e))) ∙ c.loop-reason.invariant

pub returns : goal.returns
returns c = sym (first_nowhere c.args.number every_reason c.loop-reason.reason-index c.loop-reason-test.false) ∙ c.loop-reason.invariant
