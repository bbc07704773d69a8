-- `reading::taken` meets its contract: its three answers, by whether the bits are there and the code is in its range.
-- Assumes nothing.
use native.Mathlib.Omega.{arith}
use Rattle.answers.specs.declared.reasons.Reason.TheVariants as reason
use Rattle.bits.proofs.Numbers.{width_fewest, width_pos}
use Rattle.reading.proofs.Leaves.{taken_short, taken_outside, taken_code}
use borrow.Author.Rules.{rules}
use Rattle.reading.proofs.taken.Goals as goal

pub overflow_add-at : goal.overflow_add-at
overflow_add-at c = omega (arith, c.requires.0.few, c.requires.0.place, c.requires.1, width_fewest (c.args.span) 32 (c.requires.2))

pub overflow_add-at-then-total-at : goal.overflow_add-at-then-total-at
overflow_add-at-then-total-at c = omega (arith, c.requires.0.few, c.requires.0.place, c.requires.1, width_fewest c.args.span 32 c.requires.2)

pub short-requires : goal.short-requires
short-requires c = (omega (arith, c.requires.0.place, c.requires.1, c.if-total-at.true, width_fewest c.args.span 32 c.requires.2), omega (arith, c.requires.0.few, c.requires.0.place))

pub returns-then-total-at : goal.returns-then-total-at
returns-then-total-at c = taken_short (c.requires.0) reason.Outside 0 _ (c.requires.1) _ (c.if-total-at.true) (c.short.ensures.0)

pub code-found-requires : goal.code-found-requires
code-found-requires c = let n = width_pos c.args.span c.requires.3 in (omega (arith, c.if-total-at.false, c.requires.0.padded), omega (arith, c.requires.1, n), omega (arith, c.requires.1, width_fewest c.args.span 32 c.requires.2))

pub no-requires : goal.no-requires
no-requires c = omega (arith, c.requires.0.few, c.requires.0.place)

pub returns-then-span-found : goal.returns-then-span-found
returns-then-span-found c = taken_outside (c.requires.0) reason.Outside 0 _ (c.requires.1) (c.if-total-at.false) (c.code-found.ensures) _ (c.if-span-found.true) (c.no.ensures)

pub returns : goal.returns
returns c = taken_code (c.requires.0) reason.Outside 0 _ (c.requires.1) (c.if-total-at.false) (c.code-found.ensures) (c.if-span-found.false) (c.requires.2)
