-- `plans::judge_messages` meets its contract: the messages that are left come to what all of them come to.
-- Assumes nothing.
use native.Mathlib.Omega.{arith}
use mathlib.Core.Path.{sym, ◌∙◌}
use Rattle.rules.specs.Breaches.{told}
use Rattle.rules.proofs.Breaches.{told_breach}
use Rattle.plans.proofs.Judging.{begins, within, stops, goes_on, ends}
use Rattle.plans.proofs.judge_messages.Goals as goal

pub loop-m-init : goal.loop-m-init
loop-m-init c = begins _ _ (c.requires.0.1) (c.number_at-many.ensures)

pub overflow_add-at : goal.overflow_add-at
overflow_add-at c = omega (arith, within _ _ _ (c.loop-m.at) (c.loop-m.m) (c.loop-m.invariant) (c.loop-m-test.true) (c.number_at-n.ensures))

pub fits-requires : goal.fits-requires
fits-requires c = (within _ _ _ (c.loop-m.at) (c.loop-m.m) (c.loop-m.invariant) (c.loop-m-test.true) (c.number_at-n.ensures), c.requires.1, c.requires.2, c.requires.3)

pub returns-then-not-fits : goal.returns-then-not-fits
returns-then-not-fits c = λ messages p. told_breach c.new.ensures ∙ stops _ _ _ (c.loop-m.at) (c.loop-m.m) (c.loop-m.invariant) (c.loop-m-test.true) (c.number_at-n.ensures) (sym (c.fits.ensures) ∙ c.if-not-fits.true) messages p

pub overflow_add-at-in-loop-m : goal.overflow_add-at-in-loop-m
overflow_add-at-in-loop-m c = omega (arith, within _ _ _ (c.loop-m.at) (c.loop-m.m) (c.loop-m.invariant) (c.loop-m-test.true) (c.number_at-n.ensures))

pub overflow_add-at-in-loop-m-2 : goal.overflow_add-at-in-loop-m-2
overflow_add-at-in-loop-m-2 c = omega (arith, within _ _ _ (c.loop-m.at) (c.loop-m.m) (c.loop-m.invariant) (c.loop-m-test.true) (c.number_at-n.ensures))

pub loop-m-preserved : goal.loop-m-preserved
loop-m-preserved c = goes_on _ _ _ (c.loop-m.at) (c.loop-m.m) (c.loop-m.invariant) (c.loop-m-test.true) (c.number_at-n.ensures) (sym (c.fits.ensures) ∙ c.if-not-fits.false)

pub returns : goal.returns
unfolding told
returns c = λ messages p. ends _ _ _ (c.loop-m.at) (c.loop-m.m) (c.loop-m.invariant) (c.loop-m-test.false) messages p
