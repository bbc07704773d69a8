-- `plans::tally` meets its contract: the messages that are left, behind those before, are all of them.
-- Assumes nothing.
use Rattle.std.proofs.Common.{◌≡◌, ◌+◌, ◌-◌, ℕ, refl, subst, arith}
use Rattle.plans.proofs.Tallying.{Going, goes_small, no_cells, begins_not, begins, cells_end, wrong_count, next_message, ends}
use Rattle.plans.proofs.tally.Goals as goal

pub returns-then-cells-eq0 : goal.returns-then-cells-eq0
returns-then-cells-eq0 c = no_cells _ _ _ (c.if-cells-eq0.true)

pub number_at-messages-requires : goal.number_at-messages-requires
number_at-messages-requires c = omega (arith, c.if-cells-eq0)

pub returns-then-cells-messages : goal.returns-then-cells-messages
returns-then-cells-messages c = begins_not _ _ (c.number_at-messages.ensures) (c.if-cells-eq0.false) _ (c.if-cells-messages.true)

pub loop-m-init : goal.loop-m-init
loop-m-init c = let all : c.number_at-messages.result ≡ c.number_at-messages.result - 0 = omega arith in (omega (arith, c.if-cells-eq0, c.if-cells-messages), subst (λ (n : ℕ). Going c.args.plan.now c.args.count n 1 c.args.times.now) all (begins _ _ (c.number_at-messages.ensures) (c.if-cells-eq0.false) _ (c.requires.2) (omega (arith, c.if-cells-messages))))

pub returns-then-cells-at : goal.returns-then-cells-at
returns-then-cells-at c = cells_end _ _ _ _ _ c.loop-m.invariant.1 (omega (arith, c.loop-m-test.true)) (c.if-cells-at.true)

pub number_at-n-requires : goal.number_at-n-requires
number_at-n-requires c = omega (arith, c.if-cells-at)

pub returns-then-room-n : goal.returns-then-room-n
returns-then-room-n c = wrong_count _ _ _ _ _ c.loop-m.invariant.1 (omega (arith, c.loop-m-test.true)) (omega (arith, c.if-cells-at)) refl (c.number_at-n.ensures) (c.if-room-n.true)

pub count_message-requires : goal.count_message-requires
count_message-requires c = (omega (arith, c.if-cells-at, c.if-room-n), c.requires.0, omega arith, goes_small _ _ _ _ _ c.loop-m.invariant.1)

pub loop-m-preserved : goal.loop-m-preserved
loop-m-preserved c = let less : c.number_at-messages.result - c.loop-m._m - 1 ≡ c.number_at-messages.result - (c.loop-m._m + 1) = omega arith in (omega (arith, c.if-cells-at, c.if-room-n), subst (λ (n : ℕ). Going c.args.plan.now c.args.count n (c.loop-m.at + 1 + c.number_at-n.result) c.count_message.new.times) less (next_message _ _ _ _ _ c.loop-m.invariant.1 (omega (arith, c.loop-m-test.true)) (omega (arith, c.if-cells-at)) refl (c.number_at-n.ensures) (omega (arith, c.if-room-n)) (c.count_message.ensures)))

pub returns : goal.returns
returns c = ends _ _ _ _ _ c.loop-m.invariant.1 (omega (arith, c.loop-m-test)) c.loop-m.invariant.0 _ refl
