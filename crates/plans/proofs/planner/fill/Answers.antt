-- `plans::planner::fill` meets its contract: the messages so far stand in front, and those that are left come behind them.
-- Assumes nothing.
use native.Mathlib.Omega.{arith}
use mathlib.Core.Path.{sym, ap, ◌∙◌}
use lib.IntN.{ℤ, pos}
use lib.ListN.{length, set, length-set, length-replicate}
use mir.Syntax.{w64}
use mir.ValLaws.{to_z_pos}
use Rattle.plans.proofs.Storing.{begins, still_long, one_at_least, no_more, goes_on, all_cells, all_stored}
use Rattle.plans.proofs.planner.fill.Goals as goal

pub loop-from-init : goal.loop-from-init
loop-from-init c = (omega arith, λ each. begins _ _ each (c.requires.5))

pub most_from-n-requires : goal.most_from-n-requires
most_from-n-requires c = (c.loop-from.invariant.0, c.requires.0, c.requires.2, c.requires.3)

pub put_message-requires : goal.put_message-requires
put_message-requires c = let each = c.requires.4 in let G = c.loop-from.invariant.1 each in let some = one_at_least _ _ each (c.loop-from.at) (c.loop-from.from) (c.loop-from.messages) (c.loop-from.made) G (c.loop-from-test.true) (c.most_from-n.ensures) in let all = no_more _ _ each (c.loop-from.at) (c.loop-from.from) (c.loop-from.messages) (c.loop-from.made) G (c.loop-from-test.true) (c.most_from-n.ensures) in (omega (arith, G.room, some, all, still_long _ _ each (c.loop-from.at) (c.loop-from.from) (c.loop-from.messages) (c.loop-from.made) G, c.requires.1), omega (arith, all, c.requires.1))

pub overflow_add-at : goal.overflow_add-at
overflow_add-at c = let each = c.requires.4 in let G = c.loop-from.invariant.1 each in omega (arith, G.room, c.loop-from.invariant.0, c.requires.1)

pub overflow_add-at-in-loop-from : goal.overflow_add-at-in-loop-from
overflow_add-at-in-loop-from c = let each = c.requires.4 in let G = c.loop-from.invariant.1 each in let all = no_more _ _ each (c.loop-from.at) (c.loop-from.from) (c.loop-from.messages) (c.loop-from.made) G (c.loop-from-test.true) (c.most_from-n.ensures) in omega (arith, G.room, all, c.loop-from.invariant.0, c.requires.1)

pub overflow_add-from : goal.overflow_add-from
overflow_add-from c = let each = c.requires.4 in let G = c.loop-from.invariant.1 each in let all = no_more _ _ each (c.loop-from.at) (c.loop-from.from) (c.loop-from.messages) (c.loop-from.made) G (c.loop-from-test.true) (c.most_from-n.ensures) in omega (arith, all, c.requires.1)

pub overflow_add-messages : goal.overflow_add-messages
overflow_add-messages c = let each = c.requires.4 in let G = c.loop-from.invariant.1 each in omega (arith, G.some, c.loop-from.invariant.0, c.requires.1)

pub loop-from-smaller : goal.loop-from-smaller
loop-from-smaller c = let each = c.requires.4 in let G = c.loop-from.invariant.1 each in let some = one_at_least _ _ each (c.loop-from.at) (c.loop-from.from) (c.loop-from.messages) (c.loop-from.made) G (c.loop-from-test.true) (c.most_from-n.ensures) in omega (arith, some, c.loop-from-test.true)

pub loop-from-preserved : goal.loop-from-preserved
loop-from-preserved c = let own = c.requires.4 in let G = c.loop-from.invariant.1 own in let all = no_more _ _ own (c.loop-from.at) (c.loop-from.from) (c.loop-from.messages) (c.loop-from.made) G (c.loop-from-test.true) (c.most_from-n.ensures) in (all, λ each. goes_on _ _ each (c.loop-from.at) (c.loop-from.from) (c.loop-from.messages) (c.loop-from.made) (c.loop-from.invariant.1 each) (c.loop-from-test.true) (c.most_from-n.ensures) (c.put_message.ensures))

pub overflow_cast-made : goal.overflow_cast-made
overflow_cast-made c = let each = c.requires.4 in let G = c.loop-from.invariant.1 each in record { sfits = omega (arith, G.some, c.loop-from.invariant.0, c.requires.1) }

pub bounds-made-0 : goal.bounds-made-0
bounds-made-0 c = let each = c.requires.4 in omega (arith, still_long _ _ each (c.loop-from.at) (c.loop-from.from) (c.loop-from.messages) (c.loop-from.made) (c.loop-from.invariant.1 each))

pub shape_of-made : goal.shape_of-made
shape_of-made c = let each = c.requires.4 in length-set (c.loop-from.made) 0 _ ∙ still_long _ _ each (c.loop-from.at) (c.loop-from.from) (c.loop-from.messages) (c.loop-from.made) (c.loop-from.invariant.1 each) ∙ sym (ap length (c.requires.5) ∙ length-replicate {A = ℤ} 129 (pos 0))

pub returns : goal.returns
returns c = let each = c.requires.4 in let G = c.loop-from.invariant.1 each in record { counted = (all_cells _ _ each (c.loop-from.at) (c.loop-from.from) (c.loop-from.messages) (c.loop-from.made) G (c.loop-from-test.false), omega (arith, G.room, c.loop-from.invariant.0, c.requires.1)); stored = ap (λ (z : ℤ). set (c.loop-from.made) 0 z) (to_z_pos w64 (c.loop-from.messages) (omega (arith, G.some, c.loop-from.invariant.0, c.requires.1))) ∙ all_stored _ _ each (c.loop-from.at) (c.loop-from.from) (c.loop-from.messages) (c.loop-from.made) G (c.loop-from-test.false) }
