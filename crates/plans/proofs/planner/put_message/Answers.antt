-- `plans::planner::put_message` meets its contract: the count, and behind it the numbers so far.
-- Assumes nothing.
use Prim.Native.Nat.{◌+◌}
use native.Mathlib.Omega.{arith}
use mathlib.Core.Path.{◌≡◌, refl, ap, ◌∙◌}
use mathlib.Core.List.{List}
use lib.IntN.{ℤ, pos}
use lib.ListN.{length, set, length-set}
use lib.Seq.{sets}
use mir.Syntax.{w64}
use mir.ValLaws.{to_z_pos}
use Rattle.plans.specs.Planner.{numbers_from}
use Rattle.plans.proofs.Storing.{number_stored, message_stored}
use Rattle.plans.proofs.planner.put_message.Goals as goal

pub loop-k-init : goal.loop-k-init
unfolding numbers_from
loop-k-init c = refl

pub bounds-made-at-in-loop-k : goal.bounds-made-at-in-loop-k
bounds-made-at-in-loop-k c = let l : length (c.loop-k.made) ≡ length (c.args.made.now) = c.loop-k.auto.made ∙ simp length-set in omega (arith, c.requires, c.loop-k, c.loop-k-test, l)

pub loop-k-preserved : goal.loop-k-preserved
loop-k-preserved c = let e = to_z_pos w64 (c.args.from + c.loop-k.k) (omega (arith, c.requires, c.loop-k-test)) in ap (λ (z : ℤ). set (c.loop-k.made) (c.args.at + 1 + c.loop-k.k) z) e ∙ ap (λ (l : List ℤ). set l (c.args.at + 1 + c.loop-k.k) (pos (c.args.from + c.loop-k.k))) c.loop-k.invariant ∙ number_stored _ _ _ _

pub shape_of-made : goal.shape_of-made
shape_of-made c = c.loop-k.auto.made ∙ simp length-set

pub returns : goal.returns
returns c = message_stored (c.args.made.now) (c.args.at) (c.args.from) (c.args.n) (c.loop-k.k) (omega (arith, c.loop-k, c.loop-k-test)) (c.loop-k.invariant ∙ ap (λ (z : ℤ). sets (set (c.args.made.now) (c.args.at) z) (c.args.at + 1) (numbers_from (c.args.from) (c.loop-k.k))) (to_z_pos w64 (c.args.n) (omega (arith, c.requires))))
