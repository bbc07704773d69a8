-- `plans::planner::make_plan` meets its contract: input that is not of its form, then the limit, then an entry that is too long, then room; else the plan.
-- Assumes nothing.
use Rattle.std.proofs.Common.{refl, sym, ◌∙◌, arith}
use lib.Dec.{eqb}
use Rattle.std.proofs.lemmas.List.{length-take, length-take-le}
use Rattle.packing.proofs.Formed.{input}
use Rattle.plans.proofs.Sized.{few_entries, sizes_long, stopped, base_small}
use Rattle.plans.proofs.Answered.{each_alone, not_formed, bad_limit, too_long, makes, refuses, no_room_lem, fills}
use Rattle.plans.proofs.planner.make_plan.Goals as goal

pub returns-in_default : goal.returns-in_default
returns-in_default c = let told = refuses _ _ _ _ _ (not_formed _ _ _ _ c.in_default.ensures refl) (λ z. omega (arith, z)) c.refused.ensures refl in record { answer = told.0; cells = told.1 }

pub returns-then-not-is_limit : goal.returns-then-not-is_limit
returns-then-not-is_limit c = let I = input _ _ _ c.in-Some.ensures refl in let told = refuses _ _ _ _ _ (bad_limit _ _ _ _ I (sym c.is_limit.ensures ∙ c.if-not-is_limit.true)) (λ z. omega (arith, z)) c.refused-then-not-is_limit.ensures refl in record { answer = told.0; cells = told.1 }

pub first_too_long-requires : goal.first_too_long-requires
first_too_long-requires c = let I = input _ _ _ c.in-Some.ensures refl in (omega (arith, few_entries _ _ _ I, sizes_long _ _ _ I), stopped _ _ _ I, base_small _ _ _ I)

pub returns-in-Some-first_too_long : goal.returns-in-Some-first_too_long
returns-in-Some-first_too_long c = let I = input _ _ _ c.in-Some.ensures refl in let told = refuses _ _ _ _ _ (too_long _ _ _ _ I (sym c.is_limit.ensures ∙ c.if-not-is_limit.false) (c.in-Some-first_too_long.ensures (eqb c.args.kind 1))) (λ z. omega (arith, z)) c.refused-in-Some-first_too_long.ensures refl in record { answer = told.0; cells = told.1 }

pub fill-needed-requires : goal.fill-needed-requires
fill-needed-requires c = let I = input _ _ _ c.in-Some.ensures refl in (omega (arith, few_entries _ _ _ I, sizes_long _ _ _ I), few_entries _ _ _ I, stopped _ _ _ I, base_small _ _ _ I, each_alone _ _ (c.in_default-first_too_long.ensures (eqb c.args.kind 1)), refl)

pub returns-then-plan-needed : goal.returns-then-plan-needed
returns-then-plan-needed c = let I = input _ _ _ c.in-Some.ensures refl in let told = no_room_lem _ _ _ _ _ (makes _ _ _ _ I (sym c.is_limit.ensures ∙ c.if-not-is_limit.false) (c.in_default-first_too_long.ensures (eqb c.args.kind 1))) c.fill-needed.ensures.counted.0 c.if-plan-needed.true refl refl in record { answer = told.0; cells = told.1 }

pub slice_bounds-copy_front-end : goal.slice_bounds-copy_front-end
slice_bounds-copy_front-end c = sym (length-take-le _ _ (omega (arith, c.fill-needed.ensures.counted.1)))

pub returns : goal.returns
returns c = let I = input _ _ _ c.in-Some.ensures refl in let told = fills _ _ _ _ _ (makes _ _ _ _ I (sym c.is_limit.ensures ∙ c.if-not-is_limit.false) (c.in_default-first_too_long.ensures (eqb c.args.kind 1))) c.fill-needed.ensures.counted.0 c.if-plan-needed.false c.fill-needed.ensures.counted.1 refl c.fill-needed.ensures.stored (c.copy_front.ensures.whole (simp length-take (omega (arith, c.fill-needed.ensures.counted.1, c.if-plan-needed)))) in record { answer = told.0; cells = told.1 }
