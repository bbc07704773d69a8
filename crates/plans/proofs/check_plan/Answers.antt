-- `plans::check_plan` meets its contract: input that is not of its form, then the limit, then the first entry that does not stand once, then the messages.
-- Assumes nothing.
use Rattle.std.proofs.Common.{refl, sym, ◌∙◌, arith}
use lib.ListN.{get_or-replicate}
use Rattle.packing.proofs.Formed.{input}
use Rattle.rules.proofs.Breaches.{told_breach}
use Rattle.plans.proofs.Sized.{few_entries, sizes_long, stopped, base_small}
use Rattle.plans.proofs.Checked.{not_formed, no_plan_there, planned, bad_limit, not_once, by_messages}
use Rattle.plans.proofs.check_plan.Goals as goal

pub returns-in_default : goal.returns-in_default
returns-in_default c = told_breach c.new.ensures ∙ not_formed _ _ _ _ _ c.in_default.ensures refl

pub tally-requires : goal.tally-requires
tally-requires c = let I = input _ _ _ c.in-Some.ensures refl in (few_entries _ _ _ I, refl, λ j h. get_or-replicate 64 j 0 0 (omega (arith, few_entries _ _ _ I)))

pub returns-then-not-tally : goal.returns-then-not-tally
returns-then-not-tally c = let I = input _ _ _ c.in-Some.ensures refl in told_breach c.new-then-not-tally.ensures ∙ no_plan_there _ _ _ _ _ I _ c.tally.result c.tally.ensures c.if-not-tally.true

pub returns-then-not-is_limit : goal.returns-then-not-is_limit
returns-then-not-is_limit c = let I = input _ _ _ c.in-Some.ensures refl in told_breach c.new-then-not-is_limit.ensures ∙ bad_limit _ _ _ _ _ I (planned _ _ _ _ _ I _ c.tally.result c.tally.ensures c.if-not-tally.false) (sym c.is_limit.ensures ∙ c.if-not-is_limit.true)

pub first_not_once-requires : goal.first_not_once-requires
first_not_once-requires c = let I = input _ _ _ c.in-Some.ensures refl in omega (arith, few_entries _ _ _ I)

pub returns-in-Some-first_not_once : goal.returns-in-Some-first_not_once
returns-in-Some-first_not_once c =
    let I = input _ _ _ c.in-Some.ensures refl in
    let P = planned _ _ _ _ _ I _ c.tally.result c.tally.ensures c.if-not-tally.false in
    told_breach c.new-in-Some-first_not_once.ensures ∙ not_once _ _ _ _ _ I P (sym c.is_limit.ensures ∙ c.if-not-is_limit.false) (c.in-Some-first_not_once.ensures P.messages P.counts)

pub judge_messages-requires : goal.judge_messages-requires
judge_messages-requires c =
    let I = input _ _ _ c.in-Some.ensures refl in
    let P = planned _ _ _ _ c.args.limit I _ c.tally.result c.tally.ensures c.if-not-tally.false in
    ((P.messages, P.is), omega (arith, few_entries _ _ _ I, sizes_long _ _ _ I), stopped _ _ _ I, base_small _ _ _ I)

pub returns : goal.returns
returns c =
    let I = input _ _ _ c.in-Some.ensures refl in
    let P = planned _ _ _ _ _ I _ c.tally.result c.tally.ensures c.if-not-tally.false in
    by_messages _ _ _ _ _ I P (sym c.is_limit.ensures ∙ c.if-not-is_limit.false) (c.in_default-first_not_once.ensures P.messages P.counts) (c.judge_messages.ensures P.messages P.is)
