-- `parsing::digits` meets its contract: past 64 bits the number can only grow.
-- Assumes nothing.
use mathlib.Core.Path.{refl, sym, ap, ◌∙◌}
use native.Mathlib.Omega.{arith}
use lib.Seq.{take_all}
use Rattle.printing.specs.Digits.{value}
use Rattle.parsing.proofs.Numbers.{value_none, value_more, digits_none, digits_large, digits_value}
use Rattle.parsing.proofs.digits.Goals as goal

pub returns-then-not-some_digits : goal.returns-then-not-some_digits
returns-then-not-some_digits c = digits_none c.args.text.now c.some_digits.ensures c.if-not-some_digits.true

pub loop-b-init : goal.loop-b-init
loop-b-init c = (sym (value_none c.args.text.now), omega arith)

pub returns-in_default : goal.returns-in_default
returns-in_default c =
    let l = c.loop-b in
    digits_large c.args.text.now c.some_digits.ensures c.if-not-some_digits.false l.b-index l.n _ c.loop-b-test.true l.invariant.0 refl (omega (arith, c.in_default.ensures))

pub loop-b-preserved : goal.loop-b-preserved
loop-b-preserved c =
    let m = value_more c.args.text.now c.loop-b.b-index c.loop-b-test.true in
    (omega (arith, c.in-Some.ensures, m, c.loop-b.invariant.0), omega (arith, c.in-Some.ensures))

pub returns : goal.returns
returns c =
    let l = c.loop-b in
    digits_value c.args.text.now c.some_digits.ensures c.if-not-some_digits.false l.n (l.invariant.0 ∙ ap value (take_all l.b-index c.args.text.now (omega arith))) l.invariant.1
