-- `packing::measure` meets its contract: the entries that are left, behind those before, are all of them.
-- Assumes nothing.
use Prim.Native.Nat.{ℕ}
use native.Mathlib.Omega.{arith}
use mathlib.Core.Path.{◌≡◌, refl, sym, subst}
use Rattle.std.specs.Prelude.{Some}
use Rattle.meaning.specs.Messages.{row_named}
use Rattle.packing.proofs.Types.{item_named, known_row}
use Rattle.packing.proofs.Measuring.{begins, refuses, stood, goes_on, ends}
use borrow.Author.Rules.{rules}
use Rattle.packing.proofs.measure.Goals as goal

pub loop-i-init : goal.loop-i-init
loop-i-init c = (search rules, λ er. begins _ _ _ _ er _)

pub slice_bounds-size_of-count : goal.slice_bounds-size_of-count
slice_bounds-size_of-count c = let er = c.item_row-row.ensures in let S = stood _ _ _ _ er _ (c.requires.0) (known_row (c.args.signs) er) (c.loop-i.at) (c.loop-i.i) (c.loop-i.sizes) (c.loop-i.invariant.1 er) (c.loop-i-test.true) (c.loop-i.invariant.0) (c.pass.ensures.answer) (c.in-Ok.is) in omega (arith, S.onward)

pub slice_bounds-size_of-start : goal.slice_bounds-size_of-start
slice_bounds-size_of-start c = let er = c.item_row-row.ensures in let S = stood _ _ _ _ er _ (c.requires.0) (known_row (c.args.signs) er) (c.loop-i.at) (c.loop-i.i) (c.loop-i.sizes) (c.loop-i.invariant.1 er) (c.loop-i-test.true) (c.loop-i.invariant.0) (c.pass.ensures.answer) (c.in-Ok.is) in omega (arith, S.onward)

pub slice_bounds-size_of-end : goal.slice_bounds-size_of-end
slice_bounds-size_of-end c = let er = c.item_row-row.ensures in let S = stood _ _ _ _ er _ (c.requires.0) (known_row (c.args.signs) er) (c.loop-i.at) (c.loop-i.i) (c.loop-i.sizes) (c.loop-i.invariant.1 er) (c.loop-i-test.true) (c.loop-i.invariant.0) (c.pass.ensures.answer) (c.in-Ok.is) in omega (arith, S.ends)

pub size_of-requires : goal.size_of-requires
size_of-requires c = subst (λ (r : ℕ). row_named r ≡ Some r) (sym (c.item_row-row.ensures)) (item_named (c.args.signs))

pub loop-i-preserved : goal.loop-i-preserved
loop-i-preserved c = let ir = c.item_row-row.ensures in let S = stood _ _ _ _ ir _ (c.requires.0) (known_row (c.args.signs) ir) (c.loop-i.at) (c.loop-i.i) (c.loop-i.sizes) (c.loop-i.invariant.1 ir) (c.loop-i-test.true) (c.loop-i.invariant.0) (c.pass.ensures.answer) (c.in-Ok.is) in (omega (arith, S.ends), λ er. goes_on _ _ _ _ er _ (c.requires.0) (known_row (c.args.signs) er) (c.loop-i.at) (c.loop-i.i) (c.loop-i.sizes) (c.loop-i.invariant.1 er) (c.loop-i-test.true) (c.loop-i.invariant.0) (c.pass.ensures.answer) (c.in-Ok.is) (omega (arith, c.loop-i, c.loop-i-test)) (c.size_of.ensures))

pub returns-in-Err : goal.returns-in-Err
returns-in-Err c = let er = c.item_row-row.ensures in refuses _ _ _ _ er _ (c.requires.0) (known_row (c.args.signs) er) (c.loop-i.at) (c.loop-i.i) (c.loop-i.sizes) (c.loop-i.invariant.1 er) (c.loop-i-test.true) (c.loop-i.invariant.0) (c.pass.ensures.answer) (c.in-Err.is)

pub returns : goal.returns
returns c = let er = c.item_row-row.ensures in ends _ _ _ _ er _ (c.loop-i.at) (c.loop-i.i) (c.loop-i.sizes) (c.loop-i.invariant.1 er) (omega (arith, c.loop-i, c.loop-i-test)) _ refl
