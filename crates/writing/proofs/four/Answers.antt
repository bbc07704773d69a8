-- `writing::four` meets its contract: a wrong cell is the first one, and four right ones are gathered.
-- Assumes nothing.
use Prim.Native.Nat.{◌+◌}
use mathlib.Core.Path.{refl}
use native.Mathlib.Omega.{arith}
use Rattle.writing.proofs.Leaves.{narrow_in, seen, four_first, four_second, four_third, four_fourth, four_all}
use Rattle.writing.proofs.four.Goals as goal

pub no-requires : goal.no-requires
no-requires c = omega (arith, c.requires.0, c.requires.4)

pub returns-then-span-first : goal.returns-then-span-first
returns-then-span-first c = let a = c.args in four_first a.cells.now a.low a.span a.k a.w c.requires.3 c.requires.4 (seen a.cells.now a.low a.span a.k a.w c.requires.3 c.requires.4 a.k (record { sfits = c.height-arg-1.given }) c.height-first.ensures) c.if-span-first.true c.no.ensures

pub no-requires-then-span-second : goal.no-requires-then-span-second
no-requires-then-span-second c = omega (arith, c.requires.0, c.requires.4)

pub returns-then-span-second : goal.returns-then-span-second
returns-then-span-second c = let a = c.args in four_second a.cells.now a.low a.span a.k a.w c.requires.3 c.requires.4 (seen a.cells.now a.low a.span a.k a.w c.requires.3 c.requires.4 a.k (record { sfits = c.height-arg-1.given }) c.height-first.ensures) c.if-span-first.false (seen a.cells.now a.low a.span a.k a.w c.requires.3 c.requires.4 (a.k + 1) (record { sfits = c.height-arg-2-1.given }) c.height-second.ensures) c.if-span-second.true c.no-then-span-second.ensures

pub no-requires-then-span-third : goal.no-requires-then-span-third
no-requires-then-span-third c = omega (arith, c.requires.0, c.requires.4)

pub returns-then-span-third : goal.returns-then-span-third
returns-then-span-third c = let a = c.args in four_third a.cells.now a.low a.span a.k a.w c.requires.3 c.requires.4 (seen a.cells.now a.low a.span a.k a.w c.requires.3 c.requires.4 a.k (record { sfits = c.height-arg-1.given }) c.height-first.ensures) c.if-span-first.false (seen a.cells.now a.low a.span a.k a.w c.requires.3 c.requires.4 (a.k + 1) (record { sfits = c.height-arg-2-1.given }) c.height-second.ensures) c.if-span-second.false refl (seen a.cells.now a.low a.span a.k a.w c.requires.3 c.requires.4 (a.k + 2) (record { sfits = c.height-arg-3-1.given }) c.height-third.ensures) c.if-span-third.true c.no-then-span-third.ensures

pub no-requires-then-span-fourth : goal.no-requires-then-span-fourth
no-requires-then-span-fourth c = omega (arith, c.requires.0, c.requires.4)

pub returns-then-span-fourth : goal.returns-then-span-fourth
returns-then-span-fourth c = let a = c.args in four_fourth a.cells.now a.low a.span a.k a.w c.requires.3 c.requires.4 (seen a.cells.now a.low a.span a.k a.w c.requires.3 c.requires.4 a.k (record { sfits = c.height-arg-1.given }) c.height-first.ensures) c.if-span-first.false (seen a.cells.now a.low a.span a.k a.w c.requires.3 c.requires.4 (a.k + 1) (record { sfits = c.height-arg-2-1.given }) c.height-second.ensures) c.if-span-second.false refl (seen a.cells.now a.low a.span a.k a.w c.requires.3 c.requires.4 (a.k + 2) (record { sfits = c.height-arg-3-1.given }) c.height-third.ensures) c.if-span-third.false refl (seen a.cells.now a.low a.span a.k a.w c.requires.3 c.requires.4 (a.k + 3) (record { sfits = c.height-arg-4-1.given }) c.height-fourth.ensures) c.if-span-fourth.true c.no-then-span-fourth.ensures

pub joined-requires : goal.joined-requires
joined-requires c = (omega (arith, c.if-span-first.false, c.requires.2), narrow_in 8 c.requires.2 c.requires.3, omega (arith, c.if-span-second.false, c.requires.2))

pub joined-three-requires : goal.joined-three-requires
joined-three-requires c = (omega (arith, c.joined.ensures.1, c.if-span-first.false, c.requires.2), narrow_in 8 c.requires.2 c.requires.3, omega (arith, c.if-span-third.false, c.requires.2))

pub joined-requires-2 : goal.joined-requires-2
joined-requires-2 c = (omega (arith, c.joined-three.ensures.1, c.joined.ensures.1, c.if-span-first.false, c.requires.2), narrow_in 8 c.requires.2 c.requires.3, omega (arith, c.if-span-fourth.false, c.requires.2))

pub returns : goal.returns
returns c = let a = c.args in four_all a.cells.now a.low a.span a.k a.w c.requires.3 c.requires.4 (seen a.cells.now a.low a.span a.k a.w c.requires.3 c.requires.4 a.k (record { sfits = c.height-arg-1.given }) c.height-first.ensures) c.if-span-first.false (seen a.cells.now a.low a.span a.k a.w c.requires.3 c.requires.4 (a.k + 1) (record { sfits = c.height-arg-2-1.given }) c.height-second.ensures) c.if-span-second.false c.joined.ensures.0 (seen a.cells.now a.low a.span a.k a.w c.requires.3 c.requires.4 (a.k + 2) (record { sfits = c.height-arg-3-1.given }) c.height-third.ensures) c.if-span-third.false c.joined-three.ensures.0 (seen a.cells.now a.low a.span a.k a.w c.requires.3 c.requires.4 (a.k + 3) (record { sfits = c.height-arg-4-1.given }) c.height-fourth.ensures) c.if-span-fourth.false c.requires.2 c.joined-2.ensures.0
