-- `reading::run` meets its contract: the groups of four, and the numbers behind them.
-- Assumes nothing.
use Prim.Native.Nat.{◌+◌, ◌-◌, ◌*◌}
use native.Mathlib.Omega.{arith}
use mathlib.Core.Path.{◌≡◌}
use Rattle.bits.proofs.Numbers.{width_fewest, width_pos}
use Rattle.reading.proofs.Runs.{groups_next}
use borrow.Author.Rules.{rules}
use Rattle.reading.proofs.run.Goals as goal

pub groups-k-requires : goal.groups-k-requires
groups-k-requires c = let f = width_fewest c.args.span 32 c.requires.3 in (search rules, search rules, c.requires.0.place, omega arith, omega arith, omega (arith, c.width-w.ensures))

pub fours-requires : goal.fours-requires
fours-requires c = let G = c.groups-k.ensures in (c.requires.2, omega (arith, c.width-w.ensures, width_pos c.args.span c.requires.4), G.narrow, omega (arith, G.bits, c.requires.0.few), omega (arith, G.bits, c.requires.0.padded), G.cells, c.requires.1.room)

pub overflow_mul-k : goal.overflow_mul-k
overflow_mul-k c = let G = c.groups-k.ensures in omega (arith, G.few)

pub overflow_sub-n : goal.overflow_sub-n
overflow_sub-n c = let G = c.groups-k.ensures in omega (arith, G.few)

pub overflow_mul-w : goal.overflow_mul-w
overflow_mul-w c = let f = width_fewest c.args.span 32 c.requires.3 in omega (arith, c.width-w.ensures)

pub overflow_mul-k-2 : goal.overflow_mul-k-2
overflow_mul-k-2 c = let G = c.groups-k.ensures in omega (arith, G.bits, c.requires.0.few)

pub overflow_add-at : goal.overflow_add-at
overflow_add-at c = let G = c.groups-k.ensures in omega (arith, G.bits, c.requires.0.few)

pub overflow_mul-k-3 : goal.overflow_mul-k-3
overflow_mul-k-3 c = let G = c.groups-k.ensures in omega (arith, G.few)

pub overflow_add-cell : goal.overflow_add-cell
overflow_add-cell c = omega (arith, groups_next c.requires.1 c.groups-k.ensures)

pub singles-requires : goal.singles-requires
singles-requires c = let G = c.groups-k.ensures in (record { place = G.bits; few = c.requires.0.few; padded = c.requires.0.padded }, record { room = omega (arith, c.requires.1.room, c.fours.auto.sheet); next = groups_next c.requires.1 G }, c.requires.2, c.requires.3, c.requires.4)

pub returns : goal.returns
returns c = let G = c.groups-k.ensures in
    let a = c.args in
    let n : a.n ≡ 4 * c.groups-k.result + (a.n - 4 * c.groups-k.result) = omega (arith, G.few) in
    rw n (c.fours.ensures a.total a.span (a.n - 4 * c.groups-k.result) c.requires.0 c.width-w.ensures G.full G.bits _ _ c.singles.ensures)
