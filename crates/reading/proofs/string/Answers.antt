-- `reading::string` meets its contract: the size, and as many items as it tells.
-- Assumes nothing.
use Prim.Native.Nat.{◌<◌}
use mathlib.Core.Path.{◌≡◌, refl, sym}
use Rattle.bits.specs.Numbers.{width}
use Rattle.walking.proofs.Texts.{size_few, size_some}
use Rattle.reading.proofs.Texts.{size_within, items_placed, string_stops, string_goes}
use Rattle.reading.proofs.Leaves.{positive}
use borrow.Author.Rules.{rules}
use Rattle.reading.proofs.string.Goals as goal

pub taken-n-requires : goal.taken-n-requires
taken-n-requires c = let a = c.args in let wide : 9 ≡ width a.span = sym c.requires.1 in let few : a.span < 512 = size_few c.requires.1 in let some : 0 < a.span = positive _ (size_some c.requires.1) in search rules

pub returns-then-n-ge-REFUSED : goal.returns-then-n-ge-REFUSED
returns-then-n-ge-REFUSED c = let a = c.args in string_stops c.requires.3 a.text a.least a.top a.span c.requires.1 c.taken-n.result c.taken-n.ensures _ c.if-n-ge-REFUSED.true c.told.ensures.0 c.told.ensures.1

pub put_value-c-requires : goal.put_value-c-requires
put_value-c-requires c = let n = size_within c.requires.3 c.args.text c.args.least c.args.top c.args.span c.requires.1 c.taken-n.result c.taken-n.ensures c.if-n-ge-REFUSED.false in search rules

pub overflow_add-least-2 : goal.overflow_add-least-2
overflow_add-least-2 c = let n = size_within c.requires.3 c.args.text c.args.least c.args.top c.args.span c.requires.1 c.taken-n.result c.taken-n.ensures c.if-n-ge-REFUSED.false in search rules

pub run-requires : goal.run-requires
run-requires c = let n = size_within c.requires.3 c.args.text c.args.least c.args.top c.args.span c.requires.1 c.taken-n.result c.taken-n.ensures c.if-n-ge-REFUSED.false in let placed = items_placed c.requires.3 c.args.text c.args.least c.args.top c.args.span c.requires.1 c.taken-n.result c.taken-n.ensures c.if-n-ge-REFUSED.false in search rules

pub returns : goal.returns
returns c = let a = c.args in string_goes c.requires.3 a.text a.least a.top a.span c.requires.1 c.taken-n.result c.taken-n.ensures c.if-n-ge-REFUSED.false refl c.requires.4 c.put_value-c.ensures.0 c.put_value-c.ensures.1 c.requires.7 c.run.ensures
