-- `reading::text` meets its contract: the index, and the string that it tells.
-- Assumes nothing.
use Prim.Native.Nat.{◌+◌, ◌^◌}
use mathlib.Core.Path.{◌≡◌, refl}
use Rattle.bits.specs.Numbers.{halvings, width}
use Rattle.reading.proofs.Texts.{index_within, string_placed, text_stops, text_first, text_second}
use borrow.Author.Rules.{rules}
use Rattle.reading.proofs.text.Goals as goal

pub taken-n-requires : goal.taken-n-requires
unfolding halvings
taken-n-requires c = let wide : 1 ≡ width 1 = refl in search rules

pub returns-then-n-ge-REFUSED : goal.returns-then-n-ge-REFUSED
returns-then-n-ge-REFUSED c = text_stops c.requires.0 c.taken-n.result c.taken-n.ensures _ c.if-n-ge-REFUSED.true c.told.ensures.0 c.told.ensures.1

pub put_value-c-requires : goal.put_value-c-requires
put_value-c-requires c = let n = index_within c.requires.0 c.taken-n.result c.taken-n.ensures c.if-n-ge-REFUSED.false in search rules

pub string-requires : goal.string-requires
unfolding halvings
string-requires c = let nine : width 511 ≡ 9 = refl in let full : 127 + 1 ≡ 2 ^ width 127 = refl in let placed = string_placed c.requires.0 c.taken-n.result c.taken-n.ensures c.if-n-ge-REFUSED.false in search rules

pub returns-then-n-eq0 : goal.returns-then-n-eq0
returns-then-n-eq0 c = text_first c.requires.0 c.taken-n.result c.taken-n.ensures c.if-n-ge-REFUSED.false refl c.requires.1 c.put_value-c.ensures.0 c.put_value-c.ensures.1 c.if-n-eq0.true (c.string.ensures 2)

pub string-requires-2 : goal.string-requires-2
unfolding halvings
string-requires-2 c = let nine : width 510 ≡ 9 = refl in let full : 255 + 1 ≡ 2 ^ width 255 = refl in let placed = string_placed c.requires.0 c.taken-n.result c.taken-n.ensures c.if-n-ge-REFUSED.false in search rules

pub returns : goal.returns
returns c = text_second c.requires.0 c.taken-n.result c.taken-n.ensures c.if-n-ge-REFUSED.false refl c.requires.1 c.put_value-c.ensures.0 c.put_value-c.ensures.1 c.if-n-eq0.false (c.string-2.ensures 1)
