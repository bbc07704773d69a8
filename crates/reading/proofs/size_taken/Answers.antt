-- `reading::size_taken` meets its contract: a size that is not coded is a field of no bits.
-- Assumes nothing.
use mathlib.Core.Path.{◌≡◌, sym, ap, ◌∙◌}
use native.Mathlib.Omega.{arith}
use Rattle.answers.specs.declared.reasons.Reason.TheVariants as reason
use Rattle.bits.specs.Numbers.{width, halvings}
use Rattle.bits.specs.Bytes.{bits_of}
use Rattle.bits.specs.Fetching.{code}
use Rattle.bits.proofs.Bytes.{code_none}
use Rattle.reading.proofs.Leaves.{positive, taken_code}
use Rattle.reading.proofs.size_taken.Goals as goal

pub returns-then-span-eq0 : goal.returns-then-span-eq0
unfolding halvings
returns-then-span-eq0 c = let a = c.args in
    let w : a.w ≡ 0 = c.requires.1 ∙ ap width c.if-span-eq0.true in
    taken_code c.requires.0 reason.Outside 0 a.span c.requires.1 (omega (arith, w, c.requires.0.place)) (code_none (bits_of a.b.now) a.at ∙ ap (code (bits_of a.b.now) a.at) (sym w)) (omega arith) c.requires.2

pub taken-requires : goal.taken-requires
taken-requires c = (c.requires.0, c.requires.1, c.requires.2, positive _ c.if-span-eq0.false)

pub returns : goal.returns
returns c = c.taken.ensures
