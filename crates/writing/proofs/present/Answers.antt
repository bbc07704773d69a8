-- `writing::present` meets its contract.
-- Assumes nothing.
use mathlib.Core.Path.{refl, ap, ◌∙◌}
use lib.IntN.{pos}
use lib.ListN.{get_or-eq_default, get_or}
use lib.Signed.{lt_z}
use mir.Facts.{to_z-of_z}
use mir.Syntax.{w64}
use borrow.Author.Tests.{ne_eqb}
use Rattle.walking.specs.Walked.{present_of}
use Rattle.writing.proofs.Signs.{positive}
use Rattle.writing.proofs.present.Goals as goal

pub returns-then-mark-eq0 : goal.returns-then-mark-eq0
unfolding present_of
returns-then-mark-eq0 c = rw (c.if-mark-eq0.true) refl

pub returns-then-cells-p : goal.returns-then-cells-p
unfolding present_of
returns-then-cells-p c = let e = get_or-eq_default (c.args.cells.now) (pos 0) (c.if-cells-p.true) in rw (ne_eqb (c.args.mark) 0 (c.if-mark-eq0.false), e) refl

pub returns : goal.returns
unfolding present_of
returns c = let z = get_or (c.args.cells.now) (c.args.p) (pos 0) in rw (ne_eqb (c.args.mark) 0 (c.if-mark-eq0.false)) (ap (lt_z (pos 0)) (to_z-of_z {w = w64} {z = z} (record { sfits = c.result-1.given })) ∙ positive z)
