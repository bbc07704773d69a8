-- `sheet::number` meets its contract: its three answers.
-- Assumes nothing.
use mathlib.Core.Path.{◌≡◌, ap, ◌∙◌}
use lib.IntN.{ℤ, pos, ◌-ℤ◌}
use lib.ListN.{get_or}
use mir.Facts.{to_z-of_z}
use mir.Syntax.{w64}
use Rattle.types.specs.Shape.{field}
use Rattle.types.specs.Table.{lowest_of}
use Rattle.passing.specs.Ended.{in_range}
use Rattle.passing.proofs.Cells.{number_lacks, number_inside, number_outside}
use Rattle.sheet.proofs.number.Goals.{After-inside}
use Rattle.sheet.proofs.number.Goals as goal

-- the test is that of the cell, which the machine holds as its bits
is_inside : (c : After-inside) → let a = c.args in c.inside.result ≡ in_range a.span (get_or a.cells.now a.k (pos 0) -ℤ lowest_of a.low)
is_inside c =
    let a = c.args in
    c.inside.ensures ∙ ap (λ (z : ℤ). in_range a.span (z -ℤ lowest_of a.low)) (to_z-of_z {w = w64} {z = get_or a.cells.now a.k (pos 0)} (record { sfits = c.inside-arg-1.given }))

pub returns-then-cells-k : goal.returns-then-cells-k
returns-then-cells-k c = let a = c.args in number_lacks _ (field (lowest_of a.low) a.span) _ c.if-cells-k.true c.no.ensures

pub returns-then-inside : goal.returns-then-inside
returns-then-inside c = let a = c.args in number_inside _ (field (lowest_of a.low) a.span) _ c.if-cells-k.false (is_inside c.before) c.if-inside.true

pub returns : goal.returns
returns c = let a = c.args in number_outside _ (field (lowest_of a.low) a.span) _ c.if-cells-k.false (is_inside c.before.before) c.if-inside.false c.no-2.ensures
