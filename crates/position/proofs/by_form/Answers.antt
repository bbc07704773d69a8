-- `position::by_form` meets its contract: form seven is told from the others, whose width stands in the table. Assumes nothing.
use native.Mathlib.Omega.{arith}
use mir.Facts.{to_z-of_z}
use Rattle.position.proofs.Ranges.{natural}
use Rattle.position.proofs.by_form.Goals as goal

pub overflow_cast-which : goal.overflow_cast-which
overflow_cast-which c =
    let n = natural 1 7 _ c.requires in
    rw (to_z-of_z c.ranges.form) (n.0, record { fits = omega arith })

pub new-requires : goal.new-requires
new-requires c =
    let n = natural 1 7 _ c.requires in
    let l = rw (to_z-of_z c.ranges.form) at c.if-which-eq-ABSOLUTE_FORM.false in
    rw (to_z-of_z c.ranges.form) (n.1, omega arith)
