-- `reading::stopped` meets its contract: above the place stand the number, the row, the bits that lack and the mark of a refusal.
-- Assumes nothing.
use Prim.Native.Nat.{◌+◌, ◌*◌}
use mathlib.Core.Path.{◌≡◌, ap, ◌∙◌}
use native.Mathlib.Omega.{arith}
use Rattle.answers.specs.Refusals.{carrying}
use Rattle.walking.specs.Packed.{place_room, row_from, lacking_from, refused_from, packed_no, went_by}
use Rattle.walking.proofs.Packed.{no_went}
use Rattle.reading.proofs.stopped.Goals as goal

pub returns : goal.returns
returns c =
    let a = c.args in
    let why = carrying a.reason a.row a.lacking a.place in
    let is : refused_from + a.lacking * lacking_from + (a.row * row_from + c.number.result * place_room + a.place) ≡ packed_no why = omega (arith, c.number.ensures.is) in
    (ap went_by is ∙ no_went why c.requires.0 c.requires.1 c.requires.2, omega arith)
