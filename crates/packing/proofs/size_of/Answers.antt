-- `packing::size_of` meets its contract: the writer answers the bits, or that they are too many.
use mathlib.Core.Path.{◌≡◌, refl, sym, ap, ◌∙◌}
use Rattle.answers.specs.Answers.{answered}
use Rattle.answers.proofs.Lent.{failed}
use Rattle.packing.proofs.Sizes.{size_stops, size_goes}
use Rattle.packing.proofs.size_of.Goals as goal

pub returns-in-Ok : goal.returns-in-Ok
returns-in-Ok c = size_goes _ (c.requires) _ refl (ap answered (sym c.in-Ok.is) ∙ c.write_row.ensures.answer) refl

pub returns-in-Err : goal.returns-in-Err
returns-in-Err c = size_stops _ (c.requires) _ refl (ap answered (sym c.in-Err.is) ∙ c.write_row.ensures.answer) (failed c.in-Err.field-0)
