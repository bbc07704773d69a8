-- `origins::origin_in` meets its contract: a sheet is no frame, its message has no sender's id, or it has one.
-- Assumes nothing.
use native.Mathlib.Omega.{arith}
use mathlib.Core.Path.{◌∙◌}
use Rattle.messages.proofs.Frames.{framed_of, framed_no}
use Rattle.origins.proofs.Frame.{origin_of_none, origin_unsent, origin_sent}
use Rattle.origins.proofs.origin_in.Goals as goal

pub returns-then-at-eq0 : goal.returns-then-at-eq0
returns-then-at-eq0 c = (c.unsent-then-at-eq0.ensures) ∙ origin_unsent _ (framed_of _ (c.rows-rows.ensures) (c.framed.ensures.answer) (c.in-Ok.is)) (c.id_component-at.ensures) (c.if-at-eq0.true)

pub returns : goal.returns
returns c = origin_sent _ (framed_of _ (c.rows-rows.ensures) (c.framed.ensures.answer) (c.in-Ok.is)) (c.id_component-at.ensures) (c.if-at-eq0.false) (omega arith) (c.rows-rows.ensures) (c.entries_of-id.ensures) (c.number_of-count.ensures) (c.octets.ensures)

pub returns-in_default : goal.returns-in_default
returns-in_default c = (c.unsent.ensures) ∙ origin_of_none _ (framed_no _ (c.rows-rows.ensures) (c.framed.ensures.answer) (c.in_default.is))
