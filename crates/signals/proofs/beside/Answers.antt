-- `signals::beside` meets its contract: the map's sheet is no value, the two are no SPAT and MAP, or they are compared.
-- Assumes nothing.
use mathlib.Core.Path.{ap, ◌∙◌}
use Rattle.signals.proofs.Mismatches.{told_mismatch}
use Rattle.sheet.specs.Values.{parts_of, entries}
use Rattle.sheet.specs.Standing.{part_row}
use Rattle.messages.specs.Message.{message_frame}
use Rattle.messages.proofs.Frames.{framed_of, framed_no}
use Rattle.messages.proofs.Entries.{message_entries}
use Rattle.signals.specs.Components.{intersections, nodes}
use Rattle.signals.proofs.Types.{intersections_list, nodes_list}
use Rattle.signals.proofs.Frames.{map_refused, not_spat, not_map, the_two, few_signal}
use Rattle.signals.proofs.beside.Goals as goal

pub returns-then-kind-ne-SPAT_FRAME : goal.returns-then-kind-ne-SPAT_FRAME
returns-then-kind-ne-SPAT_FRAME c = told_mismatch c.new.ensures ∙ not_spat _ _ (c.requires.1) (framed_of _ (c.requires.0) (c.framed.ensures.answer) (c.in-Ok.is)) (c.if-kind-ne-SPAT_FRAME.true)

pub returns-then-mapped-ne-MAP_FRAME : goal.returns-then-mapped-ne-MAP_FRAME
returns-then-mapped-ne-MAP_FRAME c = told_mismatch c.new-then-mapped-ne-MAP_FRAME.ensures ∙ not_map _ _ (c.requires.1) (framed_of _ (c.requires.0) (c.framed.ensures.answer) (c.in-Ok.is)) (c.if-kind-ne-SPAT_FRAME.false) (c.if-mapped-ne-MAP_FRAME.true)

pub compare-requires : goal.compare-requires
compare-requires c = let F = c.requires.1 in (c.requires.0, few_signal (c.requires.0) _ _ _ (F.of_row ∙ ap (part_row message_frame) (c.if-kind-ne-SPAT_FRAME.false)) (c.entries_of-entries.ensures))

pub returns-else-mapped-ne-MAP_FRAME : goal.returns-else-mapped-ne-MAP_FRAME
returns-else-mapped-ne-MAP_FRAME c = let table = c.requires.0 in
    let F = c.requires.1 in
    let G = framed_of _ table (c.framed.ensures.answer) (c.in-Ok.is) in
    the_two _ _ F G (c.if-kind-ne-SPAT_FRAME.false) (c.if-mapped-ne-MAP_FRAME.false) ((c.compare.ensures) (entries intersections (parts_of F.held)) (entries nodes (parts_of G.held)) (message_entries _ table F (c.if-kind-ne-SPAT_FRAME.false) intersections intersections_list (c.entries_of-entries.ensures)) (message_entries _ table G (c.if-mapped-ne-MAP_FRAME.false) nodes nodes_list (c.entries_of-nodes.ensures)))

pub returns-in-Err : goal.returns-in-Err
returns-in-Err c = told_mismatch c.new-in-Err.ensures ∙ map_refused _ _ (c.requires.1) (framed_no _ (c.requires.0) (c.framed.ensures.answer) (c.in-Err.is))
