-- `signals::node` meets its contract: the entry with the node's key decides, and a node without one is not judged.
-- Assumes nothing.
use Rattle.std.proofs.Common.{ℕ, ◌+◌, ◌-◌, ◌*◌, take, drop, sym, subst, rules, arith}
use Rattle.sheet.specs.Values.{parts_of, entries}
use Rattle.messages.proofs.Keys.{position_is}
use Rattle.signals.specs.Components.{node_id, in_links}
use Rattle.signals.specs.Phases.{link_phases, node_phases}
use Rattle.signals.specs.References.{reference_at}
use Rattle.signals.specs.Steps.{Refers, Flags, link_row}
use Rattle.signals.proofs.Levels.{own_flags, level_list}
use Rattle.signals.proofs.Searching.{found_as}
use Rattle.signals.proofs.Types.{node_refers, links_list, link_known}
use Rattle.signals.proofs.Nodes.{node_decided, node_none}
use Rattle.signals.proofs.node.Goals as goal

pub returns-then-lists-entry : goal.returns-then-lists-entry
returns-then-lists-entry c = λ vs v G er S.
    let K = c.reference-key.ensures v (subst (λ (r : ℕ). Refers r node_id) (sym er) node_refers) S in
    node_none _ _ (reference_at node_id (parts_of v)) K.small K.is (node_phases (parts_of v)) vs G.all G.filed (position_is _ _ _ (omega arith) c.position-entry.ensures) c.if-lists-entry.true

pub returns : goal.returns
unfolding node_phases
returns c = λ vs v G er S.
    let K = c.reference-key.ensures v (subst (λ (r : ℕ). Refers r node_id) (sym er) node_refers) S in
    let D = node_decided _ _ (reference_at node_id (parts_of v)) K.small K.is (node_phases (parts_of v)) vs G.all G.filed (position_is _ _ _ (omega arith) c.position-entry.ensures) c.if-lists-entry.false in
    let F : Flags (take (256 * (c.position-entry.result + 1) - 256 * c.position-entry.result) (drop (256 * c.position-entry.result) c.args.lists.now.flags)) D.listed = own_flags c.args.lists.now.flags (256 * c.position-entry.result) (256 * (c.position-entry.result + 1)) D.flagged (omega arith) in
    found_as (sym D.decides) c.first_in.result
    (c.first_in.ensures D.listed link_phases link_row (entries in_links (parts_of v)) link_known (level_list _ c.requires _ _ S er in_links links_list c.entries_of-links.ensures) (λ place w said ew T e. search rules))
