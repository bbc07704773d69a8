-- `rules::check_lists` meets its contract: the events decide, else the signs.
-- Assumes nothing.
use Rattle.std.proofs.Common.{refl, sym, ap, ◌∙◌, false, true, rules}
use Rattle.std.proofs.lemmas.Result.{err_from_is_err_and}
use Rattle.sheet.specs.Values.{parts_of}
use Rattle.messages.proofs.Entries.{message_entries}
use Rattle.rules.specs.Breaches.{told}
use Rattle.rules.specs.Components.{rtes, rtss}
use Rattle.rules.specs.Rsi.{event_rule, sign_rule}
use Rattle.rules.proofs.Breaches.{told_fails, told_passes}
use Rattle.rules.proofs.Rsi.{is_list_lem, item_known, events_decide, signs_decide}
use Rattle.rules.proofs.Frame.{frame_rsi}
use Rattle.rules.proofs.check_lists.Goals as goal

pub returns-in_err-breach_among : goal.returns-in_err-breach_among
returns-in_err-breach_among c =
    let F = c.requires.1 in
    let events = c.breach_among.ensures c.requires.0 event_rule _ _ (item_known false) (message_entries _ c.requires.0 F refl rtes (is_list_lem false) c.entries_of-events.ensures) (λ place v said er S e. search rules) in
    let p = err_from_is_err_and c.from_residual.result c.from_residual.ensures.1 in
    rw (p.1, p.2) (ap told (sym c.in_err-breach_among.was) ∙ frame_rsi _ F (events_decide (parts_of F.held) events (told_fails c.in_err-breach_among.was)))

pub returns : goal.returns
returns c =
    let F = c.requires.1 in
    let events = c.breach_among.ensures c.requires.0 event_rule _ _ (item_known false) (message_entries _ c.requires.0 F refl rtes (is_list_lem false) c.entries_of-events.ensures) (λ place v said er S e. search rules) in
    let signs = c.breach_among-2.ensures c.requires.0 sign_rule _ _ (item_known true) (message_entries _ c.requires.0 F refl rtss (is_list_lem true) c.entries_of-signs.ensures) (λ place v said er S e. search rules) in
    frame_rsi _ F (signs_decide (parts_of F.held) events (told_passes c.in_ok-breach_among.was) signs)
