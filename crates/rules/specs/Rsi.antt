-- The RSI sending rules (document 01, "RSI sending rules"; source 004, table 11), over the value: which component of which entry is there.
use Rattle.std.specs.Prelude.{ℕ, suc, cond, ◌||◌, List, ℤ, eqb}
use Rattle.meaning.specs.Values.{Parts, Values}
use Rattle.meaning.specs.Values.Values.{no_items, item}
use Rattle.answers.specs.GivenBack as given
use Rattle.sheet.specs.Values.{has, parts_of, entries}
use Rattle.messages.specs.Message.{Message, message, no_message, message_in, rsi_frame}
use Rattle.rules.specs.Components.{rtes, rtss, event_pos, event_radius, event_paths, event_links, sign_pos, sign_description, sign_paths, sign_links}
use Rattle.rules.specs.Ruling.{Ruling}
use Rattle.answers.specs.Reasons.{reason_number}

abbrev pub ruling : ℕ → ℕ → Ruling
ruling number place = record { number = number; place = place }

abbrev pub passes : Ruling
passes = ruling given.done 0

-- ---- an entry: the first rule that it breaks, by number, or 0

-- 12: no eventPos; 13: none of eventRadius, referencePaths, referenceLinks
unfoldable pub event_rule : Parts → ℕ
event_rule event =
    cond (has event_pos event)
    (cond (has event_radius event || has event_paths event || has event_links event) 0 given.event_reach)
    given.event_position

-- 14: no signPos; 15: no description; 16: neither referencePaths nor referenceLinks
unfoldable pub sign_rule : Parts → ℕ
sign_rule sign =
    cond (has sign_pos sign)
    (cond (has sign_description sign) (cond (has sign_paths sign || has sign_links sign) 0 given.sign_reach) given.sign_description)
    given.sign_position

-- ---- a list of entries: the first one that breaks a rule, counted from i; where none does, what comes behind the list decides

unfoldable pub first_broken : (Parts → ℕ) → ℕ → Values → Ruling → Ruling
first_broken rule i no_items behind = behind
first_broken rule i (item v more) behind = cond (eqb (rule (parts_of v)) 0) (first_broken rule (suc i) more behind) (ruling (rule (parts_of v)) i)

-- ---- an RSI: events in order, then signs

unfoldable pub rsi_ruling : Parts → Ruling
rsi_ruling rsi = first_broken event_rule 0 (entries rtes rsi) (first_broken sign_rule 0 (entries rtss rsi) passes)

-- ---- a sheet of type 0: 7 where it is no value, with 7's place, however long its bytes would be; 11 where its message is not the RSI; then the rules

unfoldable pub message_ruling : Message → Ruling
message_ruling (message kind parts) = cond (eqb kind rsi_frame) (rsi_ruling parts) (ruling given.no_rsi 0)
message_ruling (no_message why) = ruling (reason_number why.reason) why.place

unfoldable pub ruled : List ℤ → Ruling
ruled sheet = message_ruling (message_in sheet)
