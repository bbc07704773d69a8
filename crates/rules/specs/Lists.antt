-- The two lists of an RSI, events and signs: where they are among its components, the rows of their types, and the rule of their entries.
use Rattle.std.specs.Prelude.{ℕ, Bool, true, false}
use Rattle.meaning.specs.Values.{Parts}
use Rattle.sheet.specs.Standing.{part_row, entry_row}
use Rattle.messages.specs.Message.{message_frame, rsi_frame}
use Rattle.rules.specs.Components.{rtes, rtss}
use Rattle.rules.specs.Rsi.{event_rule, sign_rule}

-- the row of RoadSideInformation
abbrev pub rsi_row : ℕ
rsi_row = part_row message_frame rsi_frame

-- events (false) or signs (true)
abbrev pub list_at : Bool → ℕ
list_at false = rtes
list_at true = rtss

-- the row of their entries
abbrev pub item_row : Bool → ℕ
item_row signs = entry_row (part_row rsi_row (list_at signs))

abbrev pub entry_rule : Bool → Parts → ℕ
entry_rule false = event_rule
entry_rule true = sign_rule
