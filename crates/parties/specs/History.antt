-- Calls of both parties, and those of one alone (document 02, A10). In a history the latest call stands first.
use Rattle.std.specs.Prelude.{ℕ, cond, List, [], ◌∷◌, eqb}
use Rattle.senders.specs.History.{Call}
use Rattle.senders.specs.History.Call.{report, drop}
use Rattle.parties.specs.Parties.{Answered, empty_parties, reported_by, dropped_by}
use Rattle.parties.specs.declared.Parties.{Parties}

-- "Every call names its party"
pub data Turn : Type 0 where
  by : ℕ → Call → Turn

abbrev pub answered_by : Parties → Turn → Answered
answered_by p (by party (report kind id count)) = reported_by p party kind id count
answered_by p (by party (drop kind id)) = dropped_by p party kind id

-- the rows of both after these calls
unfoldable pub parties_after : List Turn → Parties
parties_after [] = empty_parties
parties_after (turn ∷ earlier) = (answered_by (parties_after earlier) turn).parties

-- ---- the calls of one party

unfoldable pub own_calls : ℕ → List Turn → List Call
own_calls party [] = []
own_calls party (by caller call ∷ earlier) = cond (eqb caller party) (call ∷ own_calls party earlier) (own_calls party earlier)

-- "the sequence with the other party's calls taken out"
unfoldable pub only_of : ℕ → List Turn → List Turn
only_of party [] = []
only_of party (by caller call ∷ earlier) = cond (eqb caller party) (by caller call ∷ only_of party earlier) (only_of party earlier)

-- what a party is told: the number and the row of each of its calls
pub data Reply : Type 0 where
  told : ℕ → ℕ → Reply

abbrev pub reply_of : Answered → Reply
reply_of a = told a.number a.row

unfoldable pub replies_to : ℕ → List Turn → List Reply
replies_to party [] = []
replies_to party (by caller call ∷ earlier) = cond (eqb caller party) (reply_of (answered_by (parties_after earlier) (by caller call)) ∷ replies_to party earlier) (replies_to party earlier)
