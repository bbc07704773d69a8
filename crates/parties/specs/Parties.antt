-- The loss tables of two parties, and what each call makes of them (document 02, A10).
use Rattle.std.specs.Prelude.{ℕ, cond, List, eqb, ltb, Result, Ok, Err}
use Rattle.answers.specs.GivenBack as number
use Rattle.answers.specs.Reasons.{reason_number}
use Rattle.answers.specs.declared.reasons.Reason.{Reason}
use Rattle.answers.specs.declared.reasons.Reason.TheVariants as reason
use Rattle.senders.specs.declared.Table.{Table}
use Rattle.senders.specs.Table.{Changed, Shown, nobody, empty_table, reported, dropped, shown}
use Rattle.parties.specs.declared.Parties.{Parties}
use Rattle.parties.specs.declared.Party.{Party}
use Rattle.parties.specs.declared.Party.TheVariants.{Logger, Display}

-- what a call makes of the rows of both: the rows after it, the number of document 02, and the row within the party, which is 0 with any number but 0
pub record Answered : Type 0 where
  pub parties : Parties
  pub number : ℕ
  pub row : ℕ

abbrev pub empty_parties : Parties
empty_parties = record { logger = empty_table; display = empty_table }

-- "A party number but 0 and 1 is 29"
abbrev pub parties : ℕ
parties = 2

-- ---- the rows of one party: "Each party has 32 of the 64 rows"

unfoldable pub share_of : ℕ → Parties → Table
share_of party p = cond (eqb party 0) p.logger p.display

unfoldable pub with_share : ℕ → Table → Parties → Parties
with_share party own p = cond (eqb party 0) (record { logger = own; display = p.display }) (record { logger = p.logger; display = own })

-- ---- answers

-- what a party made of its rows; the row is told as it is within the party
abbrev pub given : Parties → ℕ → Changed → Answered
given p party c = record { parties = with_share party c.table p; number = c.number; row = c.row }

-- any number but 0 changes nothing and has no row
abbrev pub untouched : ℕ → Parties → Answered
untouched n p = record { parties = p; number = n; row = 0 }

-- "29, before all others"
abbrev pub unknown_party : Parties → Answered
unknown_party p = untouched number.unknown_party p

unfoldable pub reported_by : Parties → ℕ → ℕ → List ℕ → ℕ → Answered
reported_by p party kind id count = cond (ltb party parties) (given p party (reported (share_of party p) kind id count)) (unknown_party p)

unfoldable pub dropped_by : Parties → ℕ → ℕ → List ℕ → Answered
dropped_by p party kind id = cond (ltb party parties) (given p party (dropped (share_of party p) kind id)) (unknown_party p)

unfoldable pub shown_by : Parties → ℕ → ℕ → Shown
shown_by p party row = cond (ltb party parties) (shown (share_of party p) row) (record { number = number.unknown_party; sender = nobody })

-- ---- what the code's answers tell

-- which party a number means
abbrev pub party_of : ℕ → Result Party Reason
party_of number = cond (ltb number parties) (Ok (cond (eqb number 0) Logger Display)) (Err reason.UnknownParty)

-- with the rows after a call, the row that it answers, or the number of the reason
abbrev pub answered_with : Parties → Result ℕ Reason → Answered
answered_with p (Ok row) = record { parties = p; number = number.done; row = row }
answered_with p (Err why) = record { parties = p; number = reason_number why; row = 0 }
