-- Neither party sees the other (document 02, A10): "A party's answers, refusals and printed rows depend on its own calls only." Over any finite
-- sequence of calls of both parties, and of numbers that are no party's, from the empty table. Assumes nothing.
use Prim.Native.Nat.{ℕ, zero, suc, ◌<◌}
use native.Mathlib.Decide.{dec_lt}
use native.Mathlib.Omega.{arith}
use mathlib.Core.Path.{◌≡◌, refl, sym, ap, ap₂, subst, ◌∙◌}
use mathlib.Core.Bool.{Bool, true, false, cond}
use mathlib.Core.List.{List, [], ◌∷◌}
use borrow.Author.Tests.{eqb-true, eqb-false, ne_eqb}
use lib.Dec.{eqb}
use Rattle.senders.specs.declared.Table.{Table}
use Rattle.senders.specs.Table.{shown}
use Rattle.senders.specs.History.{Call, answered, table_after}
use Rattle.senders.specs.History.Call.{report, drop}
use Rattle.parties.specs.Parties.{Answered, share_of, with_share, given, unknown_party, shown_by}
use Rattle.parties.specs.History.{Turn, answered_by, parties_after, own_calls, only_of, Reply, reply_of, replies_to}
use Rattle.parties.specs.History.Turn.{by}
use Rattle.parties.specs.declared.Parties.{Parties}
use Rattle.parties.proofs.Shares.{report_unknown, drop_unknown, show_unknown, report_given, drop_given, show_own}

-- ---- one call

-- what a party does to its rows
own_share : (party : ℕ) (own : Table) (p : Parties) → share_of party (with_share party own p) ≡ own
unfolding share_of with_share
own_share zero own p = refl
own_share (suc party) own p = rw (ne_eqb (suc party) 0 (λ z. omega arith)) refl

-- and not to the other's
other_share : (party other : ℕ) → party < 2 → other < 2 → ¬ (other ≡ party) → (own : Table) (p : Parties) → share_of other (with_share party own p) ≡ share_of other p
unfolding share_of with_share
other_share zero zero h k isnt own p = absurd (isnt refl)
other_share zero (suc other) h k isnt own p = rw (ne_eqb (suc other) 0 (λ z. omega arith)) refl
other_share (suc party) zero h k isnt own p = rw (ne_eqb (suc party) 0 (λ z. omega arith)) refl
other_share (suc party) (suc other) h k isnt own p = absurd (isnt (omega arith))

-- "A party number but 0 and 1 is 29, before all others": whatever the call and the rows are, and nothing changes
pub unknown_party_first : (party : ℕ) → 1 < party → (call : Call) (p : Parties) → answered_by p (by party call) ≡ unknown_party p
unknown_party_first party h (report kind id count) p = report_unknown party p h kind id count
unknown_party_first party h (drop kind id) p = drop_unknown party p h kind id

-- the answer to one of the two is that of its own rows
pub own_answer : (party : ℕ) → party < 2 → (call : Call) (p : Parties) → answered_by p (by party call) ≡ given p party (answered (share_of party p) call)
own_answer party h (report kind id count) p = report_given party p (omega arith) kind id count
own_answer party h (drop kind id) p = drop_given party p (omega arith) kind id

-- a call of another, which may be none of the two, leaves a party's rows as they were
pub other_kept : (party caller : ℕ) → party < 2 → ¬ (caller ≡ party) → (call : Call) (p : Parties) → share_of party (answered_by p (by caller call)).parties ≡ share_of party p
other_kept party caller h isnt call p = go (dec_lt caller 2)
  where
    go : Dec (caller < 2) → share_of party (answered_by p (by caller call)).parties ≡ share_of party p
    go (yes k) =
        ap (λ (a : Answered). share_of party a.parties) (own_answer caller k call p)
        ∙ other_share caller party k h (λ e. isnt (sym e)) (answered (share_of caller p) call).table p
    go (no k) = ap (λ (a : Answered). share_of party a.parties) (unknown_party_first caller (omega arith) call p)

-- ---- any calls

-- the rows of a party are the table after its own calls, so that what is proved of tables after calls holds of them
pub own_table : (party : ℕ) → party < 2 → (turns : List Turn) → share_of party (parties_after turns) ≡ table_after (own_calls party turns)
unfolding parties_after own_calls table_after share_of
own_table party h [] = go (eqb party 0)
  where
    go : (b : Bool) → cond b (parties_after []).logger (parties_after []).display ≡ table_after []
    go true = refl
    go false = refl
own_table party h (by caller call ∷ earlier) = go (own_table party h earlier) (eqb caller party) refl
  where
    go : share_of party (parties_after earlier) ≡ table_after (own_calls party earlier) → (b : Bool) → eqb caller party ≡ b
        → share_of party (answered_by (parties_after earlier) (by caller call)).parties ≡ table_after (cond b (call ∷ own_calls party earlier) (own_calls party earlier))
    go before true e =
        let same : caller ≡ party = eqb-true caller party e in
        ap (λ (c : ℕ). share_of party (answered_by (parties_after earlier) (by c call)).parties) same
        ∙ ap (λ (a : Answered). share_of party a.parties) (own_answer party h call (parties_after earlier))
        ∙ own_share party (answered (share_of party (parties_after earlier)) call).table (parties_after earlier)
        ∙ ap (λ (t : Table). (answered t call).table) before
    go before false e = other_kept party caller h (eqb-false caller party e) call (parties_after earlier) ∙ before

-- "And A4's theorems for each party's own history": a theorem on the tables that calls make holds of a party's rows
pub holds_of_each : (P : List Call → Table → Type 0) → ((calls : List Call) → P calls (table_after calls)) → (party : ℕ) → party < 2 → (turns : List Turn) → P (own_calls party turns) (share_of party (parties_after turns))
holds_of_each P all party h turns = subst (P (own_calls party turns)) (sym (own_table party h turns)) (all (own_calls party turns))

-- ---- the sequence with the others' calls taken out

-- they are the same calls of the party
same_calls : (party : ℕ) (turns : List Turn) → own_calls party (only_of party turns) ≡ own_calls party turns
unfolding own_calls only_of
same_calls party [] = refl
same_calls party (by caller call ∷ earlier) = go (same_calls party earlier) (eqb caller party) refl
  where
    go : own_calls party (only_of party earlier) ≡ own_calls party earlier → (b : Bool) → eqb caller party ≡ b
        → own_calls party (cond b (by caller call ∷ only_of party earlier) (only_of party earlier)) ≡ cond b (call ∷ own_calls party earlier) (own_calls party earlier)
    go before true e = rw e (ap (λ (l : List Call). call ∷ l) before)
    go before false e = before

same_share : (party : ℕ) → party < 2 → (turns : List Turn) → share_of party (parties_after turns) ≡ share_of party (parties_after (only_of party turns))
same_share party h turns = own_table party h turns ∙ ap table_after (sym (same_calls party turns)) ∙ sym (own_table party h (only_of party turns))

same_reply : (party : ℕ) (call : Call) (turns : List Turn) → reply_of (answered_by (parties_after turns) (by party call)) ≡ reply_of (answered_by (parties_after (only_of party turns)) (by party call))
same_reply party call turns = go (dec_lt party 2)
  where
    go : Dec (party < 2) → reply_of (answered_by (parties_after turns) (by party call)) ≡ reply_of (answered_by (parties_after (only_of party turns)) (by party call))
    go (yes h) =
        ap reply_of (own_answer party h call (parties_after turns))
        ∙ ap (λ (t : Table). reply_of (given (parties_after turns) party (answered t call))) (same_share party h turns)
        ∙ sym (ap reply_of (own_answer party h call (parties_after (only_of party turns))))
    go (no h) = ap reply_of (unknown_party_first party (omega arith) call (parties_after turns)) ∙ sym (ap reply_of (unknown_party_first party (omega arith) call (parties_after (only_of party turns))))

-- "A party's answers, refusals .. depend on its own calls only": each of its answers is the same without the others' calls
pub same_replies : (party : ℕ) (turns : List Turn) → replies_to party turns ≡ replies_to party (only_of party turns)
unfolding replies_to only_of
same_replies party [] = refl
same_replies party (by caller call ∷ earlier) = go (same_replies party earlier) (eqb caller party) refl
  where
    go : replies_to party earlier ≡ replies_to party (only_of party earlier) → (b : Bool) → eqb caller party ≡ b
        → cond b (reply_of (answered_by (parties_after earlier) (by caller call)) ∷ replies_to party earlier) (replies_to party earlier) ≡ replies_to party (cond b (by caller call ∷ only_of party earlier) (only_of party earlier))
    go before true e =
        let same : caller ≡ party = eqb-true caller party e in
        rw e (ap₂ (λ (r : Reply) (l : List Reply). r ∷ l) (subst (λ (c : ℕ). reply_of (answered_by (parties_after earlier) (by c call)) ≡ reply_of (answered_by (parties_after (only_of party earlier)) (by c call))) (sym same) (same_reply party call earlier)) before)
    go before false e = before

-- ".. and printed rows": each row of it is shown the same
pub same_rows : (party row : ℕ) (turns : List Turn) → shown_by (parties_after turns) party row ≡ shown_by (parties_after (only_of party turns)) party row
same_rows party row turns = go (dec_lt party 2)
  where
    go : Dec (party < 2) → shown_by (parties_after turns) party row ≡ shown_by (parties_after (only_of party turns)) party row
    go (yes h) =
        show_own party (parties_after turns) (omega arith) row
        ∙ ap (λ (t : Table). shown t row) (same_share party h turns)
        ∙ sym (show_own party (parties_after (only_of party turns)) (omega arith) row)
    go (no h) = show_unknown party (parties_after turns) (omega arith) row ∙ sym (show_unknown party (parties_after (only_of party turns)) (omega arith) row)

-- they are the rows of its own history
pub own_rows : (party : ℕ) → party < 2 → (row : ℕ) (turns : List Turn) → shown_by (parties_after turns) party row ≡ shown (table_after (own_calls party turns)) row
own_rows party h row turns = show_own party (parties_after turns) (omega arith) row ∙ ap (λ (t : Table). shown t row) (own_table party h turns)
