-- After any calls from the empty table it keeps what it keeps (document 02, A4). Assumes nothing.
use Rattle.std.proofs.Common.{◌≡◌, ℕ, zero, suc, ◌<◌, ◌⊎◌, List, [], ◌∷◌, get_or, replicate, refl, inl, inr, arith}
use Rattle.senders.specs.declared.Sender.{Sender}
use Rattle.senders.specs.Table.{nobody, reported}
use Rattle.senders.specs.History.{Call, table_after, counts_of}
use Rattle.senders.specs.History.Call.{report, drop}
use Rattle.senders.proofs.Outcomes.{CountedOn, Outcome, DropOutcome, report_comes_to, drop_comes_to}
use Rattle.senders.proofs.Keys.{apart}
use Rattle.senders.proofs.Keeping.{row_after, Held, Kept}
use Rattle.senders.proofs.Steps.{kept_by_a_refusal, kept_by_one_more, kept_by_an_entry, kept_by_a_drop}

-- ---- no calls

all_free : (n row : ℕ) (d : Sender) → row < n → get_or (replicate n nobody) row d ≡ nobody
all_free zero row d h = absurd (omega arith)
all_free (suc n) zero d h = refl
all_free (suc n) (suc row) d h = all_free n row d (omega arith)

free_row : (row : ℕ) → row < 32 → row_after [] row ≡ nobody
unfolding table_after
free_row row h = all_free 32 row _ h

kept_at_first : Kept []
unfolding table_after counts_of
kept_at_first =
    record {
      long = refl;
      says = λ row h. inl (free_row row h);
      once = λ kind id row other h m e f. apart (rw (free_row row h) at e);
      stands = λ kind id some. absurd (omega arith);
      sound = λ kind id. record { small = tt; few = omega arith };
    }

-- ---- one call

module _ (calls : List Call) (kept : Kept calls) where
  by_report : (kind : ℕ) (id : List ℕ) (count : ℕ) → Kept (report kind id count ∷ calls)
  by_report kind id count = go (report_comes_to (table_after calls) kind id count)
    where
      more : (c : CountedOn (table_after calls) kind id count (reported (table_after calls) kind id count)) → (row_after calls c.row ≡ nobody) ⊎ Held calls (row_after calls c.row) → Kept (report kind id count ∷ calls)
      more c (inl none) = apart (rw none at c.known.there)
      more c (inr held) = kept_by_one_more calls kept kind id count c.small c.row c.known c.is c.room held

      go : Outcome (table_after calls) kind id count → Kept (report kind id count ∷ calls)
      go (inl no_change) = kept_by_a_refusal calls (report kind id count) no_change.less_one no_change.is kept
      go (inr (inl c)) = more c (kept.says c.row (omega (arith, c.known.inside, kept.long)))
      go (inr (inr c)) = kept_by_an_entry calls kept kind id count c.small c.row c.spare c.is

  by_drop : (kind : ℕ) (id : List ℕ) → Kept (drop kind id ∷ calls)
  by_drop kind id = go (drop_comes_to (table_after calls) kind id)
    where
      go : DropOutcome (table_after calls) kind id → Kept (drop kind id ∷ calls)
      go (inl no_change) = kept_by_a_refusal calls (drop kind id) no_change.less_one no_change.is kept
      go (inr c) = kept_by_a_drop calls kept kind id c.row c.known c.is

-- ---- any calls

pub kept : (calls : List Call) → Kept calls
kept [] = kept_at_first
kept (report kind id count ∷ calls) = by_report calls (kept calls) kind id count
kept (drop kind id ∷ calls) = by_drop calls (kept calls) kind id
