-- Each call keeps what the table keeps (document 02, A4). Assumes nothing.
use Rattle.std.proofs.Common.{◌≡◌, ℕ, suc, ◌<◌, ◌≤◌, true, not, ◌⊎◌, List, [], ◌∷◌, length, set, sym, refl, ap, ◌∙◌, subst, inl, inr, arith, ne_eqb}
use native.Mathlib.Decide.{ℕ_discrete}
use Rattle.senders.specs.declared.Sender.{Sender}
use Rattle.senders.specs.Rows.{free, holds}
use Rattle.senders.specs.Table.{Changed, nobody, no_row, unchanged, placed, entered, counted, most_received}
use Rattle.senders.specs.History.{Call, answered, table_after, counts_of, is_sender, noted, first_count, losses, row_of}
use Rattle.senders.specs.History.Call.{report, drop}
use Rattle.senders.proofs.First.{KnownAt, FreeAt}
use Rattle.senders.proofs.Counts.{counted_more}
use Rattle.senders.proofs.Keys.{apart, both, is_self, holds_that}
use Rattle.senders.proofs.Keeping.{row_after, Held, Sound, Kept, kept_by_one_row}

-- ---- a call that is refused

module _ (calls : List Call) (call : Call) (n : ℕ) (refused : answered (table_after calls) call ≡ unchanged (suc n) (table_after calls)) where
  same_table : table_after (call ∷ calls) ≡ table_after calls
  unfolding table_after
  same_table = ap (λ (c : Changed). c.table) refused

  same_counts : (kind : ℕ) (id : List ℕ) → counts_of kind id (call ∷ calls) ≡ counts_of kind id calls
  unfolding counts_of
  same_counts kind id = rw (ap (λ (c : Changed). c.number) refused, ne_eqb (suc n) 0 (λ e. omega arith))

  pub kept_by_a_refusal : Kept calls → Kept (call ∷ calls)
  kept_by_a_refusal kept =
      record {
        long = rw same_table kept.long;
        says = λ row h. rw same_table (go (row_after calls row) (kept.says row h));
        once = λ kind id row other h m e f. kept.once kind id row other h m (rw same_table at e) (rw same_table at f);
        stands = λ kind id some. let s = kept.stands kind id (rw (same_counts kind id) at some) in record { row = s.row; inside = s.inside; there = rw same_table s.there };
        sound = λ kind id. rw (same_counts kind id) (kept.sound kind id);
      }
    where
      go : (s : Sender) → (s ≡ nobody) ⊎ Held calls s → (s ≡ nobody) ⊎ Held (call ∷ calls) s
      go s (inl e) = inl e
      go s (inr held) = inr (record { latest = held.latest; earlier = held.earlier; counts_are = same_counts s.kind s.id ∙ held.counts_are; row_is = held.row_is })

-- ---- a call that is accepted

module _ (calls : List Call) (call : Call) (row : ℕ) (s : Sender) (accepted : answered (table_after calls) call ≡ placed (table_after calls) row s) where
  pub placed_table : (table_after (call ∷ calls)).senders ≡ set (table_after calls).senders row s
  unfolding table_after
  placed_table = ap (λ (c : Changed). c.table.senders) accepted

  pub noted_counts : (kind : ℕ) (id : List ℕ) → counts_of kind id (call ∷ calls) ≡ noted kind id call (counts_of kind id calls)
  unfolding counts_of
  noted_counts kind id = rw (ap (λ (c : Changed). c.number) accepted)

-- a report of a sender that is known
module _ (calls : List Call) (kept : Kept calls) (kind : ℕ) (id : List ℕ) (count : ℕ) (small : count ≤ 127) (row : ℕ)
    (known : KnownAt (table_after calls).senders no_row kind id row)
    (accepted : answered (table_after calls) (report kind id count) ≡ placed (table_after calls) row (counted (row_after calls row) count))
    (room : ¬ ((row_after calls row).received ≡ most_received)) where
  inside : row < 32
  inside = omega (arith, known.inside, kept.long)

  key : ((row_after calls row).kind ≡ kind) × ((row_after calls row).id ≡ id)
  key = holds_that kind id (row_after calls row) known.there

  pub kept_by_one_more : Held calls (row_after calls row) → Kept (report kind id count ∷ calls)
  kept_by_one_more held =
      kept_by_one_row calls (report kind id count) kept kind id (count ∷ held.latest ∷ held.earlier) row inside
      (placed_table calls (report kind id count) row (counted (row_after calls row) count) accepted ∙ ap (set (table_after calls).senders row) more)
      (noted_counts calls (report kind id count) row (counted (row_after calls row) count) accepted kind id ∙ rw (is_self kind id) (ap (λ (c : List ℕ). count ∷ c) counts))
      (λ k i e. noted_counts calls (report kind id count) row (counted (row_after calls row) count) accepted k i ∙ rw e)
      (λ other m n e. n (kept.once kind id other row m inside e known.there))
      (λ k i e. let t = holds_that k i (row_after calls row) e in rw (sym key.0 ∙ t.0, sym key.1 ∙ t.1) (is_self k i))
      (record { small = (small, fine.small); few = omega (arith, fine.few, one_less) })
    where
      counts : counts_of kind id calls ≡ held.latest ∷ held.earlier
      counts = rw (← key.0, ← key.1) held.counts_are

      fine : Sound (held.latest ∷ held.earlier)
      fine = subst Sound counts (kept.sound kind id)

      row_is : row_after calls row ≡ row_of kind id (held.latest ∷ held.earlier)
      row_is = rw (key.0, key.1) at held.row_is

      one_less : suc (length held.earlier) < most_received
      one_less = let q = ap (λ (s : Sender). s.received) row_is in let l = fine.few in elim (ℕ_discrete (suc (length held.earlier)) most_received) [
        | yes e ↦ absurd (room (q ∙ e))
        | no n ↦ omega arith
      ]

      more : counted (row_after calls row) count ≡ row_of kind id (count ∷ held.latest ∷ held.earlier)
      more = ap (λ (s : Sender). counted s count) row_is ∙ counted_more kind id held.latest held.earlier count fine.small.0 fine.small.1 small (omega (arith, one_less))

-- a report of a new sender
module _ (calls : List Call) (kept : Kept calls) (kind : ℕ) (id : List ℕ) (count : ℕ) (small : count ≤ 127) (row : ℕ)
    (spare : FreeAt (table_after calls).senders no_row kind id row)
    (accepted : answered (table_after calls) (report kind id count) ≡ placed (table_after calls) row (entered kind id count)) where
  nowhere : (other : ℕ) → other < 32 → holds kind id (row_after calls other) ≡ true → ⊥
  nowhere other m e = apart (sym (spare.nowhere other (omega (arith, kept.long))) ∙ e)

  new_sender : (c : List ℕ) → counts_of kind id calls ≡ c → c ≡ []
  new_sender [] e = refl
  new_sender (latest ∷ earlier) e = let s = kept.stands kind id (rw e (omega arith)) in absurd (nowhere s.row s.inside s.there)

  pub kept_by_an_entry : Kept (report kind id count ∷ calls)
  unfolding first_count losses
  kept_by_an_entry =
      kept_by_one_row calls (report kind id count) kept kind id (count ∷ []) row (omega (arith, spare.inside, kept.long))
      (placed_table calls (report kind id count) row (entered kind id count) accepted)
      (noted_counts calls (report kind id count) row (entered kind id count) accepted kind id ∙ rw (is_self kind id) (ap (λ (c : List ℕ). count ∷ c) (new_sender (counts_of kind id calls) refl)))
      (λ k i e. noted_counts calls (report kind id count) row (entered kind id count) accepted k i ∙ rw e)
      (λ other m n e. nowhere other m e)
      (λ k i e. apart (sym (ap not spare.there) ∙ (both (not (free (row_after calls row))) (is_sender k i (row_after calls row).kind (row_after calls row).id) e).0))
      (record { small = (small, tt); few = omega arith })

-- a drop
module _ (calls : List Call) (kept : Kept calls) (kind : ℕ) (id : List ℕ) (row : ℕ)
    (known : KnownAt (table_after calls).senders no_row kind id row)
    (accepted : answered (table_after calls) (drop kind id) ≡ placed (table_after calls) row nobody) where
  dropped_inside : row < 32
  dropped_inside = omega (arith, known.inside, kept.long)

  pub kept_by_a_drop : Kept (drop kind id ∷ calls)
  kept_by_a_drop =
      kept_by_one_row calls (drop kind id) kept kind id [] row dropped_inside
      (placed_table calls (drop kind id) row nobody accepted)
      (noted_counts calls (drop kind id) row nobody accepted kind id ∙ rw (is_self kind id) refl)
      (λ k i e. noted_counts calls (drop kind id) row nobody accepted k i ∙ rw e)
      (λ other m n e. n (kept.once kind id other row m dropped_inside e known.there))
      (λ k i e. let t = holds_that k i (row_after calls row) e in let q = holds_that kind id (row_after calls row) known.there in rw (sym q.0 ∙ t.0, sym q.1 ∙ t.1) (is_self k i))
      (record { small = tt; few = omega arith })
