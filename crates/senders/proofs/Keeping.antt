-- What the table keeps over any history, and that one row changed for one sender keeps it (document 02, A4). Assumes nothing.
use Rattle.std.proofs.Common.{◌≡◌, ℕ, suc, ◌<◌, ◌≤◌, Bool, true, false, ◌⊎◌, List, [], ◌∷◌, length, set, sym, refl, ap, ◌∙◌, subst, inl, inr, arith, length-set, get_or-set_other, get_or-set_same, ne_eqb}
use native.Mathlib.Decide.{ℕ_discrete}
use Rattle.senders.specs.declared.Sender.{Sender}
use Rattle.senders.specs.Rows.{holds}
use Rattle.senders.specs.Table.{nobody, sender_at, most_received}
use Rattle.senders.specs.History.{Call, table_after, counts_of, is_sender, row_of}
use Rattle.senders.proofs.Counts.{Small}
use Rattle.senders.proofs.Keys.{apart, is_self, is_that, holds_that, holds_own}

abbrev pub row_after : List Call → ℕ → Sender
row_after calls row = sender_at (table_after calls) row

-- a sender is held with the counts that the history has of it
pub record Held (calls : List Call) (s : Sender) : Type 0 where
  pub latest : ℕ
  pub earlier : List ℕ
  pub counts_are : counts_of s.kind s.id calls ≡ latest ∷ earlier
  pub row_is : s ≡ row_of s.kind s.id (latest ∷ earlier)

-- counts of 0 to 127, and no more than a sender can have
pub record Sound (counts : List ℕ) : Type 0 where
  pub small : Small counts
  pub few : length counts ≤ most_received

pub record Somewhere (kind : ℕ) (id : List ℕ) (calls : List Call) : Type 0 where
  pub row : ℕ
  pub inside : row < 32
  pub there : holds kind id (row_after calls row) ≡ true

pub record Kept (calls : List Call) : Type 0 where
  pub long : length (table_after calls).senders ≡ 32
  -- each row is free, or says what the history says of its sender
  pub says : (row : ℕ) → row < 32 → (row_after calls row ≡ nobody) ⊎ Held calls (row_after calls row)
  -- "a sender stands in one row at most"
  pub once : (kind : ℕ) (id : List ℕ) (row other : ℕ) → row < 32 → other < 32 → holds kind id (row_after calls row) ≡ true → holds kind id (row_after calls other) ≡ true → row ≡ other
  -- and each that was accepted and not dropped stands in one
  pub stands : (kind : ℕ) (id : List ℕ) → 0 < length (counts_of kind id calls) → Somewhere kind id calls
  pub sound : (kind : ℕ) (id : List ℕ) → Sound (counts_of kind id calls)

-- a row in which something was received holds its own sender
pub holds_self : (s : Sender) (n : ℕ) → s.received ≡ suc n → holds s.kind s.id s ≡ true
holds_self s n e = rw (ne_eqb s.received 0 (λ q. omega arith)) (is_self s.kind s.id)

module _
    (calls : List Call) (call : Call) (kept : Kept calls)
    (k : ℕ) (i : List ℕ) (counts : List ℕ) (row : ℕ) (inside : row < 32)
    (table_is : (table_after (call ∷ calls)).senders ≡ set (table_after calls).senders row (row_of k i counts))
    (same : counts_of k i (call ∷ calls) ≡ counts)
    (others : (kind : ℕ) (id : List ℕ) → is_sender kind id k i ≡ false → counts_of kind id (call ∷ calls) ≡ counts_of kind id calls)
    (alone : (other : ℕ) → other < 32 → ¬ (other ≡ row) → holds k i (row_after calls other) ≡ true → ⊥)
    (before : (kind : ℕ) (id : List ℕ) → holds kind id (row_after calls row) ≡ true → is_sender kind id k i ≡ true)
    (fine : Sound counts) where
  at_row : row_after (call ∷ calls) row ≡ row_of k i counts
  at_row = rw table_is (get_or-set_same (table_after calls).senders row (row_of k i counts) _ (omega (arith, kept.long)))

  elsewhere : (other : ℕ) → ¬ (other ≡ row) → row_after (call ∷ calls) other ≡ row_after calls other
  elsewhere other n = rw table_is (get_or-set_other (table_after calls).senders row other (row_of k i counts) _ n)

  here : (c : List ℕ) → counts_of k i (call ∷ calls) ≡ c → (row_of k i c ≡ nobody) ⊎ Held (call ∷ calls) (row_of k i c)
  here [] e = inl refl
  here (latest ∷ earlier) e = inr (record { latest = latest; earlier = earlier; counts_are = e; row_is = refl })

  carried : (other : ℕ) → other < 32 → ¬ (other ≡ row) → (s : Sender) → s ≡ row_after calls other → (s ≡ nobody) ⊎ Held calls s → (s ≡ nobody) ⊎ Held (call ∷ calls) s
  carried other m n s is (inl e) = inl e
  carried other m n s is (inr held) = inr (record { latest = held.latest; earlier = held.earlier; counts_are = others s.kind s.id (different (is_sender s.kind s.id k i) refl) ∙ held.counts_are; row_is = held.row_is })
    where
      different : (b : Bool) → is_sender s.kind s.id k i ≡ b → is_sender s.kind s.id k i ≡ false
      different false e = e
      different true e =
          let t = is_that s.kind s.id k i e in
          let own = holds_self s (length held.earlier) (ap (λ (r : Sender). r.received) held.row_is) in
          absurd (alone other m n (subst (λ (r : Sender). holds k i r ≡ true) is (rw (t.0, t.1) own)))

  says' : (other : ℕ) → other < 32 → (row_after (call ∷ calls) other ≡ nobody) ⊎ Held (call ∷ calls) (row_after (call ∷ calls) other)
  says' other m = go (ℕ_discrete other row)
    where
      go : Dec (other ≡ row) → (row_after (call ∷ calls) other ≡ nobody) ⊎ Held (call ∷ calls) (row_after (call ∷ calls) other)
      go (yes e) = rw (e, at_row) (here counts same)
      go (no n) = rw (elsewhere other n) (carried other m n (row_after calls other) refl (kept.says other m))

  -- the row that was changed holds no other sender
  own_key : (kind : ℕ) (id : List ℕ) (c : List ℕ) → holds kind id (row_of k i c) ≡ true → (k ≡ kind) × (i ≡ id)
  own_key kind id [] e = apart e
  own_key kind id (latest ∷ earlier) e = holds_that kind id (row_of k i (latest ∷ earlier)) e

  not_both : (kind : ℕ) (id : List ℕ) (other : ℕ) → other < 32 → ¬ (other ≡ row) → holds kind id (row_after (call ∷ calls) row) ≡ true → holds kind id (row_after (call ∷ calls) other) ≡ true → ⊥
  not_both kind id other m n e f =
      let t = own_key kind id counts (rw at_row at e) in
      alone other m n (rw (t.0, t.1) (rw (elsewhere other n) at f))

  once' : (kind : ℕ) (id : List ℕ) (one other : ℕ) → one < 32 → other < 32 → holds kind id (row_after (call ∷ calls) one) ≡ true → holds kind id (row_after (call ∷ calls) other) ≡ true → one ≡ other
  once' kind id one other l m e f = go (ℕ_discrete one row) (ℕ_discrete other row)
    where
      go : Dec (one ≡ row) → Dec (other ≡ row) → one ≡ other
      go (yes p) (yes q) = p ∙ sym q
      go (yes p) (no q) = absurd (not_both kind id other m q (rw p at e) f)
      go (no p) (yes q) = absurd (not_both kind id one l p (rw q at f) e)
      go (no p) (no q) = kept.once kind id one other l m (rw (elsewhere one p) at e) (rw (elsewhere other q) at f)

  stands' : (kind : ℕ) (id : List ℕ) → 0 < length (counts_of kind id (call ∷ calls)) → Somewhere kind id (call ∷ calls)
  stands' kind id some = go (is_sender kind id k i) refl
    where
      own : (c : List ℕ) → 0 < length c → holds k i (row_of k i c) ≡ true
      own [] h = absurd (omega arith)
      own (latest ∷ earlier) h = holds_own k i latest earlier

      far : is_sender kind id k i ≡ false → (at : Somewhere kind id calls) → Dec (at.row ≡ row) → Somewhere kind id (call ∷ calls)
      far e at (yes q) = apart (sym e ∙ before kind id (rw q at at.there))
      far e at (no n) = record { row = at.row; inside = at.inside; there = rw (elsewhere at.row n) at.there }

      go : (b : Bool) → is_sender kind id k i ≡ b → Somewhere kind id (call ∷ calls)
      go true e =
          let t = is_that kind id k i e in
          record { row = row; inside = inside; there = rw (at_row, ← t.0, ← t.1) (own counts (subst (λ (c : List ℕ). 0 < length c) same (rw (t.0, t.1) some))) }
      go false e = let at = kept.stands kind id (rw (others kind id e) at some) in far e at (ℕ_discrete at.row row)

  sound' : (kind : ℕ) (id : List ℕ) → Sound (counts_of kind id (call ∷ calls))
  sound' kind id = go (is_sender kind id k i) refl
    where
      go : (b : Bool) → is_sender kind id k i ≡ b → Sound (counts_of kind id (call ∷ calls))
      go true e = let t = is_that kind id k i e in rw (← t.0, ← t.1, same) fine
      go false e = rw (others kind id e) (kept.sound kind id)

  pub kept_by_one_row : Kept (call ∷ calls)
  kept_by_one_row = record { long = rw table_is (length-set (table_after calls).senders row (row_of k i counts) ∙ kept.long); says = says'; once = once'; stands = stands'; sound = sound' }
