-- What a call can come to, for any table: it is refused, or it changes one row (document 02, A4). Assumes nothing.
use Rattle.std.proofs.Common.{◌≡◌, ℕ, suc, ◌≤◌, Bool, true, false, eqb, leb, ◌⊎◌, List, refl, inl, inr, leb-true}
use borrow.Author.Tests.{eqb-false}
use Rattle.senders.specs.declared.Table.{Table}
use Rattle.senders.specs.Rows.{Spot, spot_in}
use Rattle.senders.specs.Table.{Changed, nobody, no_row, sender_at, unchanged, placed, has_sender, entered, counted, reported, dropped, most_received}
use Rattle.senders.proofs.First.{KnownAt, FreeAt, known_at, free_at}

abbrev pub number_of : Changed → ℕ
number_of c = c.number

abbrev pub row_told : Changed → ℕ
row_told c = c.row

pub record Refused (table : Table) (c : Changed) : Type 0 where
  pub less_one : ℕ
  pub is : c ≡ unchanged (suc less_one) table

-- one report more of a known sender
pub record CountedOn (table : Table) (kind : ℕ) (id : List ℕ) (count : ℕ) (c : Changed) : Type 0 where
  pub row : ℕ
  pub small : count ≤ 127
  pub known : KnownAt table.senders no_row kind id row
  pub room : ¬ ((sender_at table row).received ≡ most_received)
  pub is : c ≡ placed table row (counted (sender_at table row) count)

-- the first report of a sender that is not held
pub record EnteredAt (table : Table) (kind : ℕ) (id : List ℕ) (count : ℕ) (c : Changed) : Type 0 where
  pub row : ℕ
  pub small : count ≤ 127
  pub spare : FreeAt table.senders no_row kind id row
  pub is : c ≡ placed table row (entered kind id count)

pub record DroppedFrom (table : Table) (kind : ℕ) (id : List ℕ) (c : Changed) : Type 0 where
  pub row : ℕ
  pub known : KnownAt table.senders no_row kind id row
  pub is : c ≡ placed table row nobody

module _ (table : Table) (kind : ℕ) (id : List ℕ) where
  module _ (count : ℕ) where
    abbrev pub Outcome : Type 0
    Outcome = Refused table (reported table kind id count) ⊎ (CountedOn table kind id count (reported table kind id count) ⊎ EnteredAt table kind id count (reported table kind id count))

    pub report_comes_to : Outcome
    unfolding reported
    report_comes_to = small (leb count 127) refl
      where
        known : leb count 127 ≡ true → has_sender kind ≡ true → (row : ℕ) → Spot.Known row ≡ spot_in table.senders kind id → (b : Bool) → eqb (sender_at table row).received most_received ≡ b → Outcome
        known h k row e true f = inl (record { less_one = 20; is = rw (h, k, ← e, f) refl })
        known h k row e false f = inr (inl (record { row = row; small = leb-true count 127 h; known = known_at table.senders no_row kind id row e; room = eqb-false _ _ f; is = rw (h, k, ← e, f) refl }))

        found : leb count 127 ≡ true → has_sender kind ≡ true → (spot : Spot) → spot ≡ spot_in table.senders kind id → Outcome
        found h k (Spot.Known row) e = known h k row e (eqb (sender_at table row).received most_received) refl
        found h k (Spot.Free row) e = inr (inr (record { row = row; small = leb-true count 127 h; spare = free_at table.senders no_row kind id row e; is = rw (h, k, ← e) refl }))
        found h k Spot.Full e = inl (record { less_one = 19; is = rw (h, k, ← e) refl })

        sender : leb count 127 ≡ true → (b : Bool) → has_sender kind ≡ b → Outcome
        sender h true k = found h k (spot_in table.senders kind id) refl
        sender h false k = inl (record { less_one = 24; is = rw (h, k) refl })

        small : (b : Bool) → leb count 127 ≡ b → Outcome
        small true h = sender h (has_sender kind) refl
        small false h = inl (record { less_one = 3; is = rw h refl })

  abbrev pub DropOutcome : Type 0
  DropOutcome = Refused table (dropped table kind id) ⊎ DroppedFrom table kind id (dropped table kind id)

  pub drop_comes_to : DropOutcome
  unfolding dropped
  drop_comes_to = sender (has_sender kind) refl
    where
      found : has_sender kind ≡ true → (spot : Spot) → spot ≡ spot_in table.senders kind id → DropOutcome
      found k (Spot.Known row) e = inr (record { row = row; known = known_at table.senders no_row kind id row e; is = rw (k, ← e) refl })
      found k (Spot.Free row) e = inl (record { less_one = 27; is = rw (k, ← e) refl })
      found k Spot.Full e = inl (record { less_one = 27; is = rw (k, ← e) refl })

      sender : (b : Bool) → has_sender kind ≡ b → DropOutcome
      sender true k = found k (spot_in table.senders kind id) refl
      sender false k = inl (record { less_one = 27; is = rw k refl })
