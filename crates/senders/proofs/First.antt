-- Laws of the lowest row that passes a test, and of a search through the rows. Assumes nothing.
use Rattle.std.proofs.Common.{◌≡◌, ℕ, zero, suc, ◌+◌, ◌<◌, ◌≤◌, Bool, true, false, cond, not, ltb, List, [], ◌∷◌, length, get_or, Option, Some, None, Result, sym, refl, ap, ap₂, ◌∙◌, arith, ltb-false, ltb-true, le-ltb, lt-ltb}
use Rattle.std.specs.Option.{ok_or, option_or}
use Rattle.std.specs.List.{position_or_len, position, position_from}
use Rattle.std.proofs.lemmas.Iterator.Adapters.{position_from-zero}
use native.Mathlib.Decide.{dec_lt}
use Rattle.senders.specs.declared.Sender.{Sender}
use Rattle.senders.specs.Rows.{Spot, free, holds, first_at, row_or, spot_in}
use Rattle.senders.proofs.Keys.{apart}

-- the lowest of a row and those behind it, by the test of the row
abbrev at : Bool → ℕ → ℕ
at b n = cond b 0 (suc n)

-- std's search for the place of the first row that passes finds that row
first_is : (test : Sender → Bool) (l : List Sender) → first_at test l ≡ position_or_len test l
unfolding first_at
first_is test [] = refl
first_is test (s ∷ l) = go (test s) (first_is test l)
  where
    go : (b : Bool) → first_at test l ≡ position_or_len test l → at b (first_at test l) ≡ cond (not b) (1 + position_or_len test l) 0
    go true e = refl
    go false e = omega arith

-- the spot by the places of the sender's own row and of the first free one
abbrev pub spot_by : Option ℕ → Option ℕ → Spot
spot_by (Some row) spare = Spot.Known row
spot_by None (Some row) = Spot.Free row
spot_by None None = Spot.Full

pub spot_by_places : (rows : List Sender) (kind : ℕ) (id : List ℕ) → spot_in rows kind id ≡ spot_by (position (holds kind id) rows) (position free rows)
unfolding spot_in
spot_by_places rows kind id = rw (first_is (holds kind id) rows, first_is free rows) (go (ltb (position_or_len (holds kind id) rows) (length rows)) (ltb (position_or_len free rows) (length rows)))
  where
    go : (a b : Bool) → cond a (Spot.Known (position_or_len (holds kind id) rows)) (cond b (Spot.Free (position_or_len free rows)) Spot.Full) ≡ spot_by (cond a (Some (position_or_len (holds kind id) rows)) None) (cond b (Some (position_or_len free rows)) None)
    go true b = refl
    go false true = refl
    go false false = refl

-- ---- a search, row by row

-- the place of a sender's own row, else that of the lowest free one
abbrev pub sought : ℕ → List ℕ → List Sender → Result ℕ (Option ℕ)
sought kind id rows = ok_or (position (holds kind id) rows) (position free rows)

-- the same of rows that begin at a place, where this is the lowest free one so far
abbrev pub rows_left : ℕ → List ℕ → ℕ → Option ℕ → List Sender → Result ℕ (Option ℕ)
rows_left kind id row spare rows = ok_or (position_from (holds kind id) row rows) (option_or spare (position_from free row rows))

pub all_left : (kind : ℕ) (id : List ℕ) (rows : List Sender) → rows_left kind id 0 None rows ≡ sought kind id rows
all_left kind id rows = ap₂ ok_or (sym (position_from-zero (holds kind id) rows)) (sym (position_from-zero free rows))

-- ---- what a spot says of the rows

abbrev number_of : Spot → ℕ
number_of (Spot.Known row) = row
number_of (Spot.Free row) = row
number_of Spot.Full = 0

abbrev code_of : Spot → ℕ
code_of (Spot.Known row) = 0
code_of (Spot.Free row) = 1
code_of Spot.Full = 2

module _ (test : Sender → Bool) (d : Sender) where
  pub first_passes : (l : List Sender) → first_at test l < length l → test (get_or l (first_at test l) d) ≡ true
  unfolding first_at
  first_passes [] h = absurd (omega arith)
  first_passes (s ∷ l) h = go (test s) refl h (λ m. first_passes l m)
    where
      go : (b : Bool) → test s ≡ b → at b (first_at test l) < suc (length l) → (first_at test l < length l → test (get_or l (first_at test l) d) ≡ true) → test (get_or (s ∷ l) (at b (first_at test l)) d) ≡ true
      go true e m more = e
      go false e m more = more (omega arith)

  pub below_first : (l : List Sender) (i : ℕ) → i < first_at test l → test (get_or l i d) ≡ false
  unfolding first_at
  below_first [] i h = absurd (omega arith)
  below_first (s ∷ l) i h = go (test s) refl i h (λ (j : ℕ) m. below_first l j m)
    where
      go : (b : Bool) → test s ≡ b → (j : ℕ) → j < at b (first_at test l) → ((j : ℕ) → j < first_at test l → test (get_or l j d) ≡ false) → test (get_or (s ∷ l) j d) ≡ false
      go true e j m more = absurd (omega arith)
      go false e zero m more = e
      go false e (suc j) m more = more j (omega arith)

  -- a row that passes is no lower
  first_lowest : (l : List Sender) (i : ℕ) → test (get_or l i d) ≡ true → first_at test l ≤ i
  first_lowest l i e = elim (dec_lt i (first_at test l)) [
    | yes h ↦ apart (sym (below_first l i h) ∙ e)
    | no h ↦ omega arith
  ]

  none_passes : (l : List Sender) → ((i : ℕ) → i < length l → test (get_or l i d) ≡ false) → length l ≤ first_at test l
  none_passes l none = elim (dec_lt (first_at test l) (length l)) [
    | yes h ↦ apart (sym (none (first_at test l) h) ∙ first_passes l h)
    | no h ↦ omega arith
  ]

pub record KnownAt (rows : List Sender) (d : Sender) (kind : ℕ) (id : List ℕ) (row : ℕ) : Type 0 where
  pub inside : row < length rows
  pub there : holds kind id (get_or rows row d) ≡ true

pub record FreeAt (rows : List Sender) (d : Sender) (kind : ℕ) (id : List ℕ) (row : ℕ) : Type 0 where
  pub inside : row < length rows
  pub there : free (get_or rows row d) ≡ true
  pub nowhere : (other : ℕ) → other < length rows → holds kind id (get_or rows other d) ≡ false
  -- the lowest: all below are held
  pub above : (other : ℕ) → other < row → free (get_or rows other d) ≡ false

pub record FullAt (rows : List Sender) (d : Sender) (kind : ℕ) (id : List ℕ) : Type 0 where
  pub nowhere : (other : ℕ) → other < length rows → holds kind id (get_or rows other d) ≡ false
  pub none_free : (other : ℕ) → other < length rows → free (get_or rows other d) ≡ false

module _ (rows : List Sender) (d : Sender) (kind : ℕ) (id : List ℕ) (row : ℕ) where
  pub known_at : Spot.Known row ≡ spot_in rows kind id → KnownAt rows d kind id row
  unfolding spot_in
  known_at e = go (ltb (first_at (holds kind id) rows) (length rows)) refl e
    where
      inner : (b : Bool) → code_of (cond b (Spot.Free (first_at free rows)) Spot.Full) ≡ 0 → ⊥
      inner true q = omega arith
      inner false q = omega arith

      go : (b : Bool) → ltb (first_at (holds kind id) rows) (length rows) ≡ b → Spot.Known row ≡ cond b (Spot.Known (first_at (holds kind id) rows)) (row_or rows (first_at free rows) Spot.Free Spot.Full) → KnownAt rows d kind id row
      go true t q =
          let n : row ≡ first_at (holds kind id) rows = ap number_of q in
          let l = ltb-true (first_at (holds kind id) rows) (length rows) t in
          record { inside = omega arith; there = rw n (first_passes (holds kind id) d rows l) }
      go false t q = absurd (inner (ltb (first_at free rows) (length rows)) (sym (ap code_of q)))

  pub free_at : Spot.Free row ≡ spot_in rows kind id → FreeAt rows d kind id row
  unfolding spot_in
  free_at e = go (ltb (first_at (holds kind id) rows) (length rows)) refl e
    where
      inner : (b : Bool) → length rows ≤ first_at (holds kind id) rows → ltb (first_at free rows) (length rows) ≡ b → Spot.Free row ≡ cond b (Spot.Free (first_at free rows)) Spot.Full → FreeAt rows d kind id row
      inner true m t q =
          let n : row ≡ first_at free rows = ap number_of q in
          let l = ltb-true (first_at free rows) (length rows) t in
          record {
            inside = omega arith;
            there = rw n (first_passes free d rows l);
            nowhere = λ other h. below_first (holds kind id) d rows other (omega arith);
            above = λ other h. below_first free d rows other (omega arith);
          }
      inner false m t q = absurd (let n : ◌≡◌ {A = ℕ} 1 2 = ap code_of q in omega arith)

      go : (b : Bool) → ltb (first_at (holds kind id) rows) (length rows) ≡ b → Spot.Free row ≡ cond b (Spot.Known (first_at (holds kind id) rows)) (row_or rows (first_at free rows) Spot.Free Spot.Full) → FreeAt rows d kind id row
      go true t q = absurd (let n : ◌≡◌ {A = ℕ} 1 0 = ap code_of q in omega arith)
      go false t q = inner (ltb (first_at free rows) (length rows)) (ltb-false (first_at (holds kind id) rows) (length rows) t) refl q

module _ (rows : List Sender) (d : Sender) (kind : ℕ) (id : List ℕ) where
  pub full_at : Spot.Full ≡ spot_in rows kind id → FullAt rows d kind id
  unfolding spot_in
  full_at e = go (ltb (first_at (holds kind id) rows) (length rows)) refl e
    where
      inner : (b : Bool) → length rows ≤ first_at (holds kind id) rows → ltb (first_at free rows) (length rows) ≡ b → Spot.Full ≡ cond b (Spot.Free (first_at free rows)) Spot.Full → FullAt rows d kind id
      inner true m t q = absurd (let n : ◌≡◌ {A = ℕ} 2 1 = ap code_of q in omega arith)
      inner false m t q =
          let l = ltb-false (first_at free rows) (length rows) t in
          record { nowhere = λ other h. below_first (holds kind id) d rows other (omega arith); none_free = λ other h. below_first free d rows other (omega arith) }

      go : (b : Bool) → ltb (first_at (holds kind id) rows) (length rows) ≡ b → Spot.Full ≡ cond b (Spot.Known (first_at (holds kind id) rows)) (row_or rows (first_at free rows) Spot.Free Spot.Full) → FullAt rows d kind id
      go true t q = absurd (let n : ◌≡◌ {A = ℕ} 2 0 = ap code_of q in omega arith)
      go false t q = inner (ltb (first_at free rows) (length rows)) (ltb-false (first_at (holds kind id) rows) (length rows) t) refl q

  -- ---- and what the rows say of the spot

  pub spot_known : (row : ℕ) → row < length rows → holds kind id (get_or rows row d) ≡ true → spot_in rows kind id ≡ Spot.Known (first_at (holds kind id) rows)
  unfolding spot_in
  spot_known row h e = let l = first_lowest (holds kind id) d rows row e in rw (lt-ltb (first_at (holds kind id) rows) (length rows) (omega arith)) refl

  module _ (nowhere : (other : ℕ) → other < length rows → holds kind id (get_or rows other d) ≡ false) where
    pub spot_free : (row : ℕ) → row < length rows → free (get_or rows row d) ≡ true → spot_in rows kind id ≡ Spot.Free (first_at free rows)
    unfolding spot_in
    spot_free row h e =
        let l = first_lowest free d rows row e in
        rw (le-ltb (first_at (holds kind id) rows) (length rows) (none_passes (holds kind id) d rows nowhere), lt-ltb (first_at free rows) (length rows) (omega arith)) refl

    pub spot_full : ((other : ℕ) → other < length rows → free (get_or rows other d) ≡ false) → spot_in rows kind id ≡ Spot.Full
    unfolding spot_in
    spot_full held =
        rw (le-ltb (first_at (holds kind id) rows) (length rows) (none_passes (holds kind id) d rows nowhere), le-ltb (first_at free rows) (length rows) (none_passes free d rows held)) refl
