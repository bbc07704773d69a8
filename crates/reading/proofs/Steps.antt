-- Steps that fill cells, and what follows an answer in one number.
-- Assumes nothing.
use Prim.Native.Nat.{ℕ, suc, ◌+◌, ◌/◌, ◌%◌, ◌<◌, ◌≤◌}
use mathlib.Core.List.{List, [], ◌∷◌}
use mathlib.Core.Path.{◌≡◌, refl, sym, ap, ap₂, subst, ◌∙◌}
use native.Mathlib.Omega.{arith}
use lib.IntN.{ℤ, pos, ◌+ℤ◌}
use lib.ListN.{length, set, take, length-set}
use lib.Seq.{sets}
use Rattle.bits.specs.Numbers.{width}
use Rattle.bits.specs.Bytes.{bits_of}
use Rattle.types.specs.Shape.{Field}
use Rattle.types.specs.Shape.Ty.{num}
use Rattle.meaning.specs.Values.{Value, whole}
use Rattle.meaning.specs.Walk.{walk}
use Rattle.meaning.specs.Steps.{Got, ok, and_then}
use Rattle.meaning.specs.Reading.{free, read_whole, reader}
use Rattle.meaning.proofs.Steps.{then_ok, then_refused}
use Rattle.meaning.proofs.Sides.{ReadWhole, read_whole_lem}
use Rattle.walking.specs.Went.{Went}
use Rattle.walking.specs.Went.Went.{On}
use Rattle.walking.specs.Packed.{refused_from, place_room, farthest, up_to, went_by}
use Rattle.walking.specs.Walked.{Walked, Answered}
use Rattle.walking.proofs.Laws.{Ran, ran, then, stops, within}
use Rattle.reading.specs.Given.{message_in, Placed, Counted, Filled}
use Rattle.reading.specs.Taken.{taken_by}
use Rattle.walking.proofs.Packed.{went_on, went_no}
use Rattle.walking.proofs.Rows.{walk_number}
use Rattle.reading.proofs.Answers.{unless_no, unless_on}
use Rattle.reading.proofs.Leaves.{message_length}

-- ---- cells that are stored

pub filled_none : {s : List ℤ} {c : ℕ} → Counted s c → Filled [] s c c s
filled_none C = record { counted = omega arith; kept = refl; stored = λ room. refl }

pub filled_more : {s s₁ s₂ : List ℤ} {c c₁ c₂ : ℕ} {v : ℤ} {more : List ℤ} → Counted s c → s₁ ≡ set s c v → c₁ ≡ up_to (c + 1) → Filled more s₁ c₁ c₂ s₂ → Filled (v ∷ more) s c c₂ s₂
filled_more {s} {s₁} {s₂} {c} {c₁} {c₂} {v} {more} C es ec F =
    let l : length s₁ ≡ length s = ap length es ∙ length-set s c v in
    record {
      counted = omega (arith, F.counted);
      kept = F.kept ∙ l;
      stored = λ room. let n : c₁ ≡ suc c = omega arith in F.stored (omega arith) ∙ ap₂ (λ (x : List ℤ) (k : ℕ). sets x k more) es n;
    }

pub filled_one : {s s₁ : List ℤ} {c c₁ : ℕ} {v : ℤ} → Counted s c → s₁ ≡ set s c v → c₁ ≡ up_to (c + 1) → Filled (v ∷ []) s c c₁ s₁
filled_one {s} {s₁} {c} {c₁} {v} C es ec = filled_more C es ec (filled_none (record { room = omega (arith, C.room, ap length es, length-set s c v); next = omega arith }))

-- the walk that puts them out
module _ {X : Type 0} (agrees : X → ℕ → Type 0) {end q : ℕ} (h : q ≤ end) where
  pub filled_walk : {s s₁ : List ℤ} {c c₁ : ℕ} {out : List ℤ} (x : X) (n : ℕ) → agrees x n → Filled out s c c₁ s₁ → Walked agrees end (ok x out q) s c (On n q c₁) s₁
  unfolding Answered
  filled_walk x n a F = record { told = (n, ap (On n q) F.counted, a, F.kept, F.stored, h) }

-- and what follows it
pub after_filled : {X Y : Type 0} {agrees : Y → ℕ → Type 0} {end q : ℕ} {s s₁ s₂ : List ℤ} {c c₁ : ℕ} {out : List ℤ} {x : X} {w : Went} (k : X → ℕ → Got ℤ Y) → q ≤ end → length s ≤ farthest → Filled out s c c₁ s₁ → Walked agrees end (k x q) s₁ c₁ w s₂ → Walked agrees end (and_then (ok x out q) k) s c w s₂
after_filled {X} {agrees = agrees} {end} {q} {s₁ = s₁} {s₂} {c₁ = c₁} {x = x} {w} k h l F u =
    then k l refl (filled_walk (λ (y : X) (n : ℕ). y ≡ x) h x 0 refl F) (λ R. subst (λ (y : X). Walked agrees end (k y q) s₁ c₁ w s₂) (sym R.told) u)

-- ---- a field that was taken

module _ {b : List ℕ} {total at : ℕ} (P : Placed b total at) (f : Field) (r : ℕ) (e : read_whole f (message_in b total) at ≡ taken_by f.lowest f.span at r) where
  pub taken_refused : {agrees : ℕ → ℕ → Type 0} {s s' : List ℤ} {c : ℕ} → refused_from ≤ r → Walked agrees total (read_whole f (message_in b total) at) s c (went_by r) s'
  unfolding Answered
  taken_refused h = rw (e ∙ unless_no _ (went_no r h)) (record { told = went_no r h })

  pub taken_stops : {Y : Type 0} {agrees : Y → ℕ → Type 0} {s s' : List ℤ} {c : ℕ} (k : ℕ → ℕ → Got ℤ Y) → refused_from ≤ r → Walked agrees total (and_then (read_whole f (message_in b total) at) k) s c (went_by r) s'
  unfolding Answered
  taken_stops k h = rw (then_refused k (e ∙ unless_no _ (went_no r h))) (record { told = went_no r h })

  module _ (h : r < refused_from) where
    pub taken_so : read_whole f (message_in b total) at ≡ ok r ((f.lowest +ℤ pos r) ∷ []) (at + width f.span)
    taken_so = e ∙ unless_on _ r h

    was : ReadWhole (take total (bits_of b)) f at (at + width f.span) r ((f.lowest +ℤ pos r) ∷ [])
    was = read_whole_lem (take total (bits_of b)) free f at taken_so

    pub taken_within : r ≤ f.span
    taken_within = was.within

    pub taken_end : at + width f.span ≤ total
    taken_end = omega (arith, was.enough, message_length P, P.place)

    pub taken_walk : (agrees : ℕ → ℕ → Type 0) (n : ℕ) → agrees r n → {s s₁ : List ℤ} {c c₁ q : ℕ} {v : ℤ} → q ≡ at + width f.span → v ≡ f.lowest +ℤ pos r → Counted s c → s₁ ≡ set s c v → c₁ ≡ up_to (c + 1)
        → Walked agrees total (read_whole f (message_in b total) at) s c (On n q c₁) s₁
    taken_walk agrees n a {s} {s₁} {c} {c₁} {q} {v} eq ev C es ec = rw (taken_so, ← eq) (filled_walk agrees (omega (arith, taken_end)) r n a (filled_one C (es ∙ ap (set s c) ev) ec))

-- ---- a number that was taken, as a value, and what follows it

module _ {b : List ℕ} {total at : ℕ} (P : Placed b total at) (f : Field) (r : ℕ) (e : read_whole f (message_in b total) at ≡ taken_by f.lowest f.span at r)
    {Y : Type 0} {agrees : Y → ℕ → Type 0} {s : List ℤ} {c : ℕ} (k : Value → ℕ → Got ℤ Y) where
  pub taken_no : {s' : List ℤ} → refused_from ≤ r → Walked agrees total (and_then (walk (num f) reader (message_in b total) at) k) s c (went_by r) s'
  unfolding Answered
  taken_no h = rw (then_refused k (walk_number reader (message_in b total) f at ∙ then_refused _ (e ∙ unless_no _ (went_no r h)))) (record { told = went_no r h })

  pub taken_on : {s₁ s₂ : List ℤ} {c₁ q : ℕ} {v : ℤ} {w : Went} → r < refused_from → q ≡ at + width f.span → v ≡ f.lowest +ℤ pos r → Counted s c → s₁ ≡ set s c v → c₁ ≡ up_to (c + 1)
      → Walked agrees total (k (whole (f.lowest +ℤ pos r)) q) s₁ c₁ w s₂ → Walked agrees total (and_then (walk (num f) reader (message_in b total) at) k) s c w s₂
  taken_on {q = q} h eq ev C es ec u =
      let is : walk (num f) reader (message_in b total) at ≡ ok (whole (f.lowest +ℤ pos r)) ((f.lowest +ℤ pos r) ∷ []) q =
      walk_number reader (message_in b total) f at
      ∙ then_ok _ (taken_so P f r e h ∙ ap (ok r ((f.lowest +ℤ pos r) ∷ [])) (sym eq)) refl
      in
      rw is (after_filled k (omega (arith, taken_end P f r e h)) C.room (filled_one C (es ∙ ap (set s c) ev) ec) u)

-- ---- what follows an answer in one number

module _ {A X Y : Type 0} {agrees : X → ℕ → Type 0} {agrees' : Y → ℕ → Type 0} {end : ℕ} {g : Got A X} {s s' : List A} {c : ℕ} (r : ℕ) (k : X → ℕ → Got A Y) (t : Walked agrees end g s c (went_by r) s') where
  pub goes_on : {w : Went} {s'' : List A} → length s ≤ farthest → r < refused_from → ((R : Ran agrees end g s c 0 (r % place_room) (r / place_room) s') → Walked agrees' end (k R.x (r % place_room)) s' (r / place_room) w s'') → Walked agrees' end (and_then g k) s c w s''
  goes_on l h u = then k l (went_on r h) t u

  pub goes_no : {s'' : List A} → refused_from ≤ r → Walked agrees' end (and_then g k) s c (went_by r) s''
  goes_no h = rw (went_no r h) (stops k (went_no r h) t)

-- the place and the count of an answer that went on
module _ {A X : Type 0} {agrees : X → ℕ → Type 0} {end : ℕ} {g : Got A X} {s s' : List A} {c : ℕ} (r : ℕ) (t : Walked agrees end g s c (went_by r) s') (h : r < refused_from) where
  pub place_within : r % place_room ≤ end
  place_within = within (went_on r h) t

  pub count_within : r / place_room ≤ farthest
  count_within = let n = (ran (went_on r h) t).counted in omega arith
