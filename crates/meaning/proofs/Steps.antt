-- When steps that follow one another, a test and a guard answer `ok`, and what they answer then.
-- Assumes nothing.
use Prim.Native.Nat.{ℕ, zero, suc, ◌+◌, ◌≤◌, ◌<◌}
use mathlib.Core.Path.{◌≡◌, refl, ap, ◌∙◌}
use mathlib.Core.List.{List, [], ◌∷◌, ◌++◌}
use native.Mathlib.Nat.{zero-add, suc-add}
use native.Mathlib.Omega.{arith}
use mathlib.Core.Bool.{Bool, true, false, not, cond}
use lib.Dec.{T, leb, leb→le, le→leb}
use lib.Arith.{lt→nleb}
use lib.ListN.{take, drop, take-append-drop}
use lib.Seq.{slice, take-take, take-nil}
use Rattle.answers.specs.declared.Refusal.{Refusal}
use Rattle.meaning.specs.Steps.{Got, ok, refused, Step, prepend, and_then, ◌>>=◌, judged_by, guarded}

module _ {B X : Type 0} where
  pub ok_is_not_refused : {x : X} {out : List B} {j : ℕ} {r : Refusal} → ◌≡◌ {A = Got B X} (refused r) (ok x out j) → ⊥
  ok_is_not_refused e = let z : ◌≡◌ {A = ℕ} 0 1 = cc in omega arith

  -- a test whose other branch refuses
  pub passed : (b : Bool) {g : Got B X} (r : Refusal) {x : X} {out : List B} {j : ℕ} → cond b g (refused r) ≡ ok x out j → T b × (g ≡ ok x out j)
  passed true r e = (tt, e)
  passed false r e = absurd (ok_is_not_refused e)

  pub pass : (b : Bool) (g : Got B X) (r : Refusal) → T b → cond b g (refused r) ≡ g
  pass true g r t = refl
  pass false g r t = absurd t

  pub passed_le : (m n : ℕ) {g : Got B X} (r : Refusal) {x : X} {out : List B} {j : ℕ} → cond (leb m n) g (refused r) ≡ ok x out j → (m ≤ n) × (g ≡ ok x out j)
  passed_le m n r e = let (t, e') = passed (leb m n) r e in (leb→le m n t, e')

  pub pass_le : (m n : ℕ) (g : Got B X) (r : Refusal) → m ≤ n → cond (leb m n) g (refused r) ≡ g
  pass_le m n g r h = pass (leb m n) g r (le→leb m n h)

  pub fail_le : (m n : ℕ) (g h : Got B X) → n < m → cond (leb m n) g h ≡ h
  fail_le m n g h p = fail (leb m n) (lt→nleb m n p)
    where
      fail : (b : Bool) → T (not b) → cond b g h ≡ h
      fail true t = absurd t
      fail false t = refl

module _ {B X : Type 0} where
  -- how `and_then` came to answer `ok`
  pub record Came {Y : Type 0} (g : Got B X) (k : X → ℕ → Got B Y) (j : ℕ) (y : Y) (out : List B) : Type 0 where
    pub told : X
    pub first : List B
    pub then : ℕ
    pub more : List B
    pub at_first : g ≡ ok told first then
    pub at_more : k told then ≡ ok y more j
    pub both : first ++ more ≡ out

  pub then_ok : {Y : Type 0} {g : Got B X} (k : X → ℕ → Got B Y) {m j : ℕ} {x : X} {y : Y} {o more : List B} → g ≡ ok x o m → k x m ≡ ok y more j → and_then g k ≡ ok y (o ++ more) j
  unfolding and_then prepend
  then_ok k p q = rw (p, q)

  -- the first refusal ends it
  pub then_refused : {Y : Type 0} {g : Got B X} (k : X → ℕ → Got B Y) {r : Refusal} → g ≡ refused r → and_then g k ≡ refused r
  unfolding and_then
  then_refused k p = rw p refl

  pub then_fails : {Y : Type 0} {g : Got B X} (k : X → ℕ → Got B Y) {m : ℕ} {x : X} {o : List B} {r : Refusal} → g ≡ ok x o m → k x m ≡ refused r → and_then g k ≡ refused r
  unfolding and_then prepend
  then_fails k p q = rw (p, q)

  pub came : {Y : Type 0} {g : Got B X} {k : X → ℕ → Got B Y} {j : ℕ} {y : Y} {out : List B} → and_then g k ≡ ok y out j → Came g k j y out
  unfolding and_then prepend
  came {Y} {g} {k} {j} {y} {out} e = go g refl e
    where
      go₂ : (x : X) (o : List B) (m : ℕ) → g ≡ ok x o m → (r : Got B Y) → k x m ≡ r → prepend o r ≡ ok y out j → Came g k j y out
      go₂ x o m p (ok z more q) s e = record { told = x; first = o; then = m; more = more; at_first = p; at_more = cc; both = cc }
      go₂ x o m p (refused r) s e = absurd (ok_is_not_refused e)

      go : (r : Got B X) → g ≡ r → and_then r k ≡ ok y out j → Came g k j y out
      go (ok x o m) p e = go₂ x o m p (k x m) refl e
      go (refused r) p e = absurd (ok_is_not_refused e)

-- the same of steps
pub bind_ok : {I B X Y : Type 0} (f : Step I B X) (k : X → Step I B Y) (c : I) (i : ℕ) {m j : ℕ} {x : X} {y : Y} {o more : List B} → f c i ≡ ok x o m → k x c m ≡ ok y more j → (f >>= k) c i ≡ ok y (o ++ more) j
unfolding ◌>>=◌
bind_ok f k c i p q = then_ok (λ x. k x c) p q

pub bound : {I B X Y : Type 0} (f : Step I B X) (k : X → Step I B Y) (c : I) (i : ℕ) {j : ℕ} {y : Y} {out : List B} → (f >>= k) c i ≡ ok y out j → Came (f c i) (λ x. k x c) j y out
unfolding ◌>>=◌
bound f k c i e = came e

-- what a guard lets pass was told, and is good
module _ {I B X : Type 0} (amiss : ℕ → Refusal) (good : X → Bool) (f : Step I B X) (c : I) (i : ℕ) where
  pub guard_passed : {j : ℕ} {x : X} {out : List B} → guarded amiss good f c i ≡ ok x out j → T (good x) × (f c i ≡ ok x out j)
  unfolding guarded judged_by
  guard_passed {j} {x} {out} e = go (f c i) refl e
    where
      go : (g : Got B X) → f c i ≡ g → judged_by good (amiss i) g ≡ ok x out j → T (good x) × (f c i ≡ ok x out j)
      go (ok y o m) p e =
          let (t, e') = passed (good y) (amiss i) e in
          let q : y ≡ x = cc in
          (rw q at t, p ∙ e')
      go (refused r) p e = absurd (ok_is_not_refused e)

  pub guard_pass : {j : ℕ} {x : X} {out : List B} → f c i ≡ ok x out j → T (good x) → guarded amiss good f c i ≡ ok x out j
  unfolding guarded judged_by
  guard_pass {j} {x} {out} p t = rw p (pass (good x) (ok x out j) (amiss i) t)

pub slice_append : {A : Type 0} (i m j : ℕ) (l : List A) → i ≤ m → m ≤ j → slice i m l ++ slice m j l ≡ slice i j l
slice_append zero m j l p q = rw (← take-take m j l q) (take-append-drop m (take j l))
slice_append (suc i) zero j l p q = absurd (omega arith)
slice_append (suc i) (suc m) zero l p q = absurd (omega arith)
slice_append (suc i) (suc m) (suc j) [] p q = refl
slice_append (suc i) (suc m) (suc j) (x ∷ l) p q = slice_append i m j l (omega arith) (omega arith)

-- a part of a list, by its ends and by its length
pub slice_part : {A : Type 0} (i w : ℕ) (l : List A) → slice i (i + w) l ≡ take w (drop i l)
slice_part zero w l = ap (λ (k : ℕ). take k l) (zero-add w)
slice_part (suc i) w [] = rw (suc-add i w, take-nil w)
slice_part (suc i) w (x ∷ l) = rw (suc-add i w) (slice_part i w l)
