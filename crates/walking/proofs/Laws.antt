-- Laws of what a walk tells: one that goes on is followed by another, a refusal ends; and how the loops over components and items turn.
-- Assumes nothing.
use Prim.Native.Nat.{ℕ, zero, suc, ◌+◌, ◌-◌, ◌<◌, ◌≤◌}
use mathlib.Core.List.{List, [], ◌++◌, append-nil}
use mathlib.Core.Path.{◌≡◌, refl, sym, ap, ap₂, subst, ◌∙◌}
use native.Mathlib.Omega.{arith}
use lib.ListN.{length, length-append}
use lib.Seq.{sets}
use Rattle.basics.proofs.Lists.{sets_append}
use Rattle.answers.specs.declared.Refusal.{Refusal}
use Rattle.meaning.specs.Values.{Value, no_items, item}
use Rattle.meaning.specs.Steps.{Got, Step, pure, prepend, and_then, ◌>>=◌}
use Rattle.meaning.specs.Walk.{times}
use Rattle.meaning.specs.Steps.Got.{ok, refused}
use Rattle.walking.specs.Walked.{Walked, Answered, silent, IsItself}
use Rattle.walking.specs.Packed.{farthest, up_to}
use Rattle.walking.specs.Went.{Went}
use Rattle.walking.specs.Went.Went.{On, No}

-- ---- going on, and stopping

on_not_no : {n q c : ℕ} {why : Refusal} → On n q c ≡ No why → ⊥
on_not_no e = let z : ◌≡◌ {A = ℕ} 0 1 = cc in omega arith

-- what an answer that goes on says
pub record Ran {A X : Type 0} (agrees : X → ℕ → Type 0) (end : ℕ) (g : Got A X) (s : List A) (cell n q next : ℕ) (s' : List A) : Type 0 where
  pub x : X
  pub out : List A
  pub is : g ≡ ok x out q
  pub told : agrees x n
  pub counted : next ≡ up_to (cell + length out)
  pub kept : length s' ≡ length s
  pub stored : cell + length out ≤ length s → s' ≡ sets s cell out
  pub within : q ≤ end

pub ran : {A X : Type 0} {agrees : X → ℕ → Type 0} {end : ℕ} {g : Got A X} {s s' : List A} {cell n q next : ℕ} {r : Went} → r ≡ On n q next → Walked agrees end g s cell r s' → Ran agrees end g s cell n q next s'
unfolding Answered
ran {agrees = agrees} {g = ok x out q₀} {cell = cell} {n = n} {q = q} {next = next} e t =
    let both : On n q next ≡ On t.told.0 q₀ (up_to (cell + length out)) = sym e ∙ t.told.1 in
    let eq : q₀ ≡ q = cc in
    let en : t.told.0 ≡ n = cc in
    record {
      x = x;
      out = out;
      is = ap (ok x out) eq;
      told = subst (agrees x) en t.told.2;
      counted = cc;
      kept = t.told.3;
      stored = t.told.4;
      within = omega (arith, t.told.5);
    }
ran {g = refused why} e t = absurd (on_not_no (sym e ∙ t.told))

pub within : {A X : Type 0} {agrees : X → ℕ → Type 0} {end : ℕ} {g : Got A X} {s s' : List A} {cell n q next : ℕ} {r : Went} → r ≡ On n q next → Walked agrees end g s cell r s' → q ≤ end
within e t = (ran e t).within

join : {A Y : Type 0} {agrees : Y → ℕ → Type 0} {end : ℕ} {s s' s'' : List A} {c c' : ℕ} {r : Went} (g : Got A Y) (cs : List A) → length s ≤ farthest → length s' ≡ length s
    → (c + length cs ≤ length s → s' ≡ sets s c cs) → c' ≡ up_to (c + length cs) → Walked agrees end g s' c' r s'' → Walked agrees end (prepend cs g) s c r s''
unfolding Answered prepend
join {A} {s = s} {s' = s'} {c = c} {c' = c'} (ok y ds q) cs h kept stored counted t =
    let all = length-append cs ds in
    let n : up_to (c' + length ds) ≡ up_to (c + length (cs ++ ds)) = omega arith in
    record {
      told = (
        t.told.0,
        t.told.1 ∙ ap (On t.told.0 q) n,
        t.told.2,
        t.told.3 ∙ kept,
        λ room.
            let e : c' ≡ c + length cs = omega arith in
            t.told.4 (omega arith)
            ∙ ap₂ (λ (l : List A) (k : ℕ). sets l k ds) (stored (omega arith)) e
            ∙ sym (sets_append s c cs ds),
        t.told.5,
      );
    }
join (refused why) cs h kept stored counted t = record { told = t.told }

then_no : {A X Y : Type 0} {agrees : X → ℕ → Type 0} {agrees' : Y → ℕ → Type 0} {end : ℕ} (g : Got A X) {s s' s'' : List A} {c : ℕ} {why : Refusal} (k : X → ℕ → Got A Y) → Walked agrees end g s c (No why) s' → Walked agrees' end (and_then g k) s c (No why) s''
unfolding Answered and_then
then_no (ok x out q) k t = absurd (on_not_no (sym t.told.1))
then_no (refused w) k t = record { told = t.told }

module _ {A X Y : Type 0} {agrees : X → ℕ → Type 0} {agrees' : Y → ℕ → Type 0} {end : ℕ} {g : Got A X} {s s' : List A} {c : ℕ} {r₁ : Went} where
  -- what follows a step that went on answers the whole
  pub then : {n q c' : ℕ} {r : Went} {s'' : List A} (k : X → ℕ → Got A Y) → length s ≤ farthest → r₁ ≡ On n q c' → (t : Walked agrees end g s c r₁ s')
      → ((R : Ran agrees end g s c n q c' s') → Walked agrees' end (k R.x q) s' c' r s'') → Walked agrees' end (and_then g k) s c r s''
  unfolding and_then
  then {n} {q} {c'} {r} {s''} k h e t u =
      let R = ran e t in
      rw R.is (join (k R.x q) R.out h R.kept R.stored R.counted (u R))

  pub stops : {why : Refusal} {s'' : List A} (k : X → ℕ → Got A Y) → r₁ ≡ No why → Walked agrees end g s c r₁ s' → Walked agrees' end (and_then g k) s c (No why) s''
  stops k e t = then_no g k (subst (λ (a : Went). Walked agrees end g s c a s') e t)

-- the same after a step that tells nothing, and after one that tells its number
pub after : {A Y : Type 0} {agrees : Unit {0} → ℕ → Type 0} {agrees' : Y → ℕ → Type 0} {end : ℕ} {g : Got A (Unit {0})} {s s' : List A} {c : ℕ} {r₁ : Went} {n q c' : ℕ} {r : Went} {s'' : List A} (k : Unit {0} → ℕ → Got A Y)
    → length s ≤ farthest → r₁ ≡ On n q c' → Walked agrees end g s c r₁ s' → Walked agrees' end (k tt q) s' c' r s'' → Walked agrees' end (and_then g k) s c r s''
after k h e t u = then k h e t (λ R. u)

pub after_number : {A Y : Type 0} {agrees' : Y → ℕ → Type 0} {end : ℕ} {g : Got A ℕ} {s s' : List A} {c : ℕ} {r₁ : Went} {n q c' : ℕ} {r : Went} {s'' : List A} (k : ℕ → ℕ → Got A Y)
    → length s ≤ farthest → r₁ ≡ On n q c' → Walked IsItself end g s c r₁ s' → Walked agrees' end (k n q) s' c' r s'' → Walked agrees' end (and_then g k) s c r s''
after_number {agrees' = agrees'} {end} {s' = s'} {q = q} {c' = c'} {r = r} {s'' = s''} k h e t u = then k h e t (λ R. subst (λ (m : ℕ). Walked agrees' end (k m q) s' c' r s'') (sym R.told) u)

-- nothing is done, and a number is told
pub nothing_told : {A X : Type 0} (agrees : X → ℕ → Type 0) {end : ℕ} {s : List A} {c q n : ℕ} {x : X} → agrees x n → q ≤ end → c ≤ farthest → Walked agrees end (ok x [] q) s c (On n q c) s
unfolding Answered
nothing_told agrees {c = c} {q = q} {n = n} a h l =
    let e : c ≡ up_to (c + 0) = omega arith in
    record { told = (n, ap (On n q) e, a, refl, λ room. refl, h) }

-- nothing is done
pub nothing : {A X : Type 0} {end : ℕ} {s : List A} {c q n : ℕ} {x : X} → q ≤ end → c ≤ farthest → Walked silent end (ok x [] q) s c (On n q c) s
nothing h l = nothing_told silent tt h l

-- what is told is not wanted
pub unheard : {A X Y : Type 0} {agrees : X → ℕ → Type 0} {end : ℕ} (g : Got A X) {s s' : List A} {c : ℕ} {r : Went} (h : X → Y) → Walked agrees end g s c r s' → Walked silent end (and_then g (λ x j. ok (h x) [] j)) s c r s'
unfolding Answered and_then prepend
unheard {A} (ok x out q) {s} {c = c} h t =
    let e : out ++ [] ≡ out = append-nil out in
    record {
      told = (
        t.told.0,
        t.told.1 ∙ ap (λ (l : List A). On t.told.0 q (up_to (c + length l))) (sym e),
        tt,
        t.told.3,
        λ room. t.told.4 (rw e at room) ∙ ap (sets s c) (sym e),
        t.told.5,
      );
    }
unheard (refused why) h t = record { told = t.told }

-- what is still to be done answers the whole
abbrev pub Goes : {A X : Type 0} → (X → ℕ → Type 0) → ℕ → Got A X → List A → ℕ → Got A X → List A → ℕ → Type 0
Goes {A} agrees end g s c g₀ s₀ c₀ = (r : Went) (s' : List A) → Walked agrees end g s c r s' → Walked agrees end g₀ s₀ c₀ r s'

-- one item of a list, and the others
pub times_step : {I B : Type 0} (m : ℕ) (f : Step I B Value) (input : I) (q : ℕ) → 0 < m → times m f input q ≡ and_then (f input q) (λ v i. and_then (times (m - 1) f input i) (λ vs j. ok (item v vs) [] j))
unfolding times ◌>>=◌ pure
times_step zero f input q h = absurd (omega arith)
times_step (suc k) f input q h = let e : k ≡ suc k - 1 = omega arith in ap (λ (n : ℕ). and_then (f input q) (λ v i. and_then (times n f input i) (λ vs j. ok (item v vs) [] j))) e

pub times_none : {I B : Type 0} (m : ℕ) (f : Step I B Value) (input : I) (q : ℕ) → m ≡ 0 → times m f input q ≡ ok no_items [] q
unfolding times pure
times_none m f input q e = rw e refl
