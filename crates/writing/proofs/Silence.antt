-- Steps whose tellings nobody listens to: what they put out and where they end, or why they stopped.
-- Assumes nothing.
use Prim.Native.Nat.{ℕ, zero, suc, ◌+◌, ◌-◌, ◌<◌}
use mathlib.Core.List.{List, [], ◌∷◌, ◌++◌, append-nil, append_assoc}
use mathlib.Core.Path.{◌≡◌, refl, sym, ap, ap₂, ◌∙◌}
use native.Mathlib.Nat.{zero-add}
use native.Mathlib.Omega.{arith}
use lib.ListN.{length}
use lib.Seq.{sets}
use Rattle.answers.specs.declared.Refusal.{Refusal}
use Rattle.meaning.specs.Values.{Value, Values, item}
use Rattle.meaning.specs.Steps.{Got, Step, pure, prepend, and_then, ◌>>=◌}
use Rattle.meaning.specs.Steps.Got.{ok, refused}
use Rattle.meaning.specs.Walk.{Side, bit, bits, times}
use Rattle.walking.specs.Walked.{Walked, Answered, silent}
use Rattle.walking.specs.Packed.{up_to}
use Rattle.walking.specs.Went.{Went}
use Rattle.walking.specs.Went.Went.{On, No}
use Rattle.walking.proofs.Laws.{times_step, times_none}
use Rattle.writing.specs.Cells.{silenced}

-- a step that nobody listens to is as good as another that puts out the same
pub as_silent : {X Y : Type 0} {end : ℕ} (g : Got ℕ X) (h : Got ℕ Y) {s s' : List ℕ} {c : ℕ} {r : Went} → silenced g ≡ silenced h → Walked silent end g s c r s' → Walked silent end h s c r s'
unfolding silenced Answered
as_silent (ok x out q) (ok y out₂ q₂) {s} {c = c} e t =
    let eo : out ≡ out₂ = cc in
    let eq : q ≡ q₂ = cc in
    record {
      told = (
        t.told.0,
        t.told.1 ∙ ap₂ (λ (l : List ℕ) (j : ℕ). On t.told.0 j (up_to (c + length l))) eo eq,
        tt,
        t.told.3,
        λ room. t.told.4 (rw eo room) ∙ ap (λ (l : List ℕ). sets s c l) eo,
        omega (arith, t.told.5),
      );
    }
as_silent (ok x out q) (refused why) e t = absurd (let z : ◌≡◌ {A = ℕ} 0 1 = cc in omega arith)
as_silent (refused why) (ok y out q) e t = absurd (let z : ◌≡◌ {A = ℕ} 0 1 = cc in omega arith)
as_silent (refused why) (refused why₂) e t = let same : why ≡ why₂ = cc in record { told = t.told ∙ ap No same }

-- ---- steps behind one another

module _ {X : Type 0} where
  pub silenced_prepend : (o : List ℕ) (g : Got ℕ X) → silenced (prepend o g) ≡ prepend o (silenced g)
  unfolding silenced prepend
  silenced_prepend o (ok x out q) = refl
  silenced_prepend o (refused why) = refl

  -- what is only told differently at the end
  pub silenced_end : {Y : Type 0} (g : Got ℕ X) (h : X → Y) → silenced (and_then g (λ x j. ok (h x) [] j)) ≡ silenced g
  unfolding silenced prepend and_then
  silenced_end (ok x out q) h = ap (λ (l : List ℕ). ok tt l q) (append-nil out)
  silenced_end (refused why) h = refl

  pub prepend_none : (g : Got ℕ X) → prepend [] g ≡ g
  unfolding prepend
  prepend_none (ok x out q) = refl
  prepend_none (refused why) = refl

  pub prepend_more : (a b : List ℕ) (g : Got ℕ X) → prepend a (prepend b g) ≡ prepend (a ++ b) g
  unfolding prepend
  prepend_more a b (ok x out q) = ap (λ (l : List ℕ). ok x l q) (sym (append_assoc a b out))
  prepend_more a b (refused why) = refl

prepend_same : {X Y : Type 0} (o : List ℕ) (g : Got ℕ X) (h : Got ℕ Y) → silenced g ≡ silenced h → silenced (prepend o g) ≡ silenced (prepend o h)
prepend_same o g h e = silenced_prepend o g ∙ ap (prepend o) e ∙ sym (silenced_prepend o h)

silenced_then : {X Y Z : Type 0} (g : Got ℕ X) (k : X → ℕ → Got ℕ Y) (k₂ : X → ℕ → Got ℕ Z) → ((x : X) (i : ℕ) → silenced (k x i) ≡ silenced (k₂ x i)) → silenced (and_then g k) ≡ silenced (and_then g k₂)
unfolding silenced and_then
silenced_then (ok x out q) k k₂ h = prepend_same out (k x q) (k₂ x q) (h x q)
silenced_then (refused why) k k₂ h = refl

-- a step that tells something else, before one that does not listen
relabel : {X Y Z : Type 0} (g : Got ℕ X) (h : X → Y) (k : ℕ → Got ℕ Z) → silenced (and_then (and_then g (λ x j. ok (h x) [] j)) (λ y j. k j)) ≡ silenced (and_then g (λ x j. k j))
unfolding and_then prepend
relabel (ok x out q) h k = ap (λ (l : List ℕ). silenced (prepend l (k q))) (append-nil out)
relabel (refused why) h k = refl

prepend_then : {X Y : Type 0} (o : List ℕ) (g : Got ℕ X) (k : X → ℕ → Got ℕ Y) → and_then (prepend o g) k ≡ prepend o (and_then g k)
unfolding and_then prepend
prepend_then o (ok x out q) k = sym (prepend_more o out (k x q))
prepend_then o (refused why) k = refl

then_then : {X Y Z : Type 0} (g : Got ℕ X) (k : X → ℕ → Got ℕ Y) (h : Y → ℕ → Got ℕ Z) → and_then (and_then g k) h ≡ and_then g (λ x i. and_then (k x i) h)
unfolding and_then
then_then (ok x out q) k h = prepend_then out (k x q) h
then_then (refused why) k h = refl

-- one step, and others behind it that do not listen to it
first_fine : {X Y Z : Type 0} (g : Got ℕ X) (k : ℕ → Got ℕ Y) (h : X → Y → Z) {x : X} {o : List ℕ} {i : ℕ} → g ≡ ok x o i → silenced (and_then g (λ y j. and_then (k j) (λ z l. ok (h y z) [] l))) ≡ prepend o (silenced (k i))
unfolding and_then
first_fine g k h {x} {o} {i} e = rw e (silenced_prepend o (and_then (k i) (λ z l. ok (h x z) [] l)) ∙ ap (prepend o) (silenced_end (k i) (h x)))

first_refused : {X Y : Type 0} (g : Got ℕ X) (k : X → ℕ → Got ℕ Y) {why : Refusal} → g ≡ refused why → silenced (and_then g k) ≡ refused why
unfolding and_then silenced
first_refused g k e = rw e refl

-- ---- presence bits

bits_step : {I : Type 0} (S : Side I ℕ) (input : I) (m q : ℕ) → 0 < m → bits m S input q ≡ and_then (S.whole bit input q) (λ b i. and_then (bits (m - 1) S input i) (λ bs j. ok (b ∷ bs) [] j))
unfolding bits ◌>>=◌ pure
bits_step S input zero q h = absurd (omega arith)
bits_step S input (suc m) q h = let e : m ≡ suc m - 1 = omega arith in ap (λ (n : ℕ). and_then (S.whole bit input q) (λ b i. and_then (bits n S input i) (λ bs j. ok (b ∷ bs) [] j))) e

module _ {I : Type 0} (S : Side I ℕ) (input : I) (m q : ℕ) (h : 0 < m) where
  pub bits_fine : {n : ℕ} {o : List ℕ} {i : ℕ} → S.whole bit input q ≡ ok n o i → silenced (bits m S input q) ≡ prepend o (silenced (bits (m - 1) S input i))
  bits_fine e = ap silenced (bits_step S input m q h) ∙ first_fine (S.whole bit input q) (bits (m - 1) S input) (λ b bs. b ∷ bs) e

  pub bits_refused : {why : Refusal} → S.whole bit input q ≡ refused why → silenced (bits m S input q) ≡ refused why
  bits_refused e = ap silenced (bits_step S input m q h) ∙ first_refused (S.whole bit input q) _ e

pub bits_none : {I : Type 0} (S : Side I ℕ) (input : I) (m q : ℕ) → m ≡ 0 → silenced (bits m S input q) ≡ ok tt [] q
unfolding bits pure silenced
bits_none S input m q e = rw e refl

-- ---- a step so often

module _ {I : Type 0} (f : Step I ℕ Value) (input : I) where
  -- one, and the others
  times_first : (m q : ℕ) → 0 < m → silenced (times m f input q) ≡ silenced (and_then (f input q) (λ v i. times (m - 1) f input i))
  times_first m q h = ap silenced (times_step m f input q h) ∙ silenced_then (f input q) _ _ (λ v i. silenced_end (times (m - 1) f input i) (item v))

  pub times_fine : (m q : ℕ) {v : Value} {o : List ℕ} {i : ℕ} → 0 < m → f input q ≡ ok v o i → silenced (times m f input q) ≡ prepend o (silenced (times (m - 1) f input i))
  times_fine m q h e = ap silenced (times_step m f input q h) ∙ first_fine (f input q) (times (m - 1) f input) item e

  pub times_refused : (m q : ℕ) {why : Refusal} → 0 < m → f input q ≡ refused why → silenced (times m f input q) ≡ refused why
  times_refused m q h e = ap silenced (times_step m f input q h) ∙ first_refused (f input q) _ e

  pub times_over : (q : ℕ) → silenced (times 0 f input q) ≡ ok tt [] q
  unfolding silenced
  times_over q = ap silenced (times_none 0 f input q refl)

  pub times_split : (a b q : ℕ) → silenced (times (a + b) f input q) ≡ silenced (and_then (times a f input q) (λ vs i. times b f input i))
  unfolding times and_then
  times_split zero b q = ap (λ (n : ℕ). silenced (times n f input q)) (zero-add b) ∙ ap silenced (sym (prepend_none (times b f input q))) ∙ ap (λ (g : Got ℕ Values). silenced (and_then g (λ vs i. times b f input i))) (sym (times_none 0 f input q refl))
  times_split (suc a) b q =
      let e : suc a + b - 1 ≡ a + b = omega arith in
      let back : suc a - 1 ≡ a = omega arith in
      times_first (suc a + b) q (omega arith)
      ∙ ap (λ (n : ℕ). silenced (and_then (f input q) (λ v i. times n f input i))) e
      ∙ silenced_then (f input q) _ _ (λ v i. times_split a b i ∙ sym (relabel (times a f input i) (item v) (λ j. times b f input j)))
      ∙ ap silenced (sym (then_then (f input q) (λ v i. and_then (times a f input i) (λ vs j. ok (item v vs) [] j)) (λ vs j. times b f input j)))
      ∙ ap (λ (g : Got ℕ Values). silenced (and_then g (λ vs j. times b f input j))) (sym (times_step (suc a) f input q (omega arith) ∙ ap (λ (n : ℕ). and_then (f input q) (λ v i. and_then (times n f input i) (λ vs j. ok (item v vs) [] j))) back))
