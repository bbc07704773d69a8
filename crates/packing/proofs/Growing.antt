-- A sequence whose last components are absent, and the same with one of these there: what is written of it is what was written before, and then the
-- component.
-- Assumes nothing.
use Prim.Native.Nat.{ℕ, zero, suc, ◌+◌, ◌-◌, ◌≤◌}
use native.Mathlib.Omega.{arith}
use mathlib.Core.Path.{◌≡◌, refl, sym, ap, subst, ◌∙◌}
use mathlib.Core.List.{List, [], ◌∷◌, ◌++◌, append_assoc, append-nil}
use lib.IntN.{ℤ}
use Rattle.types.specs.Shape.{Ty, Fields}
use Rattle.types.specs.Shape.Fields.{none, must, may}
use Rattle.meaning.specs.Values.{Value, Parts, finished, absent, there}
use Rattle.meaning.specs.Steps.{ok, Step, pure, ◌>>=◌}
use Rattle.meaning.specs.Walk.{fields}
use Rattle.meaning.specs.Writing.{writer, write}
use Rattle.meaning.proofs.Steps.{Came, bound, bind_ok}
use Rattle.meaning.proofs.Bound.{write_inside}
use Rattle.packing.proofs.Moved.{Alike, front, behind, write_moved}

-- all of these are absent
pub data Absents : Fields → List ℕ → Type 0 where
  no_more : Absents none []
  and_more : {u : Ty} {fs : Fields} {ns : List ℕ} → Absents fs ns → Absents (may u fs) (zero ∷ ns)

-- by the second presence bits a component of type t is there that is absent by the first, and all behind it are absent
pub data Adds (t : Ty) : Fields → List ℕ → List ℕ → Type 0 where
  here : {fs : Fields} {ns : List ℕ} → Absents fs ns → Adds t (may t fs) (zero ∷ ns) (suc zero ∷ ns)
  past_must : {u : Ty} {fs : Fields} {ns ms : List ℕ} → Adds t fs ns ms → Adds t (must u fs) ns ms
  past_there : {u : Ty} {fs : Fields} {n : ℕ} {ns ms : List ℕ} → Adds t fs ns ms → Adds t (may u fs) (suc n ∷ ns) (suc n ∷ ms)
  past_absent : {u : Ty} {fs : Fields} {ns ms : List ℕ} → Adds t fs ns ms → Adds t (may u fs) (zero ∷ ns) (zero ∷ ms)

-- as components
pub absents : {fs : Fields} {ns : List ℕ} → Absents fs ns → Parts
absents no_more = finished
absents (and_more a) = absent (absents a)

all_absent : {fs : Fields} {ns : List ℕ} (a : Absents fs ns) (cells : List ℤ) (p : ℕ) → fields fs ns writer cells p ≡ ok (absents a) [] p
unfolding fields pure absents
all_absent no_more cells p = refl
all_absent (and_more {u} {fs} {ns} a) cells p = bind_ok (fields fs ns writer) (λ parts. pure (absent parts)) cells p (all_absent a cells p) refl

-- places go forward
there_onward : (u : Ty) (f : Step (List ℤ) ℕ Parts) (cells : List ℤ) (p : ℕ) {parts : Parts} {out : List ℕ} {q : ℕ} → ((i : ℕ) (ps : Parts) (o : List ℕ) (j : ℕ) → f cells i ≡ ok ps o j → i ≤ j) → (write u >>= (λ w. f >>= (λ ps. pure (there w ps)))) cells p ≡ ok parts out q → p ≤ q
unfolding pure
there_onward u f cells p {parts} {out} {q} on e =
    let C : Came (write u cells p) (λ w. (f >>= (λ ps. pure (there w ps))) cells) q parts out = bound (write u) (λ w. f >>= (λ ps. pure (there w ps))) cells p e in
    let D : Came (f cells C.then) (λ ps. pure (there C.told ps) cells) q parts C.more = bound f (λ ps. pure (there C.told ps)) cells C.then C.at_more in
    let last : D.then ≡ q = cc D.at_more in
    let I = write_inside u cells p C.then C.told C.first C.at_first in
    omega (arith, I.onward, on C.then D.told D.first D.then D.at_first)

absent_onward : (f : Step (List ℤ) ℕ Parts) (cells : List ℤ) (p : ℕ) {parts : Parts} {out : List ℕ} {q : ℕ} → ((ps : Parts) (o : List ℕ) (j : ℕ) → f cells p ≡ ok ps o j → p ≤ j) → (f >>= (λ ps. pure (absent ps))) cells p ≡ ok parts out q → p ≤ q
unfolding pure
absent_onward f cells p {parts} {out} {q} on e =
    let D : Came (f cells p) (λ ps. pure (absent ps) cells) q parts out = bound f (λ ps. pure (absent ps)) cells p e in
    let last : D.then ≡ q = cc D.at_more in
    omega (arith, on D.told D.first D.then D.at_first)

fields_onward : (fs : Fields) (ns : List ℕ) (cells : List ℤ) (p : ℕ) {parts : Parts} {out : List ℕ} {q : ℕ} → fields fs ns writer cells p ≡ ok parts out q → p ≤ q
unfolding fields pure
fields_onward none ns cells p {q = q} e = let z : p ≡ q = cc in omega arith
fields_onward (must u fs) ns cells p e = there_onward u (fields fs ns writer) cells p (λ i ps o j f. fields_onward fs ns cells i f) e
fields_onward (may u fs) [] cells p e = absent_onward (fields fs [] writer) cells p (λ ps o j f. fields_onward fs [] cells p f) e
fields_onward (may u fs) (zero ∷ ns) cells p e = absent_onward (fields fs ns writer) cells p (λ ps o j f. fields_onward fs ns cells p f) e
fields_onward (may u fs) (suc n ∷ ns) cells p e = there_onward u (fields fs ns writer) cells p (λ i ps o j f. fields_onward fs ns cells i f) e

-- what is written with it there
pub record Grown (fs : Fields) (ms : List ℕ) (other : List ℤ) (p : ℕ) (out : List ℕ) (q : ℕ) : Type 0 where
  pub parts : Parts
  pub is : fields fs ms writer other p ≡ ok parts out q

-- a list behind which nothing comes, and which then has more behind it
joins : (o d r out more : List ℕ) → d ++ [] ≡ r → o ++ r ≡ out → o ++ ((d ++ more) ++ []) ≡ out ++ more
joins o d r out more e f =
    ap (λ (l : List ℕ). o ++ l) (append-nil (d ++ more))
    ∙ sym (append_assoc o d more)
    ∙ ap (λ (l : List ℕ). l ++ more) (ap (λ (l : List ℕ). o ++ l) (sym (append-nil d) ∙ e) ∙ f)

module _ (t : Ty) (cells other : List ℤ) (q : ℕ) (v : Value) (more : List ℕ) (end : ℕ) (added : write t other q ≡ ok v more end) where
  abbrev Later : Fields → List ℕ → List ℕ → Type 0
  Later fs ns ms = (i : ℕ) (parts : Parts) (out : List ℕ) → fields fs ns writer cells i ≡ ok parts out q → Alike cells i other i (q - i) → Grown fs ms other i (out ++ more) end

  -- behind a component that is there
  there_on : (u : Ty) (fs : Fields) (ns ms : List ℕ) → Later fs ns ms → (p : ℕ) (parts : Parts) (out : List ℕ)
      → (write u >>= (λ w. fields fs ns writer >>= (λ ps. pure (there w ps)))) cells p ≡ ok parts out q → Alike cells p other p (q - p)
      → (parts' : Parts) × ((write u >>= (λ w. fields fs ms writer >>= (λ ps. pure (there w ps)))) other p ≡ ok parts' (out ++ more) end)
  unfolding pure
  there_on u fs ns ms later p parts out e A =
      let C : Came (write u cells p) (λ w. (fields fs ns writer >>= (λ ps. pure (there w ps))) cells) q parts out = bound (write u) (λ w. fields fs ns writer >>= (λ ps. pure (there w ps))) cells p e in
      let D : Came (fields fs ns writer cells C.then) (λ ps. pure (there C.told ps) cells) q parts C.more = bound (fields fs ns writer) (λ ps. pure (there C.told ps)) cells C.then C.at_more in
      let last : D.then ≡ q = cc D.at_more in
      let nothing : [] ≡ D.more = cc D.at_more in
      let rest : fields fs ns writer cells C.then ≡ ok D.told D.first q = D.at_first ∙ ap (ok D.told D.first) last in
      let I = write_inside u cells p C.then C.told C.first C.at_first in
      let J = fields_onward fs ns cells C.then rest in
      let place : p + (C.then - p) ≡ C.then = omega (arith, I.onward) in
      let left : q - p - (C.then - p) ≡ q - C.then = omega (arith, I.onward) in
      let first : write u other p ≡ ok C.told C.first C.then = write_moved u C.at_first other p (front (C.then - p) (q - p) (omega (arith, I.onward, J)) A) ∙ ap (ok C.told C.first) place in
      let on : Alike cells C.then other C.then (q - C.then) =
      subst (λ (n : ℕ). Alike cells C.then other C.then n) left
      (subst (λ (i : ℕ). Alike cells i other i (q - p - (C.then - p))) place (behind (C.then - p) (q - p) (omega (arith, I.onward, J)) A)) in
      let R = later C.then D.told D.first rest on in (
        there C.told R.parts,
        bind_ok (write u) (λ w. fields fs ms writer >>= (λ ps. pure (there w ps))) other p first (bind_ok (fields fs ms writer) (λ ps. pure (there C.told ps)) other C.then R.is refl)
            ∙ ap (λ (o : List ℕ). ok (there C.told R.parts) o end) (joins C.first D.first C.more out more (ap (λ (l : List ℕ). D.first ++ l) nothing ∙ D.both) C.both),
      )

  -- behind one that is absent
  absent_on : (fs : Fields) (ns ms : List ℕ) → Later fs ns ms → (p : ℕ) (parts : Parts) (out : List ℕ)
      → (fields fs ns writer >>= (λ ps. pure (absent ps))) cells p ≡ ok parts out q → Alike cells p other p (q - p)
      → (parts' : Parts) × ((fields fs ms writer >>= (λ ps. pure (absent ps))) other p ≡ ok parts' (out ++ more) end)
  unfolding pure
  absent_on fs ns ms later p parts out e A =
      let D : Came (fields fs ns writer cells p) (λ ps. pure (absent ps) cells) q parts out = bound (fields fs ns writer) (λ ps. pure (absent ps)) cells p e in
      let last : D.then ≡ q = cc D.at_more in
      let nothing : [] ≡ D.more = cc D.at_more in
      let R = later p D.told D.first (D.at_first ∙ ap (ok D.told D.first) last) A in (
        absent R.parts,
        bind_ok (fields fs ms writer) (λ ps. pure (absent ps)) other p R.is refl
            ∙ ap (λ (o : List ℕ). ok (absent R.parts) o end) (joins [] D.first out out more (ap (λ (l : List ℕ). D.first ++ l) nothing ∙ D.both) refl),
      )

  pub grown : {fs : Fields} {ns ms : List ℕ} → Adds t fs ns ms → Later fs ns ms
  unfolding fields pure
  grown (here {fs} {ns} a) p parts out e A =
      let C : Came (fields fs ns writer cells p) (λ ps. pure (absent ps) cells) q parts out = bound (fields fs ns writer) (λ ps. pure (absent ps)) cells p e in
      let none : ok C.told C.first C.then ≡ ok (absents a) [] p = sym C.at_first ∙ all_absent a cells p in
      let empty : C.first ≡ [] = cc none in
      let start : C.then ≡ p = cc none in
      let last : C.then ≡ q = cc C.at_more in
      let nothing : [] ≡ C.more = cc C.at_more in
      let all : [] ≡ out = ap (λ (o : List ℕ). [] ++ o) nothing ∙ ap (λ (o : List ℕ). o ++ C.more) (sym empty) ∙ C.both in
      let at : q ≡ p = sym last ∙ start in
      record {
        parts = there v (absents a);
        is =
            subst (λ (i : ℕ). (write t >>= (λ w. fields fs ns writer >>= (λ ps. pure (there w ps)))) other i ≡ ok (there v (absents a)) (out ++ more) end) at
            (bind_ok (write t) (λ w. fields fs ns writer >>= (λ ps. pure (there w ps))) other q added (bind_ok (fields fs ns writer) (λ ps. pure (there v ps)) other end (all_absent a other end) refl)
            ∙ ap (λ (o : List ℕ). ok (there v (absents a)) o end) (append-nil more ∙ ap (λ (o : List ℕ). o ++ more) all));
      }
  grown (past_must {u} {fs} {ns} {ms} G) p parts out e A = let R = there_on u fs ns ms (λ i ps o f B. grown G i ps o f B) p parts out e A in record { parts = R.0; is = R.1 }
  grown (past_there {u} {fs} {n} {ns} {ms} G) p parts out e A = let R = there_on u fs ns ms (λ i ps o f B. grown G i ps o f B) p parts out e A in record { parts = R.0; is = R.1 }
  grown (past_absent {u} {fs} {ns} {ms} G) p parts out e A = let R = absent_on fs ns ms (λ i ps o f B. grown G i ps o f B) p parts out e A in record { parts = R.0; is = R.1 }
