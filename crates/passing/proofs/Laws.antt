-- Laws of where a walk over cells ends: one that goes on is followed by another, a refusal ends it.
-- Assumes nothing.
use Prim.Native.Nat.{ℕ, zero, suc, ◌+◌, ◌-◌, ◌≤◌}
use mathlib.Core.List.{List, []}
use mathlib.Core.Path.{◌≡◌, refl, sym, ap, subst, ◌∙◌}
use native.Mathlib.Omega.{arith}
use borrow.Author.Tests.{ne_eqb}
use lib.IntN.{ℤ}
use Rattle.std.specs.Prelude.{Result, Ok, Err, IsErrAnd}
use Rattle.std.proofs.lemmas.Result.{err_from_is_err_and}
use Rattle.answers.specs.declared.Refusal.{Refusal}
use Rattle.meaning.specs.Steps.{Got, prepend, and_then}
use Rattle.meaning.specs.Steps.Got.{ok, refused}
use Rattle.meaning.specs.Writing.{write_extension}
use Rattle.walking.specs.Walked.{opened, sized}
use Rattle.passing.specs.Ended.{Ended, EndedBy}

ok_not_err : {q : ℕ} {why : Refusal} → Ok q ≡ Err why → ⊥
ok_not_err e = let z : ◌≡◌ {A = ℕ} 0 1 = cc in omega arith

-- what `?` returns where it was handed a refusal
pub handed : {X : Type 0} {r : Result X Refusal} {why : Refusal} → IsErrAnd r (λ w. w ≡ why) → r ≡ Err why
handed {r = r} h = let p = err_from_is_err_and r h in p.1 ∙ ap Err p.2

-- behind the next of so many there is one fewer
pub one_fewer : (end i : ℕ) → end - i - 1 ≡ end - (i + 1)
one_fewer end i = omega arith

-- what an answer that goes on says
pub record Went {X : Type 0} (end : ℕ) (g : Got ℕ X) (q : ℕ) : Type 0 where
  pub x : X
  pub bits : List ℕ
  pub is : g ≡ ok x bits q
  pub within : q ≤ end

pub went : {X : Type 0} {end : ℕ} {g : Got ℕ X} {q : ℕ} {r : Result ℕ Refusal} → r ≡ Ok q → Ended end g r → Went end g q
unfolding EndedBy
went {g = ok x bits q₀} {q} e t =
    let both : Ok q ≡ Ok q₀ = sym e ∙ t.told.0 in
    let same : q₀ ≡ q = cc in
    record { x = x; bits = bits; is = ap (ok x bits) same; within = omega (arith, t.told.1) }
went {g = refused why} e t = absurd (ok_not_err (sym e ∙ t.told))

-- bits put out before do not change where it ends
behind : {Y : Type 0} {end : ℕ} {r : Result ℕ Refusal} (g : Got ℕ Y) (bits : List ℕ) → Ended end g r → Ended end (prepend bits g) r
unfolding EndedBy prepend
behind (ok y more q) bits t = record { told = t.told }
behind (refused why) bits t = record { told = t.told }

module _ {X Y : Type 0} {end : ℕ} {g : Got ℕ X} {r₁ : Result ℕ Refusal} (k : X → ℕ → Got ℕ Y) where
  -- what follows a step that went on answers the whole
  pub then : {q : ℕ} {r : Result ℕ Refusal} → r₁ ≡ Ok q → Ended end g r₁ → ((W : Went end g q) → Ended end (k W.x q) r) → Ended end (and_then g k) r
  unfolding and_then
  then {q} {r} e t u = let W = went e t in rw W.is (behind (k W.x q) W.bits (u W))

  -- a refusal is handed on as it is
  pub stops : {why : Refusal} {r : Result ℕ Refusal} → r₁ ≡ Err why → Ended end g r₁ → IsErrAnd r (λ w. w ≡ why) → Ended end (and_then g k) r
  unfolding EndedBy and_then
  stops {why} {r} e t h = rw (handed h) (go g (subst (λ (r : Result ℕ Refusal). Ended end g r) e t))
    where
      go : (g : Got ℕ X) → Ended end g (Err why) → Ended end (and_then g k) (Err why)
      go (ok x bits q) u = absurd (ok_not_err (sym u.told.0))
      go (refused w) u = record { told = u.told }

-- nothing is passed over
pub nothing : {X : Type 0} {end q : ℕ} {x : X} → q ≤ end → Ended end (ok x [] q) (Ok q)
unfolding EndedBy
nothing h = record { told = (refl, h) }

-- what is told is not wanted
pub unheard : {X Y : Type 0} {end : ℕ} {r : Result ℕ Refusal} (g : Got ℕ X) (h : X → Y) → Ended end g r → Ended end (and_then g (λ x j. ok (h x) [] j)) r
unfolding EndedBy and_then prepend
unheard (ok x bits q) h t = record { told = t.told }
unheard (refused why) h t = record { told = t.told }

-- an extension bit takes no cell, whether there is one or not
pub past_extension : {Y : Type 0} {end : ℕ} {r : Result ℕ Refusal} (mark : ℕ) (cells : List ℤ) (q : ℕ) (k : Unit {0} → ℕ → Got ℕ Y) → Ended end (k tt q) r → Ended end (and_then (opened mark (write_extension cells) q) k) r
unfolding opened and_then write_extension
past_extension zero cells q k t = behind (k tt q) _ t
past_extension (suc mark) cells q k t = rw (ne_eqb (suc mark) 0 (λ z. omega arith)) (behind (k tt q) _ t)

-- the size of a list: a fixed one takes no cell, and one that is coded is a number
pub fixed : {Y : Type 0} {end span q : ℕ} {r : Result ℕ Refusal} (whole : ℕ → Got ℕ ℕ) (k : ℕ → ℕ → Got ℕ Y) → span ≡ 0 → Ended end (k 0 q) r → Ended end (and_then (sized span whole q) k) r
unfolding sized and_then
fixed {q = q} whole k e t = rw e (behind (k 0 q) [] t)

pub coded : {span q : ℕ} (whole : ℕ → Got ℕ ℕ) → (span ≡ 0 → ⊥) → sized span whole q ≡ whole q
unfolding sized
coded {span} whole h = rw (ne_eqb span 0 h) refl

-- what is still to be passed over answers the whole
abbrev pub Goes : {X : Type 0} → ℕ → Got ℕ X → Got ℕ X → Type 0
Goes end g g₀ = (r : Result ℕ Refusal) → Ended end g r → Ended end g₀ r
