-- Laws of senders as they are told apart: by kind and id. Assumes nothing.
use Rattle.std.proofs.Common.{◌≡◌, ℕ, suc, Bool, true, false, not, ◌&&◌, T, eqb, List, [], ◌∷◌, length, sym, refl, subst, ap₂, arith, eq-eqb, ne_eqb, eqb-true}
use Rattle.senders.specs.declared.Sender.{Sender}
use Rattle.senders.specs.Rows.{same_bytes, free, holds}
use Rattle.senders.specs.History.{is_sender, row_of}

pub apart : {A : Type 0} → false ≡ true → A
apart e = absurd (subst T (sym e) tt)

pub both : (a b : Bool) → a && b ≡ true → (a ≡ true) × (b ≡ true)
both true b e = (refl, e)
both false b e = apart e

pub same_is : (a b : List ℕ) → same_bytes a b ≡ true → a ≡ b
unfolding same_bytes
same_is [] [] e = refl
same_is (x ∷ a) (y ∷ b) e = let t = both (eqb x y) (same_bytes a b) e in ap₂ ◌∷◌ (eqb-true x y t.0) (same_is a b t.1)
same_is [] (y ∷ b) e = apart e
same_is (x ∷ a) [] e = apart e

pub same_self : (a : List ℕ) → same_bytes a a ≡ true
unfolding same_bytes
same_self [] = refl
same_self (x ∷ a) = rw (eq-eqb x x refl) (same_self a)

pub is_self : (kind : ℕ) (id : List ℕ) → is_sender kind id kind id ≡ true
is_self kind id = rw (eq-eqb kind kind refl) (same_self id)

-- a sender is told by its kind and its id
pub is_that : (kind : ℕ) (id : List ℕ) (ofKind : ℕ) (ofId : List ℕ) → is_sender kind id ofKind ofId ≡ true → (ofKind ≡ kind) × (ofId ≡ id)
is_that kind id ofKind ofId e = let t = both (eqb ofKind kind) (same_bytes ofId id) e in (eqb-true ofKind kind t.0, same_is ofId id t.1)

-- a row that holds a sender has its kind and its id
pub holds_that : (kind : ℕ) (id : List ℕ) (s : Sender) → holds kind id s ≡ true → (s.kind ≡ kind) × (s.id ≡ id)
holds_that kind id s e = is_that kind id s.kind s.id (both (not (free s)) (is_sender kind id s.kind s.id) e).1

-- a row with counts holds its own sender and no other
pub holds_own : (kind : ℕ) (id : List ℕ) (latest : ℕ) (earlier : List ℕ) → holds kind id (row_of kind id (latest ∷ earlier)) ≡ true
holds_own kind id latest earlier = rw (ne_eqb (suc (length earlier)) 0 (λ e. omega arith)) (is_self kind id)
