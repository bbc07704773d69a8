-- The place of a key among several: none before it is the key, and it is, where it is found.
-- Assumes nothing.
use Prim.Native.Nat.{ℕ, zero, suc, ◌+◌, ◌<◌, ◌≤◌, min}
use native.Mathlib.Omega.{arith}
use mathlib.Core.Path.{◌≡◌, refl, ◌∙◌}
use mathlib.Core.Bool.{Bool, true, false, not, cond}
use mathlib.Core.List.{List, [], ◌∷◌}
use borrow.Author.Tests.{eqb-true, eqb-false, ltb-false}
use lib.Dec.{eqb}
use lib.ListN.{length, get_or}
use Rattle.std.specs.Prelude.{Option, Some, None, ◌==◌, nat_lt, take, position}
use Rattle.std.specs.List.{position_or_len}
use Rattle.std.specs.Option.{unwrap_or}
use Rattle.std.proofs.lemmas.List.{length-take-le}
use Rattle.std.proofs.lemmas.List.Sums.{prefix_len-le-length}
use Rattle.messages.specs.Keys.{place_of}

module _ (key : ℕ) where
  -- none of the keys before a place is this one
  abbrev pub NoneTo : ℕ → List ℕ → Type 0
  NoneTo i keys = (j : ℕ) → j < i → get_or keys j 0 ≡ key → ⊥

  -- where the first of them stands that is this one, else how many they are
  first_place : (m count : ℕ) (keys : List ℕ) → m ≡ min count (length keys) → position_or_len (λ k. k == key) (take m keys) ≡ place_of key count keys
  unfolding place_of
  first_place zero zero keys h = refl
  first_place zero (suc count) [] h = refl
  first_place zero (suc count) (k ∷ keys) h = absurd (omega arith)
  first_place (suc m) zero keys h = absurd (omega arith)
  first_place (suc m) (suc count) [] h = absurd (omega arith)
  first_place (suc m) (suc count) (k ∷ keys) h = go (eqb k key) (first_place m count keys (omega arith))
    where
      go : (b : Bool) → position_or_len (λ k. k == key) (take m keys) ≡ place_of key count keys → cond (not b) (1 + position_or_len (λ k. k == key) (take m keys)) 0 ≡ cond b 0 (suc (place_of key count keys))
      go true e = refl
      go false e = omega arith

  pub position_place : (count : ℕ) (keys : List ℕ) {m : ℕ} {found : Option ℕ} → m ≡ min count (length keys) → found ≡ position (λ k. k == key) (take m keys) → unwrap_or found m ≡ place_of key count keys
  position_place count keys {m} h e = rw e (go (nat_lt first (length (take m keys))) refl ∙ first_place m count keys h)
    where
      first : ℕ
      first = position_or_len (λ k. k == key) (take m keys)

      go : (b : Bool) → nat_lt first (length (take m keys)) ≡ b → unwrap_or (cond b (Some first) None) m ≡ first
      go true u = refl
      go false u = omega (arith, ltb-false first (length (take m keys)) u, prefix_len-le-length (λ k. not (k == key)) (take m keys), length-take-le m keys (omega arith))

  -- what a caller needs of the place
  pub record Position (keys : List ℕ) (count r : ℕ) : Type 0 where
    pub within : r ≤ count
    pub before : NoneTo r keys
    pub found : r < count → get_or keys r 0 ≡ key

  position_of : (count : ℕ) (keys : List ℕ) → count ≤ length keys → Position keys count (place_of key count keys)
  unfolding place_of
  position_of zero keys h = record { within = omega arith; before = λ j u. absurd (omega arith); found = λ u. absurd (omega arith) }
  position_of (suc count) [] h = absurd (omega arith)
  position_of (suc count) (k ∷ keys) h = go (eqb k key) refl (position_of count keys (omega arith))
    where
      go : (b : Bool) → eqb k key ≡ b → Position keys count (place_of key count keys) → Position (k ∷ keys) (suc count) (cond b 0 (suc (place_of key count keys)))
      go true e P = record { within = omega arith; before = λ j u. absurd (omega arith); found = λ u. eqb-true k key e }
      go false e P = record { within = omega (arith, P.within); before = before; found = λ u. P.found (omega arith) }
        where
          before : NoneTo (suc (place_of key count keys)) (k ∷ keys)
          before zero u = eqb-false k key e
          before (suc j) u = P.before j (omega arith)

  pub position_is : (count : ℕ) (keys : List ℕ) → count ≤ length keys → {r : ℕ} → r ≡ place_of key count keys → Position keys count r
  position_is count keys h e = rw e (position_of count keys h)
