-- What was seen of several, by their keys: as no two have one key, to look for a key among those that are kept is to look for what it stands for.
-- Assumes nothing.
use Prim.Native.Nat.{ℕ, ◌+◌, ◌<◌, ◌≤◌}
use native.Mathlib.Decide.{ℕ_discrete}
use native.Mathlib.Omega.{arith}
use mathlib.Core.Path.{◌≡◌, refl, sym, ap, ◌∙◌}
use mathlib.Core.Bool.{Bool, true, false, ◌||◌}
use mathlib.Core.List.{List, [], ◌∷◌}
use lib.ListN.{length, get_or, set}
use lib.Seq.{get_or-set_same, get_or-set_other}
use Rattle.messages.specs.Repeats.{among}
use Rattle.messages.proofs.Keys.{Position}

or_true : (b : Bool) → (b || true) ≡ true
or_true true = refl
or_true false = refl

module _
    {A : Type 0} (same : A → A → Bool) (same-is : (a b : A) → same a b ≡ true → a ≡ b) (is_same : (a : A) → same a a ≡ true)
    (key_of : A → ℕ) (Small : A → Type 0) (key-is : (a b : A) → Small a → Small b → key_of a ≡ key_of b → a ≡ b) where
  -- those that were seen are those whose keys are kept, before place i
  pub record Seen (keys : List ℕ) (i : ℕ) (seen : List A) : Type 0 where
    pub kept : (j : ℕ) → j < i → (r : A) → Small r → get_or keys j 0 ≡ key_of r → among same r seen ≡ true
    pub found : (r : A) → Small r → among same r seen ≡ true → (j : ℕ) × (j < i) × (get_or keys j 0 ≡ key_of r)

  pub none_seen : (keys : List ℕ) → Seen keys 0 []
  unfolding among
  none_seen keys = record { kept = λ j h. absurd (omega arith); found = λ r s e. absurd (let z : ◌≡◌ {A = ℕ} 0 1 = cc in omega arith) }

  module _ (keys : List ℕ) (i : ℕ) (seen : List A) (S : Seen keys i seen) (r : A) (small : Small r) {key : ℕ} (is : key ≡ key_of r) {p : ℕ} (P : Position key keys i p) where
    pub was_seen : p < i → among same r seen ≡ true
    was_seen h = S.kept p h r small (P.found h ∙ is)

    pub not_seen : i ≤ p → among same r seen ≡ false
    not_seen h = go (among same r seen) refl
      where
        go : (b : Bool) → among same r seen ≡ b → b ≡ false
        go false e = refl
        go true e = let F = S.found r small e in absurd (P.before F.0 (omega (arith, F.1)) (F.2 ∙ sym is))

    module _ (room : i < length keys) where
      pub more_seen : Seen (set keys i key) (i + 1) (r ∷ seen)
      unfolding among
      more_seen = record { kept = kept_too; found = found_too }
        where
          kept_too : (j : ℕ) → j < i + 1 → (a : A) → Small a → get_or (set keys i key) j 0 ≡ key_of a → (same a r || among same a seen) ≡ true
          kept_too j h a s e = go (ℕ_discrete j i)
            where
              go : Dec (j ≡ i) → (same a r || among same a seen) ≡ true
              go (yes j-is) =
                  let own : key_of r ≡ key_of a = sym is ∙ sym (get_or-set_same keys i key 0 room) ∙ ap (λ (n : ℕ). get_or (set keys i key) n 0) (sym j-is) ∙ e in
                  rw (← key-is r a small s own, is_same r) refl
              go (no isnt) = rw (S.kept j (omega arith) a s (sym (get_or-set_other keys i j key 0 isnt) ∙ e)) (or_true (same a r))

          found_too : (a : A) → Small a → (same a r || among same a seen) ≡ true → (j : ℕ) × (j < i + 1) × (get_or (set keys i key) j 0 ≡ key_of a)
          found_too a s e = go (same a r) refl e
            where
              go : (b : Bool) → same a r ≡ b → (b || among same a seen) ≡ true → (j : ℕ) × (j < i + 1) × (get_or (set keys i key) j 0 ≡ key_of a)
              go true b-is u = (i, omega arith, get_or-set_same keys i key 0 room ∙ is ∙ ap key_of (sym (same-is a r b-is)))
              go false b-is u = let F = S.found a s u in (F.0, omega (arith, F.1), get_or-set_other keys i F.0 key 0 (λ z. omega (arith, F.1, z)) ∙ F.2)
