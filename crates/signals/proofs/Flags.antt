-- Flags of phases: what is listed one by one is listed in all.
-- Assumes nothing.
use Prim.Native.Nat.{ℕ, zero, suc, ◌+◌, ◌<◌, ◌≤◌}
use native.Mathlib.Omega.{arith}
use native.Mathlib.Decide.{ℕ_discrete}
use mathlib.Core.Path.{◌≡◌, refl, ◌∙◌}
use mathlib.Core.Bool.{Bool, true, false, ◌||◌}
use mathlib.Core.Logic.{◌⊎◌, inl, inr}
use mathlib.Core.List.{List, [], ◌∷◌}
use borrow.Author.Tests.{eq-eqb, ne_eqb}
use lib.Dec.{eqb}
use lib.ListN.{length, get_or, set, replicate}
use lib.Seq.{get_or-set_same, get_or-set_other}
use Rattle.messages.specs.Repeats.{among}
use Rattle.signals.specs.Steps.{flags_each, Marked}

pub none_marked : (from : ℕ) (flags : List Bool) {listed : List ℕ} → listed ≡ [] → Marked from listed flags flags
unfolding among
none_marked from flags e = rw e (record { own = λ p h. refl; others = λ k h. refl })

module _ (from p : ℕ) (few : p < flags_each) (flags : List Bool) (room : from + flags_each ≤ length flags) where
  abbrev one : List Bool
  one = set flags (from + p) true

  at_own : (q : ℕ) → q < flags_each → (b : Bool) → (b || get_or one (from + q) false) ≡ ((eqb q p || b) || get_or flags (from + q) false)
  at_own q h b = go (ℕ_discrete q p)
    where
      or_true : (b : Bool) → (b || true) ≡ true
      or_true true = refl
      or_true false = refl

      go : Dec (q ≡ p) → (b || get_or one (from + q) false) ≡ ((eqb q p || b) || get_or flags (from + q) false)
      go (yes e) = rw (e, eq-eqb p p refl, get_or-set_same flags (from + p) true false (omega arith)) (or_true b)
      go (no e) = rw (ne_eqb q p e, get_or-set_other flags (from + p) (from + q) true false (λ z. e (omega arith))) refl

  pub one_marked : {listed : List ℕ} {after : List Bool} → Marked from listed one after → Marked from (p ∷ listed) flags after
  unfolding among
  one_marked {listed} {after} M = record {
    own = λ q h. M.own q h ∙ at_own q h (among eqb q listed);
    others = λ k h. M.others k h ∙ get_or-set_other flags (from + p) k true false (λ z. apart k h z);
  }
    where
      apart : (k : ℕ) → (k < from) ⊎ (from + flags_each ≤ k) → k ≡ from + p → ⊥
      apart k (inl h) z = omega arith
      apart k (inr h) z = omega arith

-- at first nothing is listed
pub all_clear : (n k : ℕ) → get_or (replicate n false) k false ≡ false
all_clear zero k = refl
all_clear (suc n) zero = refl
all_clear (suc n) (suc k) = all_clear n k
