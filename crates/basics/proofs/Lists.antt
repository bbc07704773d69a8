-- Items that are stored behind one another in a list.
-- Assumes nothing.
use Prim.Native.Nat.{ℕ, suc, ◌+◌, ◌≤◌}
use mathlib.Core.List.{List, [], ◌∷◌, ◌++◌}
use mathlib.Core.Path.{◌≡◌, refl, sym, ap, ◌∙◌}
use native.Mathlib.Nat.{add-suc, suc-add, add-zero}
use native.Mathlib.Omega.{arith}
use lib.ListN.{length, set, length-set}
use lib.Seq.{sets, set_out}

module _ {A : Type 0} where
  pub sets_out : (s : List A) (i : ℕ) (vs : List A) → length s ≤ i → sets s i vs ≡ s
  sets_out s i [] h = refl
  sets_out s i (v ∷ vs) h = sets_out (set s i v) (suc i) vs (simp length-set (omega arith)) ∙ set_out s i v h

  pub sets_append : (s : List A) (i : ℕ) (cs ds : List A) → sets s i (cs ++ ds) ≡ sets (sets s i cs) (i + length cs) ds
  sets_append s i [] ds = ap (λ (k : ℕ). sets s k ds) (sym (add-zero i))
  sets_append s i (v ∷ cs) ds =
      sets_append (set s i v) (suc i) cs ds
      ∙ ap (λ (k : ℕ). sets (sets (set s i v) (suc i) cs) k ds) (suc-add i (length cs) ∙ sym (add-suc i (length cs)))
