-- What stands somewhere in lists that are joined, or made of the entries of a list.
-- Assumes nothing.
use Prim.Native.Nat.{ℕ, zero, suc}
use mathlib.Core.Path.{◌≡◌, refl, sym, ap, ◌∙◌}
use mathlib.Core.Logic.{◌⊎◌, inl, inr}
use mathlib.Core.List.{List, [], ◌∷◌, ◌++◌}
use Rattle.meaning.specs.Values.{Value, Parts, Values, no_items, item}
use Rattle.sheet.specs.Values.{parts_of}
use Rattle.messages.specs.Message.{each}
use Rattle.messages.specs.Places.{At, Somewhere, Entry}

module _ {A : Type 0} where
  pub in_first : (a : A) (xs ys : List A) → Somewhere a xs → Somewhere a (xs ++ ys)
  in_first a [] ys (i, s) = absurd s
  in_first a (x ∷ xs) ys (zero, s) = (0, s)
  in_first a (x ∷ xs) ys (suc i, s) = let t = in_first a xs ys (i, s) in (suc t.0, t.1)

  pub in_second : (a : A) (xs ys : List A) → Somewhere a ys → Somewhere a (xs ++ ys)
  in_second a [] ys s = s
  in_second a (x ∷ xs) ys s = let t = in_second a xs ys s in (suc t.0, t.1)

  pub in_either : (a : A) (xs ys : List A) → Somewhere a (xs ++ ys) → Somewhere a xs ⊎ Somewhere a ys
  in_either a [] ys s = inr s
  in_either a (x ∷ xs) ys (zero, s) = inl (0, s)
  in_either a (x ∷ xs) ys (suc i, s) = go (in_either a xs ys (i, s))
    where
      go : Somewhere a xs ⊎ Somewhere a ys → Somewhere a (x ∷ xs) ⊎ Somewhere a ys
      go (inl t) = inl (suc t.0, t.1)
      go (inr t) = inr t

-- ---- the entries of a list, and what each of them gives

pub entry_same : (i : ℕ) (v w : Value) (vs : Values) → Entry i v vs → Entry i w vs → v ≡ w
entry_same i v w no_items e f = absurd e
entry_same zero v w (item x more) e f = e ∙ sym f
entry_same (suc i) v w (item x more) e f = entry_same i v w more e f

module _ {A : Type 0} (f : Parts → A) where
  pub entry_at : (i : ℕ) (v : Value) (vs : Values) → Entry i v vs → At i (f (parts_of v)) (each f vs)
  unfolding each
  entry_at i v no_items e = absurd e
  entry_at zero v (item w more) e = ap (λ (x : Value). f (parts_of x)) e
  entry_at (suc i) v (item w more) e = entry_at i v more e

  pub at_entry : (i : ℕ) (a : A) (vs : Values) → At i a (each f vs) → (v : Value) × Entry i v vs × (f (parts_of v) ≡ a)
  unfolding each
  at_entry i a no_items s = absurd s
  at_entry zero a (item v more) s = (v, refl, sym s)
  at_entry (suc i) a (item v more) s = at_entry i a more s
