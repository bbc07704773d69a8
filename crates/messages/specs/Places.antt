-- What stands where in a list, for the sentences that theorems state apart from any loop.
use Rattle.std.specs.Prelude.{ℕ, zero, suc, ◌<◌, ◌≡◌, List, [], ◌∷◌}
use Rattle.meaning.specs.Values.{Value, Values}
use Rattle.meaning.specs.Values.Values.{no_items, item}

-- a stands at place i, counted from 0
abbrev pub At : {A : Type 0} → ℕ → A → List A → Type 0
At i a [] = ⊥
At zero a (b ∷ more) = a ≡ b
At (suc i) a (b ∷ more) = At i a more

abbrev pub Somewhere : {A : Type 0} → A → List A → Type 0
Somewhere a list = (i : ℕ) × At i a list

-- what stands at place i stands at an earlier one too
abbrev pub Repeats : {A : Type 0} → ℕ → List A → Type 0
Repeats {A} i list = (a : A) × At i a list × (j : ℕ) × (j < i) × At j a list

-- v is entry i of a list of values
abbrev pub Entry : ℕ → Value → Values → Type 0
Entry i v no_items = ⊥
Entry zero v (item w more) = v ≡ w
Entry (suc i) v (item w more) = Entry i v more
