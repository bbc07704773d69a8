-- The first of several that repeats an earlier one, counted from 0 (document 02, A1 and A7: "the first entry that repeats an earlier one").
use Rattle.std.specs.Prelude.{ℕ, suc, Bool, false, cond, ◌||◌, List, [], ◌∷◌}

pub data Repeat : Type 0 where
  repeated : ℕ → Repeat
  nowhere : Repeat

module _ {A : Type 0} (same : A → A → Bool) where
  unfoldable pub among : A → List A → Bool
  among a [] = false
  among a (b ∷ bs) = same a b || among a bs

  -- the first of these, counted from i, that is one of those seen, or of those before it
  unfoldable pub first_repeat : List A → ℕ → List A → Repeat
  first_repeat seen i [] = nowhere
  first_repeat seen i (a ∷ more) = cond (among a seen) (repeated i) (first_repeat (a ∷ seen) (suc i) more)

-- what is said of the one that was found, else what comes behind
unfoldable pub or_else : {A : Type 0} → (ℕ → A) → Repeat → A → A
or_else say (repeated i) behind = say i
or_else say nowhere behind = behind
