-- What a step of reading or writing answers, and how steps follow one another.
use Rattle.std.specs.Prelude.{ℕ, List, [], ◌++◌, Bool, cond}
use Rattle.answers.specs.declared.Refusal.{Refusal}

-- B: what a step puts out, cells or bits. X: what it tells the steps after it.
pub data Got (B X : Type 0) : Type 0 where
  ok : X → List B → ℕ → Got B X  -- what is told, what is put out, and the place after it
  refused : Refusal → Got B X

-- a step goes from a place of an input
abbrev pub Step : Type 0 → Type 0 → Type 0 → Type 0
Step I B X = I → ℕ → Got B X

unfoldable pub pure : {I B X : Type 0} → X → Step I B X
pure x input at = ok x [] at

unfoldable pub prepend : {B X : Type 0} → List B → Got B X → Got B X
prepend out (ok x more next) = ok x (out ++ more) next
prepend out (refused why) = refused why

-- the first refusal ends it
unfoldable pub and_then : {B X Y : Type 0} → Got B X → (X → ℕ → Got B Y) → Got B Y
and_then (ok x out next) k = prepend out (k x next)
and_then (refused why) k = refused why

infixl 20 ◌>>=◌
unfoldable pub ◌>>=◌ : {I B X Y : Type 0} → Step I B X → (X → Step I B Y) → Step I B Y
◌>>=◌ f k input at = and_then (f input at) (λ x. k x input)

infixl 20 ◌>>◌
abbrev pub ◌>>◌ : {I B X Y : Type 0} → Step I B X → Step I B Y → Step I B Y
f >> g = f >>= (λ x. g)

-- edition 2: what is told is judged behind the step; where it fails, the refusal has the place where the step began
unfoldable pub judged_by : {B X : Type 0} → (X → Bool) → Refusal → Got B X → Got B X
judged_by good why (ok x out next) = cond (good x) (ok x out next) (refused why)
judged_by good why (refused other) = refused other

unfoldable pub guarded : {I B X : Type 0} → (ℕ → Refusal) → (X → Bool) → Step I B X → Step I B X
guarded amiss good f input at = judged_by good (amiss at) (f input at)

-- what a step puts out; nothing where it is refused
unfoldable pub out_of : {B X : Type 0} → Got B X → List B
out_of (ok x out next) = out
out_of (refused why) = []
