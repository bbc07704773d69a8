-- What a walk through the table answers, of what reading or writing means: the contract of each function that walks.
use Rattle.std.specs.Prelude.{ℕ, ◌+◌, ◌≤◌, List, [], ◌∷◌, ◌≡◌, Bool, false, cond, eqb, ltb, length}
use Rattle.std.proofs.lemmas.List.Edits.{sets}
use Rattle.types.specs.Shape.{Fields}
use Rattle.types.specs.Shape.Fields.{none, must, may}
use Rattle.types.specs.Table.{column}
use Rattle.meaning.specs.Steps.{Got}
use Rattle.meaning.specs.Steps.Got.{ok, refused}
use Rattle.walking.specs.Packed.{up_to}
use Rattle.walking.specs.Went.{Went}
use Rattle.walking.specs.Went.Went.{On, No}

-- agrees: what the answer's number has to do with what is told. end: the source's length. s and cell: the target before, and the next place in it.
-- Then the answer, and the target after: as long as before, and with what was put out where it has room for it.
unfoldable pub Answered : {A X : Type 0} → (X → ℕ → Type 0) → ℕ → Got A X → List A → ℕ → Went → List A → Type 0
Answered agrees end (ok x out next) s cell r s' = (n : ℕ) × (r ≡ On n next (up_to (cell + length out))) × agrees x n × (length s' ≡ length s) × (cell + length out ≤ length s → s' ≡ sets s cell out) × (next ≤ end)
Answered agrees end (refused why) s cell r s' = r ≡ No why

-- `Answered` as a record, so that a law's arguments are found
pub record Walked {A X : Type 0} (agrees : X → ℕ → Type 0) (end : ℕ) (g : Got A X) (s : List A) (cell : ℕ) (r : Went) (s' : List A) : Type 0 where
  pub told : Answered agrees end g s cell r s'

-- nothing is told that is wanted
abbrev pub silent : {X : Type 0} → X → ℕ → Type 0
silent x n = Unit {0}

-- the number itself is told
abbrev pub IsItself : ℕ → ℕ → Type 0
IsItself x n = x ≡ n

-- the presence bits of components, seen again from a place on
unfoldable pub flags_from : Fields → (ℕ → ℕ) → ℕ → List ℕ
flags_from none seen p = []
flags_from (must t fs) seen p = flags_from fs seen p
flags_from (may t fs) seen p = seen p ∷ flags_from fs seen (p + 1)

-- whether a component is there, by its mark and its presence bit; and the place of the next presence bit
unfoldable pub present_of : ℕ → ℕ → ℕ
present_of mark flag = cond (eqb mark 0) 1 flag

unfoldable pub past_of : ℕ → ℕ → ℕ
past_of mark p = cond (eqb mark 0) p (p + 1)

-- ---- rows

-- a row stands for a whole number with no extension bit, where types are nested at most so deep
unfoldable pub plain_row : List ℕ → ℕ → ℕ → Bool
plain_row tb depth row = cond (eqb depth 0) false (cond (eqb (column tb row 1) 0) (ltb (column tb row 0) 2) false)

-- the extension bit of a row, by its mark: one that has none takes nothing
unfoldable pub opened : {A : Type 0} → ℕ → (ℕ → Got A (Unit {0})) → ℕ → Got A (Unit {0})
opened mark extension at = cond (eqb mark 0) (ok tt [] at) (extension at)

-- the size of a list above the least: coded where sizes differ, else 0, which takes nothing
unfoldable pub sized : {A : Type 0} → ℕ → (ℕ → Got A ℕ) → ℕ → Got A ℕ
sized span whole at = cond (eqb span 0) (ok 0 [] at) (whole at)
