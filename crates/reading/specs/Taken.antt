-- What the functions answer that read one field: its code or the place behind it, or a refusal in one number.
use Rattle.std.specs.Prelude.{ℕ, ◌+◌, ◌-◌, ◌*◌, ◌/◌, ◌%◌, ◌^◌, List, [], ◌∷◌, cond, ℤ, pos, ◌+ℤ◌, eqb, set}
use Rattle.types.specs.Table.{lowest_of}
use Rattle.bits.specs.Numbers.{to_bits, width}
use Rattle.meaning.specs.Steps.{Got, ok, refused}
use Rattle.walking.specs.Went.{Went}
use Rattle.walking.specs.Went.Went.{On, No}
use Rattle.walking.specs.Packed.{went_by}

-- an answer that is a refusal, and else what it is taken for
unfoldable pub unless : {X : Type 0} → Went → Got ℤ X → Got ℤ X
unless (No why) g = refused why
unless (On n at next) g = g

-- the code of a field at a place, which has so many values above the lowest
abbrev pub taken_by : ℤ → ℕ → ℕ → ℕ → Got ℤ ℕ
taken_by lowest span at r = unless (went_by r) (ok r ((lowest +ℤ pos r) ∷ []) (at + width span))

-- the place behind an extension bit
abbrev pub begun_by : ℕ → Got ℤ (Unit {0})
begun_by r = unless (went_by r) (ok tt [] r)

-- bits as cells
unfoldable pub cells : List ℕ → List ℤ
cells [] = []
cells (b ∷ bs) = pos b ∷ cells bs

-- the n bits at the top of a number of 64 bits
abbrev pub top_bits : ℕ → ℕ → List ℕ
top_bits n flags = to_bits n (flags / 2 ^ (64 - n))

-- the presence bits at the top, behind that of a component, by its mark
unfoldable pub behind_of : ℕ → ℕ → ℕ
behind_of mark flags = cond (eqb mark 0) flags (flags * 2 % 2 ^ 64)

-- the value of w bits of a number that has d bits behind them
abbrev pub value_in : ℕ → ℕ → ℕ → ℕ → ℤ
value_in x w low d = lowest_of low +ℤ pos (x / 2 ^ d % 2 ^ w)

-- four of them, stored
abbrev pub four_in : ℕ → ℕ → ℕ → List ℤ → ℕ → List ℤ
four_in x w low sheet cell = set (set (set (set sheet cell (value_in x w low (3 * w))) (cell + 1) (value_in x w low (2 * w))) (cell + 2) (value_in x w low w)) (cell + 3) (value_in x w low 0)
