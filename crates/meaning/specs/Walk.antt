-- The walk through a type, said once for reading and writing and for both editions: the order of the fields (X.691, 12 to 23; document 01, "Bits of each kind"; for edition 2, document 02, A12).
-- A side says what happens at a whole number, at an extension bit that gives no cell, at a number of the extension parts and at an open value. The walk tells the value.
-- No definition asks for the edition: a type of edition 1 has neither numbers of extension parts nor open values.
use Rattle.std.specs.Prelude.{ℕ, zero, suc, ◌+◌, List, [], ◌∷◌, Bool, true, false, eqb, pos, ◌+ℤ◌}
use Rattle.answers.specs.declared.Refusal.{Refusal}
use Rattle.types.specs.Shape.{Ty, Fields, Alts, Opens, Field, field, item_in, index_in, size_in, last}
use Rattle.types.specs.Shape.Ty.{num, seq, choice, list, ext, enumx, seqx, choicex, pick}
use Rattle.types.specs.Shape.Fields.{none, must, may}
use Rattle.types.specs.Shape.Alts.{one, or}
use Rattle.types.specs.Shape.Opens.{unknown, on}
use Rattle.meaning.specs.Values.{Value, whole, sequence, chosen, items, beyond, extended, added, picked, kept, Parts, finished, absent, there, Values, no_items, item}
use Rattle.meaning.specs.Steps.{Step, pure, ◌>>=◌, ◌>>◌, guarded}
use Rattle.meaning.specs.Coded.{Coded, an_index, a_count, an_extent}

-- I: what is read or written from; B: what is put out
pub record Side (I B : Type 0) : Type 0 where
  pub whole : Field → Step I B ℕ  -- a whole number; it tells how far it is above the lowest
  pub extension : Step I B (Unit {0})  -- an extension bit that gives no cell
  -- edition 2
  pub number : Coded → Step I B ℕ  -- an index or a count of the extension parts; it tells the number
  pub opened : Step I B Value → Step I B Value  -- an open value whose type is known: its length, its bits and its padding
  pub amiss : ℕ → Refusal  -- what began at this place is no value: 27 in reading, 7 in writing

-- a presence bit, and an extension bit that gives a cell
abbrev pub bit : Field
bit = field (pos 0) 1

-- an octet of an open value that is kept
abbrev pub octet : Field
octet = field (pos 0) 255

-- a list with a 1 in it
abbrev pub some : List ℕ → Bool
some [] = false
some (zero ∷ ns) = some ns
some (suc n ∷ ns) = true

-- a presence list that was sent has a 1 in it; none was sent where it is empty (document 02, A12: "an extension bit with no addition present" is 27)
abbrev pub present : List ℕ → Bool
present [] = true
present (n ∷ ns) = some (n ∷ ns)

module _ {I B : Type 0} where
  -- one presence bit for each OPTIONAL component, before all components (X.691, 19.2)
  unfoldable pub flags : Fields → Side I B → Step I B (List ℕ)
  flags none S = pure []
  flags (must t fs) S = flags fs S
  flags (may t fs) S = do
    n ← S.whole bit
    ns ← flags fs S
    pure (n ∷ ns)

  -- a step so often
  unfoldable pub times : ℕ → Step I B Value → Step I B Values
  times zero f = pure no_items
  times (suc n) f = do
    v ← f
    vs ← times n f
    pure (item v vs)

  -- so many presence bits of additions (X.691, 19.7)
  unfoldable pub bits : ℕ → Side I B → Step I B (List ℕ)
  bits zero S = pure []
  bits (suc n) S = do
    b ← S.whole bit
    bs ← bits n S
    pure (b ∷ bs)

  -- by an extension bit that gives a cell: the root, or what lies behind the marker (X.691, 14.3, 19.1, 23.5)
  abbrev pub branch : {X : Type 0} → ℕ → Step I B X → Step I B X → Step I B X
  branch zero f g = f
  branch (suc n) f g = g

  -- by a test that the type itself answers
  abbrev pub by_test : {X : Type 0} → Bool → Step I B X → Step I B X → Step I B X
  by_test true f g = f
  by_test false f g = g

  -- the presence list of additions: its count as sent, and its bits (X.691, 19.7 and 19.8)
  unfoldable pub listed : Side I B → Step I B (List ℕ)
  listed S = do
    n ← S.number a_count
    bits n S

  -- an open value that is not known, or is only cited: its count of octets and its octets (X.691, 11.2; document 02, A12)
  unfoldable pub keep : Side I B → Step I B Value
  keep S = do
    n ← S.number an_extent
    vs ← times n (do
      m ← S.whole octet
      pure (whole (octet.lowest +ℤ pos m)))
    pure (kept vs)

  -- an open value for each addition that is present, counted from k (X.691, 19.9)
  unfoldable pub additions : ℕ → List ℕ → (ℕ → Step I B Value) → Step I B Parts
  additions k [] open-value = pure finished
  additions k (zero ∷ ns) open-value = do
    parts ← additions (suc k) ns open-value
    pure (absent parts)
  additions k (suc n ∷ ns) open-value = do
    v ← open-value k
    parts ← additions (suc k) ns open-value
    pure (there v parts)

  unfoldable mutual
    pub walk : Ty → Side I B → Step I B Value
    walk (num f) S = do
      n ← S.whole f
      pure (whole (f.lowest +ℤ pos n))
    walk (seq fs) S = do
      ns ← flags fs S
      parts ← fields fs ns S
      pure (sequence parts)
    walk (choice row alts) S = do
      n ← S.whole (index_in row (last alts))
      v ← alternative alts n S
      pure (chosen n v)
    walk (list row least zero t) S = do
      vs ← times least (walk t S)
      pure (items vs)
    walk (list row least (suc more) t) S = do
      n ← S.whole (size_in row least (suc more))
      vs ← times (least + n) (walk t S)
      pure (items vs)
    walk (ext t) S = do
      S.extension
      walk t S
    walk (enumx row span) S = do
      e ← S.whole bit
      branch e (do
        n ← S.whole (item_in row span)
        pure (whole (pos n)))
          (do
            n ← S.number an_index
            pure (beyond n))
    walk (seqx fs os) S = do
      root ← guarded S.amiss (λ (x : Parts × List ℕ). present x.1) (do
        e ← S.whole bit
        ns ← flags fs S
        parts ← fields fs ns S
        ms ← branch e (pure []) (listed S)
        pure (parts, ms))
      more ← additions 0 root.1 (λ n. open_value os n S)
      pure (extended root.0 more)
    walk (choicex row alts os) S = do
      e ← S.whole bit
      branch e (do
        n ← S.whole (index_in row (last alts))
        v ← alternative alts n S
        pure (chosen n v))
          (do
            n ← S.number an_index
            v ← open_value os n S
            pure (added n v))
    walk (pick f os) S = do
      n ← S.whole f
      v ← open_value os n S
      pure (picked (f.lowest +ℤ pos n) v)

    -- the components, told of each OPTIONAL one whether it is there
    pub fields : Fields → List ℕ → Side I B → Step I B Parts
    fields none ns S = pure finished
    fields (must t fs) ns S = do
      v ← walk t S
      parts ← fields fs ns S
      pure (there v parts)
    fields (may t fs) [] S = do
      parts ← fields fs [] S
      pure (absent parts)
    fields (may t fs) (zero ∷ ns) S = do
      parts ← fields fs ns S
      pure (absent parts)
    fields (may t fs) (suc n ∷ ns) S = do
      v ← walk t S
      parts ← fields fs ns S
      pure (there v parts)

    -- the alternative of an index
    pub alternative : Alts → ℕ → Side I B → Step I B Value
    alternative (one t) n S = walk t S
    alternative (or t alts) zero S = walk t S
    alternative (or t alts) (suc n) S = alternative alts n S

    -- the open value of a number: of an addition of a sequence (X.691, 19.9) or a choice (23.8), or of the number that chooses it
    pub open_value : Opens → ℕ → Side I B → Step I B Value
    open_value unknown n S = keep S
    open_value (on k t os) n S = by_test (eqb k n) (S.opened (walk t S)) (open_value os n S)
