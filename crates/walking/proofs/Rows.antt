-- The walk through a type, one row of a flat table at a time, in the terms of the code that walks it; the same for reading and writing.
-- Assumes nothing.
use Prim.Native.Nat.{ℕ, zero, suc, ◌+◌, ◌-◌, ◌/◌, ◌%◌, ◌<◌, ◌≤◌, ◌^◌}
use mathlib.Core.Bool.{Bool, true, false, cond}
use mathlib.Core.List.{List, [], ◌∷◌}
use mathlib.Core.Path.{◌≡◌, refl, sym, ap, ap₂, subst, ◌∙◌}
use native.Mathlib.Nat.{add-zero}
use native.Mathlib.Omega.{arith}
use borrow.Author.Tests.{eq-eqb, ne_eqb}
use lib.Dec.{T, eqb, ltb, ltb→lt}
use lib.IntN.{pos, ◌+ℤ◌}
use Rattle.bits.specs.Numbers.{to_bits}
use Rattle.types.specs.Shape.{Ty, Fields, Field, field, told, index_in, size_in}
use Rattle.types.specs.Shape.Ty.{num, seq, choice, list, ext}
use Rattle.types.specs.Shape.Fields.{none, must, may}
use Rattle.types.specs.Columns as columns
use Rattle.types.specs.Table.{column, lowest_of, root_at, value_outside, fields_of, alts_of, body_of, type_by, type_at}
use Rattle.types.proofs.Steps.{type_step, type_plain, type_extended, body_number, root_first, fields_none, fields_step, last_of}
use Rattle.meaning.specs.Values.{Value, whole, sequence, chosen, items, Parts, finished, absent, there}
use Rattle.meaning.specs.Steps.{Got, pure, prepend, and_then, ◌>>=◌}
use Rattle.meaning.specs.Steps.Got.{ok, refused}
use Rattle.meaning.specs.Walk.{Side, bit, flags, times, walk, fields, alternative}
use Rattle.meaning.proofs.Steps.{Came, bound}
use Rattle.walking.specs.Walked.{flags_from, present_of, past_of, plain_row, opened, sized}

-- the type of a plain row
pub plain_type : (tb : List ℕ) (depth row : ℕ) {low span : ℕ} {is : Bool} → is ≡ plain_row tb depth row → is ≡ true → low ≡ column tb row columns.lowest → span ≡ column tb row columns.span → type_at (root_at tb) depth row ≡ num (told (value_outside (column tb row columns.kind)) row (field (lowest_of low) span))
unfolding plain_row
plain_type tb depth row {low} {span} e holds el es = go depth (column tb row columns.mark) (column tb row columns.kind) refl refl (sym e ∙ holds)
  where
    go : (d mark kind : ℕ) → mark ≡ column tb row columns.mark → kind ≡ column tb row columns.kind → cond (eqb d 0) false (cond (eqb mark 0) (ltb kind 2) false) ≡ true → type_at (root_at tb) d row ≡ num (told (value_outside (column tb row columns.kind)) row (field (lowest_of low) span))
    go zero mark kind em ek t = absurd (let z : ◌≡◌ {A = Bool} false true = t in let no : ◌≡◌ {A = ℕ} 0 1 = cc in omega arith)
    go (suc d) zero kind em ek t =
        let small : ltb kind 2 ≡ true = rw (ne_eqb (suc d) 0 (λ z. omega arith)) at t in
        type_step (root_at tb) (suc d) row (λ z. omega arith)
        ∙ type_plain tb (type_at (root_at tb) (suc d - 1)) row em refl
        ∙ body_number tb (type_at (root_at tb) (suc d - 1)) row refl el es (subst (λ (k : ℕ). k < 2) ek (ltb→lt kind 2 (subst T (sym small) tt)))
    go (suc d) (suc mark) kind em ek t = absurd (let z : ◌≡◌ {A = Bool} false true = rw (ne_eqb (suc d) 0 (λ z. omega arith), ne_eqb (suc mark) 0 (λ z. omega arith)) at t in let no : ◌≡◌ {A = ℕ} 0 1 = cc in omega arith)

module _ {I B : Type 0} (S : Side I B) (input : I) where
  pub walk_none : (at : ℕ) → walk (seq none) S input at ≡ ok (sequence finished) [] at
  unfolding walk flags fields pure ◌>>=◌ and_then prepend
  walk_none at = refl

  pub walk_number : (f : Field) (at : ℕ) → walk (num f) S input at ≡ and_then (S.whole f input at) (λ n j. ok (whole (f.lowest +ℤ pos n)) [] j)
  unfolding walk ◌>>=◌ pure
  walk_number f at = refl

  walk_extensible : (t : Ty) (at : ℕ) → walk (ext t) S input at ≡ and_then (S.extension input at) (λ x. walk t S input)
  unfolding walk ◌>>=◌
  walk_extensible t at = refl

  silence : (g : Got B Value) → g ≡ prepend [] g
  unfolding prepend
  silence (ok v out q) = refl
  silence (refused why) = refl

  -- a row: its extension bit, if it has one, and then what is behind
  pub walk_opened : (tb : List ℕ) (look : ℕ → Ty) (row at : ℕ) → walk (type_by (root_at tb) look row (root_at tb row)) S input at ≡ and_then (opened (column tb row columns.mark) (S.extension input) at) (λ x. walk (body_of (root_at tb) look row (root_at tb row)) S input)
  unfolding opened and_then prepend
  walk_opened tb look row at = go (column tb row columns.mark) refl
    where
      go : (mark : ℕ) → mark ≡ column tb row columns.mark → walk (type_by (root_at tb) look row (root_at tb row)) S input at ≡ and_then (opened mark (S.extension input) at) (λ x. walk (body_of (root_at tb) look row (root_at tb row)) S input)
      go zero e = ap (λ (t : Ty). walk t S input at) (type_plain tb look row e refl) ∙ silence (walk (body_of (root_at tb) look row (root_at tb row)) S input at)
      go (suc mark) e =
          ap (λ (t : Ty). walk t S input at) (type_extended tb look row e (λ z. omega arith))
          ∙ walk_extensible (body_of (root_at tb) look row (root_at tb row)) at
          ∙ ap (λ (b : Bool). and_then (cond b (ok tt [] at) (S.extension input at)) (λ x. walk (body_of (root_at tb) look row (root_at tb row)) S input)) (sym (ne_eqb (suc mark) 0 (λ z. omega arith)))

  pub walk_sequence : (fs : Fields) (at : ℕ) → walk (seq fs) S input at ≡ and_then (flags fs S input at) (λ ns i. and_then (fields fs ns S input i) (λ parts j. ok (sequence parts) [] j))
  unfolding walk ◌>>=◌ pure
  walk_sequence fs at = refl

  walk_fixed : (row least span : ℕ) (t : Ty) (at : ℕ) → span ≡ 0 → walk (list row least span t) S input at ≡ and_then (times least (walk t S) input at) (λ vs j. ok (items vs) [] j)
  unfolding walk ◌>>=◌ pure
  walk_fixed row least span t at e = rw e refl

  pub walk_sized : (row least span : ℕ) (t : Ty) (at : ℕ) → (span ≡ 0 → ⊥) → walk (list row least span t) S input at ≡ and_then (S.whole (size_in row least span) input at) (λ n i. and_then (times (least + n) (walk t S) input i) (λ vs j. ok (items vs) [] j))
  unfolding walk ◌>>=◌ pure
  walk_sized row least zero t at e = absurd (e refl)
  walk_sized row least (suc more) t at e = refl

  -- a list: its size, if it is coded, and then its items
  pub walk_listed : (row least span : ℕ) (t : Ty) (at : ℕ) → walk (list row least span t) S input at ≡ and_then (sized span (S.whole (size_in row least span) input) at) (λ n i. and_then (times (least + n) (walk t S) input i) (λ vs j. ok (items vs) [] j))
  unfolding sized and_then prepend
  walk_listed row least zero t at =
      walk_fixed row least zero t at refl
      ∙ ap (λ (n : ℕ). and_then (times n (walk t S) input at) (λ vs j. ok (items vs) [] j)) (sym (add-zero least))
      ∙ silence (and_then (times (least + 0) (walk t S) input at) (λ vs j. ok (items vs) [] j))
  walk_listed row least (suc more) t at = walk_sized row least (suc more) t at (λ z. omega arith) ∙ ap (λ b. and_then (cond b (ok 0 [] at) (S.whole (size_in row least (suc more)) input at)) (λ n i. and_then (times (least + n) (walk t S) input i) (λ vs j. ok (items vs) [] j))) (sym (ne_eqb (suc more) 0 (λ z. omega arith)))

  -- ---- presence bits

  one_flag : (t : Ty) (fs : Fields) (b : Bool) (q : ℕ) → flags (cond b (must t fs) (may t fs)) S input q ≡ cond b (flags fs S input q) (and_then (S.whole bit input q) (λ n i. and_then (flags fs S input i) (λ ns j. ok (n ∷ ns) [] j)))
  unfolding flags ◌>>=◌ pure
  one_flag t fs true q = refl
  one_flag t fs false q = refl

  -- the bits that were read or written are those seen again from their place on
  module _ (seen : ℕ → ℕ) (law : (i n j : ℕ) (out : List B) → S.whole bit input i ≡ ok n out j → (n ≡ seen i) × (j ≡ i + 1)) where
    pub flags_seen : (fs : Fields) (i j : ℕ) (ns : List ℕ) (out : List B) → flags fs S input i ≡ ok ns out j → ns ≡ flags_from fs seen i
    unfolding flags flags_from pure
    flags_seen none i j ns out e = cc
    flags_seen (must t fs) i j ns out e = flags_seen fs i j ns out e
    flags_seen (may t fs) i j ns out e =
        let C : Came (S.whole bit input i) (λ n. (flags fs S >>= (λ more. pure (n ∷ more))) input) j ns out = bound (S.whole bit) (λ n. flags fs S >>= (λ more. pure (n ∷ more))) input i e in
        let D : Came (flags fs S input C.then) (λ more. pure (C.told ∷ more) input) j ns C.more = bound (flags fs S) (λ more. pure (C.told ∷ more)) input C.then C.at_more in
        let first = law i C.told C.then C.first C.at_first in
        let rest = flags_seen fs C.then D.then D.told D.first D.at_first in
        let whole : C.told ∷ D.told ≡ ns = cc D.at_more in
        sym whole ∙ ap₂ (λ (n : ℕ) (more : List ℕ). n ∷ more) first.0 (rest ∙ ap (flags_from fs seen) first.1)

  -- ---- components

  one_field : (seen : ℕ → ℕ) (t : Ty) (fs : Fields) (b : Bool) (p q : ℕ)
      → fields (cond b (must t fs) (may t fs)) (flags_from (cond b (must t fs) (may t fs)) seen p) S input q
      ≡ cond (eqb (cond b 1 (seen p)) 0) (and_then (fields fs (flags_from fs seen (cond b p (p + 1))) S input q) (λ parts j. ok (absent parts) [] j)) (and_then (walk t S input q) (λ v i. and_then (fields fs (flags_from fs seen (cond b p (p + 1))) S input i) (λ parts j. ok (there v parts) [] j)))
  unfolding fields flags_from ◌>>=◌ pure
  one_field seen t fs true p q = refl
  one_field seen t fs false p q = go (seen p)
    where
      go : (n : ℕ) → fields (may t fs) (n ∷ flags_from fs seen (p + 1)) S input q ≡ cond (eqb n 0) (and_then (fields fs (flags_from fs seen (p + 1)) S input q) (λ parts j. ok (absent parts) [] j)) (and_then (walk t S input q) (λ v i. and_then (fields fs (flags_from fs seen (p + 1)) S input i) (λ parts j. ok (there v parts) [] j)))
      go zero = refl
      go (suc n) = rw (ne_eqb (suc n) 0 (λ e. omega arith))

  module _ (tb : List ℕ) (look : ℕ → Ty) where
    abbrev parts : ℕ → ℕ → Fields
    parts g m = fields_of (root_at tb) look g m

    pub flags_none : (g m q : ℕ) → m ≡ 0 → flags (parts g m) S input q ≡ ok [] [] q
    unfolding flags pure
    flags_none g m q e = rw (fields_none tb look g m e) refl

    pub flags_pass : (g m q : ℕ) {mark : ℕ} → 0 < m → mark ≡ column tb g columns.mark → mark ≡ 0 → flags (parts g m) S input q ≡ flags (parts (g + 1) (m - 1)) S input q
    unfolding flags
    flags_pass g m q h e is = rw (fields_step tb look g m h, ← e, is) refl

    pub flags_take : (g m q : ℕ) {mark : ℕ} → 0 < m → mark ≡ column tb g columns.mark → (mark ≡ 0 → ⊥)
        → flags (parts g m) S input q ≡ and_then (S.whole bit input q) (λ n i. and_then (flags (parts (g + 1) (m - 1)) S input i) (λ ns j. ok (n ∷ ns) [] j))
    flags_take g m q {mark} h e isnt =
        rw (fields_step tb look g m h) (one_flag (look (column tb g columns.first)) (parts (g + 1) (m - 1)) (eqb (column tb g columns.mark) 0) q ∙ rw (← e, ne_eqb mark 0 isnt) refl)

    module _ (seen : ℕ → ℕ) where
      abbrev left : ℕ → ℕ → ℕ → ℕ → Got B Parts
      left g m p q = fields (parts g m) (flags_from (parts g m) seen p) S input q

      pub left_none : (g m p q : ℕ) → m ≡ 0 → left g m p q ≡ ok finished [] q
      unfolding fields flags_from pure
      left_none g m p q e = rw (fields_none tb look g m e) refl

      left_step : (g m p q : ℕ) → 0 < m
          → left g m p q ≡ cond (eqb (present_of (column tb g columns.mark) (seen p)) 0) (and_then (left (g + 1) (m - 1) (past_of (column tb g columns.mark) p) q) (λ parts j. ok (absent parts) [] j)) (and_then (walk (look (column tb g columns.first)) S input q) (λ v i. and_then (left (g + 1) (m - 1) (past_of (column tb g columns.mark) p) i) (λ parts j. ok (there v parts) [] j)))
      unfolding present_of past_of
      left_step g m p q h = rw (fields_step tb look g m h) (one_field seen (look (column tb g columns.first)) (parts (g + 1) (m - 1)) (eqb (column tb g columns.mark) 0) p q)

      module _ (g m p q : ℕ) {mark here p₂ : ℕ} (h : 0 < m) (em : mark ≡ column tb g columns.mark) (eh : here ≡ present_of mark (seen p)) (ep : p₂ ≡ past_of mark p) where
        pub left_there : {t : ℕ} → t ≡ column tb g columns.first → (here ≡ 0 → ⊥) → left g m p q ≡ and_then (walk (look t) S input q) (λ v i. and_then (left (g + 1) (m - 1) p₂ i) (λ parts j. ok (there v parts) [] j))
        left_there et isnt = left_step g m p q h ∙ rw (← em, ← eh, ← ep, ← et, ne_eqb here 0 isnt) refl

        pub left_absent : here ≡ 0 → left g m p q ≡ and_then (left (g + 1) (m - 1) p₂ q) (λ parts j. ok (absent parts) [] j)
        left_absent is = left_step g m p q h ∙ rw (← em, ← eh, ← ep, eq-eqb here 0 is) refl

    -- ---- alternatives

    at_index : (n f k : ℕ) → k ≤ n → alternative (alts_of (root_at tb) look f n) k S input ≡ walk (look (column tb (f + k) columns.first)) S input
    unfolding alts_of alternative
    at_index zero f k h = let e : f ≡ f + k = omega arith in ap (λ (j : ℕ). walk (look j) S input) (root_first tb f) ∙ ap (λ (j : ℕ). walk (look (column tb j columns.first)) S input) e
    at_index (suc n) f zero h = let e : f ≡ f + 0 = omega arith in ap (λ (j : ℕ). walk (look j) S input) (root_first tb f) ∙ ap (λ (j : ℕ). walk (look (column tb j columns.first)) S input) e
    at_index (suc n) f (suc k) h =
        let d : f + 1 + k ≡ f + suc k = omega arith in
        at_index n (f + 1) k (omega arith) ∙ ap (λ (j : ℕ). walk (look (column tb j columns.first)) S input) d

    pub walk_choice : (row f n at : ℕ) → walk (choice row (alts_of (root_at tb) look f n)) S input at ≡ and_then (S.whole (index_in row n) input at) (λ k i. and_then (alternative (alts_of (root_at tb) look f n) k S input i) (λ v j. ok (chosen k v) [] j))
    unfolding walk ◌>>=◌ pure
    walk_choice row f n at = rw (last_of (root_at tb) look n f) refl

    pub at_chosen : (f n k : ℕ) {t : ℕ} → t ≡ column tb (f + k) columns.first → k ≤ n → alternative (alts_of (root_at tb) look f n) k S input ≡ walk (look t) S input
    at_chosen f n k e h = at_index n f k h ∙ ap (λ (j : ℕ). walk (look j) S input) (sym e)

    -- ---- components whose presence bits are in one number, of which so many are left

    module _ (mask : ℕ) where
      abbrev masked : ℕ → ℕ → ℕ → ℕ → Got B Parts
      masked g m rest q = fields (parts g m) (to_bits rest mask) S input q

      pub masked_none : (g m rest q : ℕ) → m ≡ 0 → masked g m rest q ≡ ok finished [] q
      unfolding fields pure
      masked_none g m rest q e = rw (fields_none tb look g m e) refl

      one_masked : (t : Ty) (fs : Fields) (rest q : ℕ) → 0 < rest
          → fields (may t fs) (to_bits rest mask) S input q
          ≡ cond (eqb (mask / 2 ^ (rest - 1) % 2) 0) (and_then (fields fs (to_bits (rest - 1) mask) S input q) (λ parts j. ok (absent parts) [] j)) (and_then (walk t S input q) (λ v i. and_then (fields fs (to_bits (rest - 1) mask) S input i) (λ parts j. ok (there v parts) [] j)))
      unfolding fields to_bits ◌>>=◌ pure
      one_masked t fs zero q h = absurd (omega arith)
      one_masked t fs (suc k) q h = let e : k ≡ suc k - 1 = omega arith in rw (← e) (go (mask / 2 ^ k % 2))
        where
          go : (n : ℕ) → fields (may t fs) (n ∷ to_bits k mask) S input q ≡ cond (eqb n 0) (and_then (fields fs (to_bits k mask) S input q) (λ parts j. ok (absent parts) [] j)) (and_then (walk t S input q) (λ v i. and_then (fields fs (to_bits k mask) S input i) (λ parts j. ok (there v parts) [] j)))
          go zero = refl
          go (suc n) = rw (ne_eqb (suc n) 0 (λ z. omega arith))

      module _ (g m rest q : ℕ) {mark : ℕ} (h : 0 < m) (em : mark ≡ column tb g columns.mark) where
        pub masked_must : {t : ℕ} → t ≡ column tb g columns.first → mark ≡ 0 → masked g m rest q ≡ and_then (walk (look t) S input q) (λ v i. and_then (masked (g + 1) (m - 1) rest i) (λ parts j. ok (there v parts) [] j))
        unfolding fields ◌>>=◌ pure
        masked_must et is = rw (fields_step tb look g m h, ← em, ← et, is) refl

        module _ (isnt : mark ≡ 0 → ⊥) (some : 0 < rest) where
          masked_may : masked g m rest q ≡ cond (eqb (mask / 2 ^ (rest - 1) % 2) 0) (and_then (masked (g + 1) (m - 1) (rest - 1) q) (λ parts j. ok (absent parts) [] j)) (and_then (walk (look (column tb g columns.first)) S input q) (λ v i. and_then (masked (g + 1) (m - 1) (rest - 1) i) (λ parts j. ok (there v parts) [] j)))
          masked_may = rw (fields_step tb look g m h, ← em, ne_eqb mark 0 isnt) (one_masked (look (column tb g columns.first)) (parts (g + 1) (m - 1)) rest q some)

          pub masked_there : {t : ℕ} → t ≡ column tb g columns.first → (mask / 2 ^ (rest - 1) % 2 ≡ 0 → ⊥) → masked g m rest q ≡ and_then (walk (look t) S input q) (λ v i. and_then (masked (g + 1) (m - 1) (rest - 1) i) (λ parts j. ok (there v parts) [] j))
          masked_there et there-is = masked_may ∙ rw (← et, ne_eqb (mask / 2 ^ (rest - 1) % 2) 0 there-is) refl

          pub masked_absent : mask / 2 ^ (rest - 1) % 2 ≡ 0 → masked g m rest q ≡ and_then (masked (g + 1) (m - 1) (rest - 1) q) (λ parts j. ok (absent parts) [] j)
          masked_absent is = masked_may ∙ rw (eq-eqb (mask / 2 ^ (rest - 1) % 2) 0 is) refl
