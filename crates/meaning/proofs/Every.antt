-- A claim about what a walk answers is proved once for all types: it is enough that it holds at a whole number, at an extension bit, at a number of the extension parts and at `pure`,
-- and that `>>=`, a guard and an open value carry it from their parts to the whole. The claim may speak of a second side's walk through the same type.
-- Assumes nothing.
use Prim.Native.Nat.{ℕ, zero, suc, ◌<◌}
use mathlib.Core.Path.{◌≡◌}
use mathlib.Core.Bool.{Bool, true, false}
use native.Mathlib.Omega.{arith}
use mathlib.Core.List.{List, [], ◌∷◌, ◌++◌}
use lib.Dec.{T, eqb}
use lib.IntN.{pos, ◌+ℤ◌}
use Rattle.types.specs.Shape.{Ty, Fields, Alts, Opens, Field, item_in, index_in, size_in, last}
use Rattle.types.specs.Shape.Ty.{num, seq, choice, list, ext, enumx, seqx, choicex, pick}
use Rattle.types.specs.Shape.Fields.{none, must, may}
use Rattle.types.specs.Shape.Alts.{one, or}
use Rattle.types.specs.Shape.Opens.{unknown, on}
use Rattle.meaning.specs.Values.{Value, whole, sequence, chosen, items, beyond, extended, added, picked, kept, Parts, finished, absent, there, Values, no_items, item}
use Rattle.meaning.specs.Steps.{ok, Step, pure, ◌>>=◌, guarded}
use Rattle.meaning.specs.Coded.{Coded, an_index, a_count, an_extent}
use Rattle.meaning.specs.Walk.{Side, bit, octet, present, flags, times, bits, branch, by_test, listed, keep, additions, walk, fields, alternative, open_value}
use Rattle.meaning.proofs.Steps.{Came, bound, guard_passed}

-- every field of a type fits: its whole numbers, its indices and the sizes that are coded; and where a type is one that edition 2 alone has, such are allowed
module _ (Fit : Field → Type 0) (Extended : Type 0) where
  abbrev mutual
    pub Each : Ty → Type 0
    Each (num f) = Fit f
    Each (seq fs) = EachField fs
    Each (choice row alts) = Fit (index_in row (last alts)) × EachAlt alts
    Each (list row lo span t) = (0 < span → Fit (size_in row lo span)) × Each t
    Each (ext t) = Each t
    Each (enumx row span) = Extended × Fit (item_in row span)
    Each (seqx fs os) = Extended × EachField fs × EachOpen os
    Each (choicex row alts os) = Extended × Fit (index_in row (last alts)) × EachAlt alts × EachOpen os
    Each (pick f os) = Extended × Fit f × EachOpen os

    pub EachField : Fields → Type 0
    EachField none = Unit {0}
    EachField (must t fs) = Each t × EachField fs
    EachField (may t fs) = Each t × EachField fs

    pub EachAlt : Alts → Type 0
    EachAlt (one t) = Each t
    EachAlt (or t alts) = Each t × EachAlt alts

    pub EachOpen : Opens → Type 0
    EachOpen unknown = Unit {0}
    EachOpen (on k t os) = Each t × EachOpen os

  module _ (all : (f : Field) → Fit f) (extended : Extended) where
    mutual
      pub each : (t : Ty) → Each t
      each (num f) = all f
      each (seq fs) = each_field fs
      each (choice row alts) = (all (index_in row (last alts)), each_alt alts)
      each (list row lo span t) = ((λ p. all (size_in row lo span)), each t)
      each (ext t) = each t
      each (enumx row span) = (extended, all (item_in row span))
      each (seqx fs os) = (extended, each_field fs, each_open os)
      each (choicex row alts os) = (extended, all (index_in row (last alts)), each_alt alts, each_open os)
      each (pick f os) = (extended, all f, each_open os)

      each_field : (fs : Fields) → EachField fs
      each_field none = tt
      each_field (must t fs) = (each t, each_field fs)
      each_field (may t fs) = (each t, each_field fs)

      each_alt : (alts : Alts) → EachAlt alts
      each_alt (one t) = each t
      each_alt (or t alts) = (each t, each_alt alts)

      each_open : (os : Opens) → EachOpen os
      each_open unknown = tt
      each_open (on k t os) = (each t, each_open os)

-- ---- a relation between one side's step and another side's

pub record Kept {I J B C : Type 0} (Fit : Field → Type 0) (Extended : Type 0) (R : (X : Type 0) → Step I B X → Step J C X → Type 0) (S : Side I B) (S' : Side J C) : Type 1 where
  pub fit_bit : Fit bit
  pub fit_octet : Fit octet
  pub at_pure : {X : Type 0} (x : X) → R X (pure x) (pure x)
  pub at_bind : {X Y : Type 0} {f : Step I B X} {g : Step J C X} {k : X → Step I B Y} {l : X → Step J C Y} → R X f g → ((x : X) → R Y (k x) (l x)) → R Y (f >>= k) (g >>= l)
  pub at_guard : Extended → {X : Type 0} (good : X → Bool) {f : Step I B X} {g : Step J C X} → R X f g → R X (guarded S.amiss good f) (guarded S'.amiss good g)
  pub at_whole : (f : Field) → Fit f → R ℕ (S.whole f) (S'.whole f)
  pub at_extension : R (Unit {0}) S.extension S'.extension
  pub at_number : Extended → (c : Coded) → R ℕ (S.number c) (S'.number c)
  pub at_open : Extended → {f : Step I B Value} {g : Step J C Value} → R Value f g → R Value (S.opened f) (S'.opened g)

module _ {I J B C : Type 0} {Fit : Field → Type 0} {Extended : Type 0} (R : (X : Type 0) → Step I B X → Step J C X → Type 0) {S : Side I B} {S' : Side J C} (K : Kept Fit Extended R S S') where
  open K use {fit_bit, fit_octet, at_pure, at_bind, at_guard, at_whole, at_extension, at_number, at_open}

  in_times : (n : ℕ) {f : Step I B Value} {g : Step J C Value} → R Value f g → R Values (times n f) (times n g)
  unfolding times
  in_times zero r = at_pure no_items
  in_times (suc n) r = at_bind r (λ v. at_bind (in_times n r) (λ vs. at_pure (item v vs)))

  in_flags : (fs : Fields) → R (List ℕ) (flags fs S) (flags fs S')
  unfolding flags
  in_flags none = at_pure []
  in_flags (must t fs) = in_flags fs
  in_flags (may t fs) = at_bind (at_whole bit fit_bit) (λ n. at_bind (in_flags fs) (λ ns. at_pure (n ∷ ns)))

  in_bits : (n : ℕ) → R (List ℕ) (bits n S) (bits n S')
  unfolding bits
  in_bits zero = at_pure []
  in_bits (suc n) = at_bind (at_whole bit fit_bit) (λ b. at_bind (in_bits n) (λ bs. at_pure (b ∷ bs)))

  in_branch : {X : Type 0} (e : ℕ) {f g : Step I B X} {f' g' : Step J C X} → R X f f' → R X g g' → R X (branch e f g) (branch e f' g')
  in_branch zero r s = r
  in_branch (suc n) r s = s

  in_test : {X : Type 0} (b : Bool) {f g : Step I B X} {f' g' : Step J C X} → R X f f' → R X g g' → R X (by_test b f g) (by_test b f' g')
  in_test true r s = r
  in_test false r s = s

  in_listed : Extended → R (List ℕ) (listed S) (listed S')
  unfolding listed
  in_listed u = at_bind (at_number u a_count) (λ n. in_bits n)

  in_keep : Extended → R Value (keep S) (keep S')
  unfolding keep
  in_keep u = at_bind (at_number u an_extent) (λ n. at_bind (in_times n (at_bind (at_whole octet fit_octet) (λ m. at_pure (whole (octet.lowest +ℤ pos m))))) (λ vs. at_pure (kept vs)))

  in_additions : (k : ℕ) (ns : List ℕ) {o : ℕ → Step I B Value} {o' : ℕ → Step J C Value} → ((n : ℕ) → R Value (o n) (o' n)) → R Parts (additions k ns o) (additions k ns o')
  unfolding additions
  in_additions k [] r = at_pure finished
  in_additions k (zero ∷ ns) r = at_bind (in_additions (suc k) ns r) (λ parts. at_pure (absent parts))
  in_additions k (suc n ∷ ns) r = at_bind (r k) (λ v. at_bind (in_additions (suc k) ns r) (λ parts. at_pure (there v parts)))

  mutual
    unfolding walk fields alternative open_value

    pub in_walk : (t : Ty) → Each Fit Extended t → R Value (walk t S) (walk t S')
    in_walk (num f) h = at_bind (at_whole f h) (λ n. at_pure (whole (f.lowest +ℤ pos n)))
    in_walk (seq fs) h = at_bind (in_flags fs) (λ ns. at_bind (in_fields fs ns h) (λ parts. at_pure (sequence parts)))
    in_walk (choice row alts) h = at_bind (at_whole (index_in row (last alts)) h.0) (λ n. at_bind (in_alternative alts n h.1) (λ v. at_pure (chosen n v)))
    in_walk (list row lo zero t) h = at_bind (in_times _ (in_walk t h.1)) (λ vs. at_pure (items vs))
    in_walk (list row lo (suc more) t) h = at_bind (at_whole (size_in row lo (suc more)) (h.0 (omega arith))) (λ n. at_bind (in_times _ (in_walk t h.1)) (λ vs. at_pure (items vs)))
    in_walk (ext t) h = at_bind at_extension (λ x. in_walk t h)
    in_walk (enumx row span) h = at_bind (at_whole bit fit_bit) (λ e. in_branch e
        (at_bind (at_whole (item_in row span) h.1) (λ n. at_pure (whole (pos n))))
        (at_bind (at_number h.0 an_index) (λ n. at_pure (beyond n))))
    in_walk (seqx fs os) h =
        at_bind
        (at_guard h.0 (λ (x : Parts × List ℕ). present x.1)
        (at_bind (at_whole bit fit_bit) (λ e. at_bind (in_flags fs) (λ ns. at_bind (in_fields fs ns h.1) (λ parts. at_bind (in_branch e (at_pure []) (in_listed h.0)) (λ ms. at_pure (parts, ms)))))))
        (λ root. at_bind (in_additions 0 root.1 (λ n. in_open h.0 os n h.2)) (λ more. at_pure (extended root.0 more)))
    in_walk (choicex row alts os) h = at_bind (at_whole bit fit_bit) (λ e. in_branch e
        (at_bind (at_whole (index_in row (last alts)) h.1) (λ n. at_bind (in_alternative alts n h.2) (λ v. at_pure (chosen n v))))
        (at_bind (at_number h.0 an_index) (λ n. at_bind (in_open h.0 os n h.3) (λ v. at_pure (added n v)))))
    in_walk (pick f os) h = at_bind (at_whole f h.1) (λ n. at_bind (in_open h.0 os n h.2) (λ v. at_pure (picked (f.lowest +ℤ pos n) v)))

    in_fields : (fs : Fields) (ns : List ℕ) → EachField Fit Extended fs → R Parts (fields fs ns S) (fields fs ns S')
    in_fields none ns h = at_pure finished
    in_fields (must t fs) ns h = at_bind (in_walk t h.0) (λ v. at_bind (in_fields fs ns h.1) (λ parts. at_pure (there v parts)))
    in_fields (may t fs) [] h = at_bind (in_fields fs [] h.1) (λ parts. at_pure (absent parts))
    in_fields (may t fs) (zero ∷ ns) h = at_bind (in_fields fs ns h.1) (λ parts. at_pure (absent parts))
    in_fields (may t fs) (suc n ∷ ns) h = at_bind (in_walk t h.0) (λ v. at_bind (in_fields fs ns h.1) (λ parts. at_pure (there v parts)))

    in_alternative : (alts : Alts) (n : ℕ) → EachAlt Fit Extended alts → R Value (alternative alts n S) (alternative alts n S')
    in_alternative (one t) n h = in_walk t h
    in_alternative (or t alts) zero h = in_walk t h.0
    in_alternative (or t alts) (suc n) h = in_alternative alts n h.1

    in_open : Extended → (os : Opens) (n : ℕ) → EachOpen Fit Extended os → R Value (open_value os n S) (open_value os n S')
    in_open u unknown n h = in_keep u
    in_open u (on k t os) n h = in_test (eqb k n) (at_open u (in_walk t h.0)) (in_open u os n h.1)

-- a relation that holds for every type
pub related : {I J B C : Type 0} (R : (X : Type 0) → Step I B X → Step J C X → Type 0) {S : Side I B} {S' : Side J C} → Kept (λ f. Unit {0}) (Unit {0}) R S S' → (t : Ty) → R Value (walk t S) (walk t S')
related R K t = in_walk R K t (each (λ f. Unit {0}) (Unit {0}) (λ f. tt) tt t)

-- ---- a claim about what a step answers where it does not refuse

-- Q X c i j x out g: of a step that went from place i of the input c to place j, told x and put out `out`, and of the other side's step g
pub record Claim {I J B C : Type 0} (Fit : Field → Type 0) (Extended : Type 0) (Q : (X : Type 0) → I → ℕ → ℕ → X → List B → Step J C X → Type 0) (S : Side I B) (S' : Side J C) : Type 1 where
  pub fit_bit : Fit bit
  pub fit_octet : Fit octet
  pub at_pure : {X : Type 0} (x : X) (c : I) (i : ℕ) → Q X c i i x [] (pure x)
  pub at_bind : {X Y : Type 0} {c : I} {i m j : ℕ} {x : X} {y : Y} {o more : List B} {g : Step J C X} (l : X → Step J C Y) → Q X c i m x o g → Q Y c m j y more (l x) → Q Y c i j y (o ++ more) (g >>= l)
  pub at_guard : Extended → {X : Type 0} (good : X → Bool) {c : I} {i j : ℕ} {x : X} {out : List B} {g : Step J C X} → T (good x) → Q X c i j x out g → Q X c i j x out (guarded S'.amiss good g)
  pub at_whole : (f : Field) → Fit f → (c : I) (i j n : ℕ) (out : List B) → S.whole f c i ≡ ok n out j → Q ℕ c i j n out (S'.whole f)
  pub at_extension : (c : I) (i j : ℕ) (x : Unit {0}) (out : List B) → S.extension c i ≡ ok x out j → Q (Unit {0}) c i j x out S'.extension
  pub at_number : Extended → (k : Coded) (c : I) (i j n : ℕ) (out : List B) → S.number k c i ≡ ok n out j → Q ℕ c i j n out (S'.number k)
  pub at_open : Extended → (f : Step I B Value) (g : Step J C Value) → ((c : I) (i j : ℕ) (v : Value) (out : List B) → f c i ≡ ok v out j → Q Value c i j v out g)
      → (c : I) (i j : ℕ) (v : Value) (out : List B) → S.opened f c i ≡ ok v out j → Q Value c i j v out (S'.opened g)

module _ {I J B C : Type 0} {Fit : Field → Type 0} {Extended : Type 0} (Q : (X : Type 0) → I → ℕ → ℕ → X → List B → Step J C X → Type 0) {S : Side I B} {S' : Side J C} (K : Claim Fit Extended Q S S') where
  open K use {fit_bit, fit_octet, at_pure, at_bind, at_guard, at_whole, at_extension, at_number, at_open}

  abbrev Holds : (X : Type 0) → Step I B X → Step J C X → Type 0
  Holds X f g = (c : I) (i j : ℕ) (x : X) (out : List B) → f c i ≡ ok x out j → Q X c i j x out g

  done : {X : Type 0} (x : X) → Holds X (pure x) (pure x)
  unfolding pure
  done x c i j y out e =
      let p : i ≡ j = cc in
      let q : x ≡ y = cc in
      let r : [] ≡ out = cc in
      rw (← p, ← q, ← r) (at_pure x c i)

  then : {X Y : Type 0} {f : Step I B X} {g : Step J C X} {k : X → Step I B Y} {l : X → Step J C Y} → Holds X f g → ((x : X) → Holds Y (k x) (l x)) → Holds Y (f >>= k) (g >>= l)
  then {f = f} {k = k} {l = l} F G c i j y out e =
      let m : Came (f c i) (λ x. k x c) j y out = bound f k c i e in
      rw (← m.both) (at_bind l (F c i m.then m.told m.first m.at_first) (G m.told c m.then j y m.more m.at_more))

  guard : Extended → {X : Type 0} (good : X → Bool) {f : Step I B X} {g : Step J C X} → Holds X f g → Holds X (guarded S.amiss good f) (guarded S'.amiss good g)
  guard u good {f = f} F c i j x out e =
      let p = guard_passed S.amiss good f c i e in
      at_guard u good p.0 (F c i j x out p.1)

  pub fitting : (t : Ty) → Each Fit Extended t → (c : I) (i j : ℕ) (v : Value) (out : List B) → walk t S c i ≡ ok v out j → Q Value c i j v out (walk t S')
  fitting t h c i j v out e =
      in_walk Holds (record { fit_bit = fit_bit; fit_octet = fit_octet; at_pure = done; at_bind = then; at_guard = guard; at_whole = at_whole; at_extension = at_extension; at_number = at_number; at_open = λ u {f} {g}. at_open u f g }) t h c i j v out e

-- a claim that holds for every type
pub every : {I J B C : Type 0} (Q : (X : Type 0) → I → ℕ → ℕ → X → List B → Step J C X → Type 0) {S : Side I B} {S' : Side J C} → Claim (λ f. Unit {0}) (Unit {0}) Q S S' → (t : Ty) (c : I) (i j : ℕ) (v : Value) (out : List B) → walk t S c i ≡ ok v out j → Q Value c i j v out (walk t S')
every Q K t = fitting Q K t (each (λ f. Unit {0}) (Unit {0}) (λ f. tt) tt t)
