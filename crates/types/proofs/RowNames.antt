-- The names of the rows: they differ and fit the rows, each computed once over the whole table, so that a name and its row stand for one another.
-- Assumes nothing.
use mathlib.Core.Path.{◌≡◌, refl, sym, ap}
use mathlib.Core.Bool.{Bool, true, false, cond}
use mathlib.Core.List.{List, [], ◌∷◌}
use Prim.Native.Nat.{ℕ, zero, suc, ◌<◌}
use Prim.Native.String.{String}
use native.Mathlib.Omega.{arith}
use lib.Dec.{T}
use lib.ListN.{length, get_or}
use lib.Text.{eqt, eqt→eq, eqt_refl}
use Rattle.types.specs.Rows.{table, row_count}
use Rattle.types.specs.Names.{names, place_in, row_of, name_of, among, differ, parts_named, referred_to, fit}
use Rattle.types.specs.Rule.{parts}

pub names_differ : T (differ names)
unfolding differ among
names_differ = tt

pub names_fit : T (fit table)
unfolding fit parts_named referred_to parts
names_fit = tt

-- ---- a place and its text, in a list of texts that differ

differ_head : (b d : Bool) → T (cond b false d) → b ≡ false
differ_head true d t = absurd t
differ_head false d t = refl

differ_tail : (b d : Bool) → T (cond b false d) → T d
differ_tail true d t = absurd t
differ_tail false d t = t

not_first : (b c : Bool) → cond b true c ≡ false → b ≡ false
not_first true c e = e
not_first false c e = refl

not_later : (b c : Bool) → cond b true c ≡ false → c ≡ false
not_later true c e = absurd (let z : ◌≡◌ {A = ℕ} 0 1 = cc in omega arith)
not_later false c e = e

-- a text that is not among others is none of them
none_is : (ts : List String) (text : String) → among ts text ≡ false → (i : ℕ) → i < length ts → eqt (get_or ts i "") text ≡ false
unfolding among
none_is [] text e i h = absurd (omega arith)
none_is (t ∷ ts) text e zero h = not_first (eqt t text) (among ts text) e
none_is (t ∷ ts) text e (suc i) h = none_is ts text (not_later (eqt t text) (among ts text) e) i (omega arith)

itself : (b : Bool) (n : ℕ) → T b → cond b 0 n ≡ 0
itself true n t = refl
itself false n t = absurd t

place_back : (ts : List String) → T (differ ts) → (i : ℕ) → i < length ts → place_in ts (get_or ts i "") ≡ i
unfolding differ
place_back [] d i h = absurd (omega arith)
place_back (t ∷ ts) d zero h = itself (eqt t t) (suc (place_in ts t)) (eqt_refl t)
place_back (t ∷ ts) d (suc i) h =
    let here : i < length ts = omega arith in
    rw (none_is ts t (differ_head (among ts t) (differ ts) d) i here) (ap suc (place_back ts (differ_tail (among ts t) (differ ts) d) i here))

text_back : (ts : List String) (text : String) → place_in ts text < length ts → get_or ts (place_in ts text) "" ≡ text
text_back [] text h = absurd (omega arith)
text_back (t ∷ ts) text h = go (eqt text t) (eqt→eq text t) (text_back ts text) h
  where
    go : (b : Bool) → (T b → text ≡ t) → (place_in ts text < length ts → get_or ts (place_in ts text) "" ≡ text) → cond b 0 (suc (place_in ts text)) < suc (length ts) → get_or (t ∷ ts) (cond b 0 (suc (place_in ts text))) "" ≡ text
    go true is later h = sym (is tt)
    go false is later h = later (omega arith)

-- ---- the table of source 000

names_many : length names ≡ row_count
names_many = refl

-- each row that is there is the row of its name
pub row_back : (row : ℕ) → row < row_count → row_of (name_of row) ≡ row
row_back row h = place_back names names_differ row (omega (arith, names_many))

-- each name that is there is the name of its row
pub name_back : (name : String) → row_of name < row_count → name_of (row_of name) ≡ name
name_back name h = text_back names name (omega (arith, names_many))
