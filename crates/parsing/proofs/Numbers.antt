-- Laws of a line as a number: the digits one by one, the sign, and what the code makes of both.
-- Assumes nothing.
use Prim.Native.Nat.{ℕ, zero, suc, ◌+◌, ◌-◌, ◌*◌, ◌<◌, ◌≤◌, ◌^◌}
use mathlib.Core.Bool.{Bool, true, false, cond, not, ◌&&◌}
use mathlib.Core.List.{List, [], ◌∷◌}
use mathlib.Core.Path.{◌≡◌, refl, sym, ap, subst, ◌∙◌}
use native.Mathlib.Numerals.{add-one}
use native.Mathlib.Decide.{dec_lt}
use native.Mathlib.Omega.{arith}
use borrow.Author.Tests.{lt-ltb, le-ltb, ne_eqb}
use lib.Dec.{eqb, leb, ltb}
use lib.Pointwise.{pointwise}
use lib.IntN.{ℤ, pos, negsuc, neg_ℤ, ◌-ℤ◌}
use lib.ListN.{length, get_or, take, drop, take-append-drop}
use lib.Seq.{take-suc}
use lib.Signed.{mag}
use mir.Facts.{to_z-of_z}
use mir.Syntax.{w64}
use mir.Val.{SFits}
use Rattle.std.specs.Prelude.{Ok, Err}
use Rattle.std.specs.Prelude.{◌==◌}
use Rattle.std.specs.List.{list_all}
use Rattle.std.specs.Char.{is_ascii_digit}
use Rattle.printing.specs.Characters.{minus_sign, digit_zero, digit_nine}
use Rattle.printing.specs.Digits.{value_from, value}
use Rattle.printing.proofs.Digits.{value_append}
use Rattle.printing.proofs.Signed.{read, read_small}
use Rattle.parsing.specs.declared.NumberError.TheVariants as kind
use Rattle.parsing.specs.Numbers.{Cell, Whole, all_digits, some_digits, is_number, number_of, fitting, cell_of, unsigned, whole_of, is_minus, digits_of, cell_above, cell_below, whole_below, begins}

-- ---- nothing but digits

all_digits_lem : (text : List ℕ) → list_all is_ascii_digit text ≡ all_digits text
unfolding all_digits
all_digits_lem [] = refl
all_digits_lem (b ∷ text) = go (leb digit_zero b) (leb b digit_nine) (all_digits_lem text)
  where
    go : (s t : Bool) {u v : Bool} → u ≡ v → ((s && t) && u) ≡ cond (cond s t false) v false
    go true true e = e
    go true false e = refl
    go false t e = refl

-- as the code tells them, with std's answers to whether the text is empty and whether all of it is digits
pub some_there : (text : List ℕ) {empty all : Bool} → empty ≡ (length text == 0) → not empty ≡ true → all ≡ list_all is_ascii_digit text → all ≡ some_digits text
unfolding some_digits
some_there [] e n h = absurd (let both : true ≡ false = sym n ∙ ap not e in let z : ◌≡◌ {A = ℕ} 0 1 = cc in omega arith)
some_there (b ∷ text) e n h = h ∙ all_digits_lem (b ∷ text)

pub some_none : (text : List ℕ) {empty : Bool} → empty ≡ (length text == 0) → not empty ≡ false → not empty ≡ some_digits text
unfolding some_digits
some_none [] e n = n
some_none (b ∷ text) e n = absurd (let both : true ≡ false = sym (ap not (e ∙ ne_eqb (suc (length text)) 0 (λ z. omega arith))) ∙ n in let z : ◌≡◌ {A = ℕ} 0 1 = cc in omega arith)

-- ---- the value of digits

pub value_none : (text : List ℕ) → value (take 0 text) ≡ 0
unfolding value_from
value_none text = refl

pub value_more : (text : List ℕ) (i : ℕ) → i < length text → value (take (i + 1) text) ≡ value (take i text) * 10 + (get_or text i 0 - digit_zero)
unfolding value_from
value_more text i h = ap (λ (k : ℕ). value (take k text)) (add-one i) ∙ ap value (take-suc text i 0 h) ∙ value_append 0 (take i text) (get_or text i 0 ∷ [])

value_grows : (n : ℕ) (text : List ℕ) → n ≤ value_from n text
unfolding value_from
value_grows n [] = omega arith
value_grows n (d ∷ text) = omega (arith, value_grows (n * 10 + (d - digit_zero)) text)

-- the first digits stand for no more than all
pub value_least : (text : List ℕ) (i : ℕ) → value (take i text) ≤ value text
value_least text i =
    let e : value text ≡ value_from (value (take i text)) (drop i text) = ap value (sym (take-append-drop i text)) ∙ value_append 0 (take i text) (drop i text) in
    omega (arith, value_grows (value (take i text)) (drop i text))

module _ (text : List ℕ) where
  pub digits_none : {b : Bool} → b ≡ some_digits text → b ≡ false → (Err kind.NoNumber) ≡ digits_of text
  unfolding digits_of
  digits_none e f = rw (sym e ∙ f) refl

  module _ {b : Bool} (e : b ≡ some_digits text) (f : b ≡ true) where
    pub digits_large : (i n d : ℕ) → i < length text → n ≡ value (take i text) → d ≡ get_or text i 0 - digit_zero → 2 ^ 64 ≤ n * 10 + d → (Err kind.OutOfRange) ≡ digits_of text
    unfolding digits_of
    digits_large i n d h en ed l =
        let m = value_more text i h in
        let k : 2 ^ 64 ≤ value text = omega (arith, value_least text (i + 1)) in
        rw (sym e ∙ f, le-ltb (value text) (2 ^ 64) k) refl

    pub digits_value : (n : ℕ) → n ≡ value text → n < 2 ^ 64 → Ok n ≡ digits_of text
    unfolding digits_of
    digits_value n en l =
        let k : value text < 2 ^ 64 = omega arith in
        rw (sym e ∙ f, lt-ltb (value text) (2 ^ 64) k) (ap Ok en)

-- ---- the sign

-- as std strips it
pub minus_strip : (line : List ℕ) → is_minus line ≡ pointwise eqb (take 1 line) (minus_sign ∷ [])
unfolding is_minus
minus_strip [] = refl
minus_strip (b ∷ bs) = go (eqb b minus_sign)
  where
    go : (e : Bool) → e ≡ (e && true)
    go true = refl
    go false = refl

-- ---- whether a number fits

pub above_fits : (n : ℕ) → n < 2 ^ 63 → Ok (pos n) ≡ fitting (pos n)
above_fits n h = rw (lt-ltb n (2 ^ 63) h) refl

pub above_large : (n : ℕ) → 2 ^ 63 ≤ n → (Err kind.OutOfRange) ≡ fitting (pos n)
above_large n h = rw (le-ltb n (2 ^ 63) h) refl

pub below_fits : (n : ℕ) → (n ≡ 0 → ⊥) → n ≤ 2 ^ 63 → Ok (negsuc (n - 1)) ≡ fitting (neg_ℤ (pos n))
below_fits zero h l = absurd (h refl)
below_fits (suc k) h l =
    let s : k < 2 ^ 63 = omega arith in
    let e : suc k - 1 ≡ k = omega arith in
    rw (lt-ltb k (2 ^ 63) s) (ap (λ (m : ℕ). Ok (negsuc m)) e)

pub below_large : (n : ℕ) → 2 ^ 63 < n → (Err kind.OutOfRange) ≡ fitting (neg_ℤ (pos n))
below_large zero h = absurd (omega arith)
below_large (suc k) h = let s : 2 ^ 63 ≤ k = omega arith in rw (le-ltb k (2 ^ 63) s) refl

-- ---- the line, by its sign and its digits

-- what digits give, by whether they are digits and whether they stand for a number of 64 bits
by_digits : {C : Type 0} (f : Whole → C) (g : ℕ → C) (ds : List ℕ) → ((n : ℕ) → n < 2 ^ 64 → f (Ok n) ≡ g n) → ((n : ℕ) → 2 ^ 64 ≤ n → f (Err kind.OutOfRange) ≡ g n)
    → f (digits_of ds) ≡ cond (some_digits ds) (g (value ds)) (f (Err kind.NoNumber))
unfolding digits_of
by_digits {C} f g ds few many = go (some_digits ds) (dec_lt (value ds) (2 ^ 64))
  where
    go : (b : Bool) → Dec (value ds < 2 ^ 64) → f (cond b (cond (ltb (value ds) (2 ^ 64)) (Ok (value ds)) (Err kind.OutOfRange)) (Err kind.NoNumber)) ≡ cond b (g (value ds)) (f (Err kind.NoNumber))
    go true (yes l) = rw (lt-ltb (value ds) (2 ^ 64) l) (few (value ds) l)
    go true (no l) = let m : 2 ^ 64 ≤ value ds = omega arith in rw (le-ltb (value ds) (2 ^ 64) m) (many (value ds) m)
    go false d = refl

pub cell_minus : (line : List ℕ) → is_minus line ≡ true → cell_below (digits_of (drop 1 line)) ≡ cell_of line
unfolding cell_below cell_of is_number number_of is_minus
cell_minus [] e = absurd (let z : ◌≡◌ {A = ℕ} 0 1 = cc in omega arith)
cell_minus (b ∷ bs) e = rw e (by_digits cell_below (λ n. fitting (neg_ℤ (pos n))) bs (λ n l. refl) (λ n l. below_large n (omega arith)))

pub cell_plain : (line : List ℕ) → is_minus line ≡ false → cell_above (digits_of line) ≡ cell_of line
unfolding cell_above cell_of is_number number_of is_minus some_digits digits_of
cell_plain [] e = refl
cell_plain (b ∷ bs) e = rw e (by_digits cell_above (λ n. fitting (pos n)) (b ∷ bs) (λ n l. refl) (λ n l. above_large n (omega arith)))

whole_zero : (n : ℕ) → cond (eqb n 0) (Ok 0) (Err kind.OutOfRange) ≡ unsigned (neg_ℤ (pos n))
unfolding unsigned
whole_zero zero = refl
whole_zero (suc n) = rw (ne_eqb (suc n) 0 (λ e. omega arith)) refl

whole_large : (n : ℕ) → 2 ^ 64 ≤ n → (Err kind.OutOfRange) ≡ unsigned (neg_ℤ (pos n))
unfolding unsigned
whole_large zero h = absurd (omega arith)
whole_large (suc n) h = refl

pub whole_minus : (line : List ℕ) → is_minus line ≡ true → whole_below (digits_of (drop 1 line)) ≡ whole_of line
unfolding whole_below whole_of is_number number_of is_minus
whole_minus [] e = absurd (let z : ◌≡◌ {A = ℕ} 0 1 = cc in omega arith)
whole_minus (b ∷ bs) e = rw e (by_digits whole_below (λ n. unsigned (neg_ℤ (pos n))) bs (λ n l. whole_zero n) whole_large)

pub whole_plain : (line : List ℕ) → is_minus line ≡ false → digits_of line ≡ whole_of line
unfolding whole_of is_number number_of is_minus some_digits digits_of unsigned
whole_plain [] e = refl
whole_plain (b ∷ bs) e = rw e refl

-- as the code finds them, with std's answer to whether the line begins with the sign
module _ (line : List ℕ) {found : Whole} where
  pub cell_stripped : {told : Cell} → pointwise eqb (take 1 line) (minus_sign ∷ []) ≡ true → found ≡ digits_of (drop 1 line) → told ≡ cell_below found → told ≡ cell_of line
  cell_stripped h e t = t ∙ ap cell_below e ∙ cell_minus line (minus_strip line ∙ h)

  pub cell_unstripped : {told : Cell} → pointwise eqb (take 1 line) (minus_sign ∷ []) ≡ false → found ≡ digits_of line → told ≡ cell_above found → told ≡ cell_of line
  cell_unstripped h e t = t ∙ ap cell_above e ∙ cell_plain line (minus_strip line ∙ h)

  pub whole_stripped : {told : Whole} → pointwise eqb (take 1 line) (minus_sign ∷ []) ≡ true → found ≡ digits_of (drop 1 line) → told ≡ whole_below found → told ≡ whole_of line
  whole_stripped h e t = t ∙ ap whole_below e ∙ whole_minus line (minus_strip line ∙ h)

  pub whole_unstripped : pointwise eqb (take 1 line) (minus_sign ∷ []) ≡ false → found ≡ digits_of line → found ≡ whole_of line
  whole_unstripped h e = e ∙ whole_plain line (minus_strip line ∙ h)

-- ---- a number below 0 as the code makes it

from_minus_one : (m : ℕ) → negsuc 0 -ℤ pos m ≡ negsuc m
from_minus_one zero = refl
from_minus_one (suc m) = let e : suc (0 + m) ≡ suc m = omega arith in ap negsuc e

module _ (m : ℕ) (h : m < 2 ^ 63) where
  minus_less : negsuc 0 -ℤ read (pos m) ≡ negsuc m
  minus_less = ap (λ (z : ℤ). negsuc 0 -ℤ z) (read_small m h) ∙ from_minus_one m

  pub minus_fits : SFits w64 (negsuc 0 -ℤ read (pos m))
  minus_fits = rw minus_less (record { sfits = h })

  pub minus_read : read (negsuc 0 -ℤ read (pos m)) ≡ negsuc m
  minus_read = ap read minus_less ∙ to_z-of_z {w = w64} {z = negsuc m} (record { sfits = h })

-- a cell that a line gives is a number of 64 bits, so the code reads it back as it is
pub cell_read : (line : List ℕ) (z : ℤ) → cell_of line ≡ Ok z → read z ≡ z
unfolding cell_of
cell_read line z e = to_z-of_z {w = w64} {z = z} (record { sfits = go (is_number line) refl (dec_lt (mag (number_of line)) (2 ^ 63)) })
  where
    go : (b : Bool) → is_number line ≡ b → Dec (mag (number_of line) < 2 ^ 63) → mag z < 2 ^ 63
    go true w (yes l) =
        let same : ◌≡◌ {A = Cell} (Ok (number_of line)) (Ok z) = sym (rw (w, lt-ltb (mag (number_of line)) (2 ^ 63) l) refl) ∙ e in
        let is : number_of line ≡ z = cc in
        subst (λ (y : ℤ). mag y < 2 ^ 63) is l
    go true w (no l) =
        let m : 2 ^ 63 ≤ mag (number_of line) = omega arith in
        let both : ◌≡◌ {A = Cell} (Err kind.OutOfRange) (Ok z) = sym (rw (w, le-ltb (mag (number_of line)) (2 ^ 63) m) refl) ∙ e in
        absurd (let z : ◌≡◌ {A = ℕ} 0 1 = cc in omega arith)
    go false w d =
        let both : ◌≡◌ {A = Cell} (Err kind.NoNumber) (Ok z) = sym (rw w refl) ∙ e in
        absurd (let z : ◌≡◌ {A = ℕ} 0 1 = cc in omega arith)

-- ---- a word in front

-- as std strips it
pub begins_strip : (word line : List ℕ) → begins word line ≡ pointwise eqb (take (length word) line) word
unfolding begins
begins_strip [] line = refl
begins_strip (w ∷ word) [] = refl
begins_strip (w ∷ word) (b ∷ line) = go (eqb b w) (begins_strip word line)
  where
    go : (e : Bool) {u v : Bool} → u ≡ v → cond e u false ≡ (e && v)
    go true same = same
    go false same = refl
