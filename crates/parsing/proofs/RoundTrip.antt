-- What is printed for a sheet is parsed as that sheet.
-- Assumes nothing.
use Prim.Native.Nat.{ℕ, suc, ◌<◌, ◌≤◌, ◌^◌}
use mathlib.Core.Bool.{Bool, true, false, cond}
use mathlib.Core.List.{List, [], ◌∷◌, ◌++◌, append_assoc}
use mathlib.Core.Path.{◌≡◌, refl, sym, subst, ap, ap₂, ◌∙◌}
use native.Mathlib.Omega.{arith}
use borrow.Author.Tests.{lt-ltb, le-leb, eq-eqb, ne_eqb}
use lib.Dec.{T, eqb}
use lib.IntN.{ℤ, pos, negsuc, neg_ℤ}
use lib.ListN.{length}
use lib.Signed.{mag}
use Rattle.std.specs.Prelude.{Ok}
use Rattle.basics.specs.Lists.{filled}
use Rattle.printing.specs.Characters.{line_end, minus_sign, digit_zero, digit_nine}
use Rattle.printing.specs.Digits.{decimal, signed, value}
use Rattle.printing.specs.Texts.{ascii, each, edition_line, cell_line, cell_lines}
use Rattle.printing.proofs.Digits.{Decimal, decimal_digits, decimal_some, value_decimal}
use Rattle.meaning.proofs.Small.{Small}
use Rattle.parsing.specs.Lines.{begun, lines}
use Rattle.parsing.specs.Numbers.{all_digits, some_digits, is_number, number_of, cell_of, unsigned, whole_of, begins, edition_word, edition_of}
use Rattle.parsing.specs.Sheets.{cells_at, sheet_text, cells, before, cell_then, cells_of, placed, label, typed, typed_lines, edited, parsed_lines, parsed, listed, behind_first, after_parsing, cells_after}

-- ---- a line of digits

-- no byte is the end of a line
abbrev pub OneLine : List ℕ → Type 0
OneLine [] = Unit {0}
OneLine (b ∷ l) = (b ≡ line_end → ⊥) × OneLine l

first_line : (l text : List ℕ) → OneLine l → lines (l ++ ascii "\n" ++ text) ≡ l ∷ lines text
unfolding lines begun ascii
first_line [] text h = refl
first_line (b ∷ l) text h = rw (ne_eqb b line_end h.0) (ap (begun b) (first_line l text h.1))

pub one_line : (l : List ℕ) → Decimal l → OneLine l
one_line [] h = tt
one_line (d ∷ l) h = (λ e. omega arith, one_line l h.2)

pub one_both : (a b : List ℕ) → OneLine a → OneLine b → OneLine (a ++ b)
one_both [] b h k = k
one_both (c ∷ a) b h k = (h.0, one_both a b h.1 k)

-- by a test, for words that are written down
abbrev no_end : List ℕ → Bool
no_end [] = true
no_end (b ∷ l) = cond (eqb b line_end) false (no_end l)

pub words_line : (l : List ℕ) → T (no_end l) → OneLine l
words_line [] t = tt
words_line (b ∷ l) t = go (eqb b line_end) refl (words_line l) t
  where
    go : (e : Bool) → eqb b line_end ≡ e → (T (no_end l) → OneLine l) → T (cond e false (no_end l)) → OneLine (b ∷ l)
    go true e others t = absurd t
    go false e others t = (λ is. subst T (sym (eq-eqb b line_end is) ∙ e) tt, others t)

all_digits_lem : (l : List ℕ) → Decimal l → all_digits l ≡ true
unfolding all_digits
all_digits_lem [] h = refl
all_digits_lem (d ∷ l) h = rw (le-leb digit_zero d h.0, le-leb d digit_nine h.1) (all_digits_lem l h.2)

some_digits_lem : (l : List ℕ) → 0 < length l → Decimal l → some_digits l ≡ true
unfolding some_digits
some_digits_lem [] s h = absurd (omega arith)
some_digits_lem (d ∷ l) s h = all_digits_lem (d ∷ l) h

-- digits alone are a number, and so are digits behind a minus sign
plain_number : (l : List ℕ) → 0 < length l → Decimal l → (is_number l ≡ true) × (number_of l ≡ pos (value l))
unfolding is_number number_of
plain_number [] s h = absurd (omega arith)
plain_number (d ∷ l) s h = rw (ne_eqb d minus_sign (λ e. omega arith)) (some_digits_lem (d ∷ l) s h, refl)

minus_number : (l : List ℕ) → 0 < length l → Decimal l → (is_number (minus_sign ∷ l) ≡ true) × (number_of (minus_sign ∷ l) ≡ neg_ℤ (pos (value l)))
unfolding is_number number_of
minus_number l s h = (some_digits_lem l s h, refl)

-- ---- a number that was printed

signed_line : (z : ℤ) → OneLine (signed z)
unfolding signed
signed_line (pos n) = one_line (decimal n) (decimal_digits n)
signed_line (negsuc n) = (λ e. omega arith, one_line (decimal (suc n)) (decimal_digits (suc n)))

signed_number : (z : ℤ) → (is_number (signed z) ≡ true) × (number_of (signed z) ≡ z)
unfolding signed
signed_number (pos n) = let p = plain_number (decimal n) (decimal_some n) (decimal_digits n) in (p.0, p.1 ∙ ap pos (value_decimal n))
signed_number (negsuc n) = let p = minus_number (decimal (suc n)) (decimal_some (suc n)) (decimal_digits (suc n)) in (p.0, p.1 ∙ ap (λ (m : ℕ). neg_ℤ (pos m)) (value_decimal (suc n)))

pub cell_back : (z : ℤ) → mag z < 2 ^ 63 → cell_of (signed z) ≡ Ok z
unfolding cell_of
cell_back z h = let p = signed_number z in rw (p.0, p.1, lt-ltb (mag z) (2 ^ 63) h)

pub whole_back : (n : ℕ) → n < 2 ^ 64 → whole_of (decimal n) ≡ Ok n
unfolding whole_of unsigned
whole_back n h =
    let p = plain_number (decimal n) (decimal_some n) (decimal_digits n) in
    rw (p.0, p.1, value_decimal n, lt-ltb n (2 ^ 64) h)

-- ---- the cells

cell_line_lem : (z : ℤ) (text : List ℕ) → lines (cell_line z ++ text) ≡ signed z ∷ lines text
cell_line_lem z text = first_line (signed z) text (signed_line z)

pub cells_back : (line : ℕ) (zs : List ℤ) → Small zs → cells_of line (lines (cell_lines zs)) ≡ cells zs
unfolding each lines cells_of cell_then before
cells_back line [] h = refl
cells_back line (z ∷ zs) h =
    ap (cells_of line) (cell_line_lem z (cell_lines zs))
    ∙ ap₂ (cell_then line) (cell_back z h.0) (cells_back (suc line) zs h.1)

-- ---- the line of an edition

pub word_line : (n : ℕ) → OneLine (edition_word ++ decimal n)
unfolding ascii
word_line n = one_both edition_word (decimal n) (words_line edition_word tt) (one_line (decimal n) (decimal_digits n))

pub edition_back : (n : ℕ) → n < 2 ^ 64 → edition_of (edition_word ++ decimal n) ≡ Ok n
unfolding edition_of begins ascii
edition_back n h = whole_back n h

-- ---- the sheet

sheet_lines : (edition number : ℕ) (zs : List ℤ) → lines (sheet_text edition number zs) ≡ (edition_word ++ decimal edition) ∷ (decimal number ∷ lines (cell_lines zs))
sheet_lines edition number zs =
    ap lines (append_assoc (edition_line edition ++ decimal number) (ascii "\n") (cell_lines zs) ∙ append_assoc (edition_line edition) (decimal number) (ascii "\n" ++ cell_lines zs))
    ∙ first_line (edition_word ++ decimal edition) (decimal number ++ (ascii "\n" ++ cell_lines zs)) (word_line edition)
    ∙ ap (λ (ls : List (List ℕ)). (edition_word ++ decimal edition) ∷ ls) (ap lines (sym (append_assoc (decimal number) (ascii "\n") (cell_lines zs))) ∙ first_line (decimal number) (cell_lines zs) (one_line (decimal number) (decimal_digits number)))

-- with room for its cells, the text of a sheet gives the edition, the type number and the cells
pub sheet_back : (edition number : ℕ) (zs lent : List ℤ) → edition < 2 ^ 64 → number < 2 ^ 64 → Small zs → length zs ≤ length lent
    → (parsed (sheet_text edition number zs) (length lent) ≡ Ok (label edition number, length zs)) × (cells_after (sheet_text edition number zs) lent ≡ filled zs lent)
unfolding parsed_lines edited typed_lines typed placed listed behind_first after_parsing
sheet_back edition number zs lent g h small room =
    rw (sheet_lines edition number zs, edition_back edition g, whole_back number h, cells_back cells_at zs small, le-leb (length zs) (length lent) room) (refl, refl)
