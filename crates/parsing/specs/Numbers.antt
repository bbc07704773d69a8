-- A line as a number: an optional minus sign and one or more decimal digits, nothing else. Leading zeros and -0 are numbers like others. And the line of an edition.
use Rattle.std.specs.Prelude.{ℕ, ◌^◌, List, [], ◌∷◌, Bool, true, false, cond, ℤ, pos, negsuc, neg_ℤ, leb, ltb, eqb, length, drop, Result, Ok, Err}
use Rattle.std.specs.Int.Signed.{mag}
use Rattle.printing.specs.Characters.{minus_sign, digit_zero, digit_nine}
use Rattle.printing.specs.Digits.{value}
use Rattle.printing.specs.Texts.{ascii}
use Rattle.parsing.specs.declared.NumberError.{NumberError}
use Rattle.parsing.specs.declared.NumberError.TheVariants as kind

-- what a line gives as a cell, or why it is none
abbrev pub Cell : Type 0
Cell = Result ℤ NumberError

-- what a line gives as a number without a sign, or why it is none
abbrev pub Whole : Type 0
Whole = Result ℕ NumberError

-- 0 to 9
abbrev pub is_digit : ℕ → Bool
is_digit b = cond (leb digit_zero b) (leb b digit_nine) false

-- nothing but digits
unfoldable pub all_digits : List ℕ → Bool
all_digits [] = true
all_digits (b ∷ bs) = cond (is_digit b) (all_digits bs) false

-- one or more
unfoldable pub some_digits : List ℕ → Bool
some_digits [] = false
some_digits (b ∷ bs) = all_digits (b ∷ bs)

-- digits, or a minus sign and digits
unfoldable pub is_number : List ℕ → Bool
is_number [] = false
is_number (b ∷ bs) = cond (eqb b minus_sign) (some_digits bs) (some_digits (b ∷ bs))

-- the number that such a line stands for
unfoldable pub number_of : List ℕ → ℤ
number_of [] = pos 0
number_of (b ∷ bs) = cond (eqb b minus_sign) (neg_ℤ (pos (value bs))) (pos (value (b ∷ bs)))

-- a cell is a number of 64 bits with a sign
abbrev pub fitting : ℤ → Cell
fitting z = cond (ltb (mag z) (2 ^ 63)) (Ok z) (Err kind.OutOfRange)

-- a line as a cell
unfoldable pub cell_of : List ℕ → Cell
cell_of line = cond (is_number line) (fitting (number_of line)) (Err kind.NoNumber)

-- an edition or a type number is one without
unfoldable pub unsigned : ℤ → Whole
unsigned (pos n) = cond (ltb n (2 ^ 64)) (Ok n) (Err kind.OutOfRange)
unsigned (negsuc n) = Err kind.OutOfRange

-- a line as a number without a sign
unfoldable pub whole_of : List ℕ → Whole
whole_of line = cond (is_number line) (unsigned (number_of line)) (Err kind.NoNumber)

-- ---- the line of an edition

-- whether a line begins with a word
unfoldable pub begins : List ℕ → List ℕ → Bool
begins [] line = true
begins (w ∷ word) [] = false
begins (w ∷ word) (b ∷ line) = cond (eqb b w) (begins word line) false

abbrev pub edition_word : List ℕ
edition_word = ascii "edition "

-- a line as an edition: what the reading program prints of it, the word, a blank, and a number (document 02, A11)
unfoldable pub edition_of : List ℕ → Whole
edition_of line = cond (begins edition_word line) (whole_of (drop (length edition_word) line)) (Err kind.NoNumber)

-- ---- a line in steps, as the code goes: the sign, and the digits behind it

-- whether a line begins with a minus sign
unfoldable pub is_minus : List ℕ → Bool
is_minus [] = false
is_minus (b ∷ bs) = eqb b minus_sign

-- digits as a number without a sign
unfoldable pub digits_of : List ℕ → Whole
digits_of ds = cond (some_digits ds) (cond (ltb (value ds) (2 ^ 64)) (Ok (value ds)) (Err kind.OutOfRange)) (Err kind.NoNumber)

-- digits alone, as a cell
unfoldable pub cell_above : Whole → Cell
cell_above (Ok n) = fitting (pos n)
cell_above (Err why) = Err why

-- digits behind a minus sign, as a cell
unfoldable pub cell_below : Whole → Cell
cell_below (Ok n) = fitting (neg_ℤ (pos n))
cell_below (Err why) = Err why

-- digits behind a minus sign, as a type number: only 0 is one
unfoldable pub whole_below : Whole → Whole
whole_below (Ok n) = cond (eqb n 0) (Ok 0) (Err kind.OutOfRange)
whole_below (Err why) = Err why
