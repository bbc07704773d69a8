-- Numbers as text, in ASCII: decimal digits, with a minus sign where the number is below 0, and hexadecimal digits of bytes.
use Rattle.std.specs.Prelude.{ℕ, zero, suc, ◌+◌, ◌-◌, ◌*◌, ◌/◌, ◌%◌, List, [], ◌∷◌, ◌++◌, cond, ℤ, pos, negsuc, leb, ltb}
use Rattle.printing.specs.Characters.{minus_sign, digit_zero, digit_nine, letter_a}

-- the digits of a number, where `most` of them are enough
unfoldable pub digits : ℕ → ℕ → List ℕ
digits zero n = []
digits (suc most) n = cond (ltb n 10) ((digit_zero + n) ∷ []) (digits most (n / 10) ++ ((digit_zero + n % 10) ∷ []))

-- the decimal digits of a number, most significant first
abbrev pub decimal : ℕ → List ℕ
decimal n = digits (suc n) n

-- the digits of a number that may be below 0, then behind a minus sign
unfoldable pub signed : ℤ → List ℕ
signed (pos n) = decimal n
signed (negsuc n) = minus_sign ∷ decimal (suc n)

-- a digit below 16: 0 to 9, then a to f
abbrev pub hex_digit : ℕ → ℕ
hex_digit d = cond (ltb d 10) (digit_zero + d) (letter_a + (d - 10))

-- two digits for a byte
abbrev pub hex_byte : ℕ → List ℕ
hex_byte b = hex_digit (b / 16) ∷ hex_digit (b % 16) ∷ []

-- ---- and back

-- the number that decimal digits stand for, behind others that stand for n
unfoldable pub value_from : ℕ → List ℕ → ℕ
value_from n [] = n
value_from n (d ∷ ds) = value_from (n * 10 + (d - digit_zero)) ds

abbrev pub value : List ℕ → ℕ
value ds = value_from 0 ds

-- what a hexadecimal digit stands for
abbrev pub hex_value : ℕ → ℕ
hex_value d = cond (leb d digit_nine) (d - digit_zero) (d - letter_a + 10)

-- the bytes of hexadecimal digits, two for each; a last digit alone is none
unfoldable pub bytes_of_hex : List ℕ → List ℕ
bytes_of_hex [] = []
bytes_of_hex (h ∷ []) = []
bytes_of_hex (h ∷ l ∷ rest) = (hex_value h * 16 + hex_value l) ∷ bytes_of_hex rest
