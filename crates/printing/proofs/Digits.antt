-- Laws of numbers as text: how the digits go on, that they stand for the number, and that there is no leading zero.
-- Assumes nothing.
use Prim.Native.Nat.{ℕ, zero, suc, ◌+◌, ◌-◌, ◌*◌, ◌/◌, ◌%◌, ◌<◌, ◌≤◌}
use mathlib.Core.List.{List, [], ◌∷◌, ◌++◌}
use mathlib.Core.Path.{◌≡◌, refl, ap, ap₂, ◌∙◌}
use native.Mathlib.Decide.{dec_lt}
use native.Mathlib.Omega.{arith}
use borrow.Author.Tests.{lt-ltb, le-ltb, le-leb, lt-leb}
use lib.ListN.{length, get_or, length-append, get_or-append}
use Rattle.printing.specs.Characters.{digit_zero, digit_nine, letter_a}
use Rattle.printing.specs.Digits.{digits, decimal, value_from, value, hex_digit, hex_value, bytes_of_hex}
use Rattle.printing.specs.Texts.{each, hexadecimal}
use Rattle.bits.specs.Bytes.{Octets}

-- more digits than enough are as many
enough : (m k n : ℕ) → n < m → n < k → digits m n ≡ digits k n
unfolding digits
enough zero k n h l = absurd (omega arith)
enough (suc m) zero n h l = absurd (omega arith)
enough (suc m) (suc k) n h l = go (dec_lt n 10) (λ a b. enough m k (n / 10) a b)
  where
    go : Dec (n < 10) → (n / 10 < m → n / 10 < k → digits m (n / 10) ≡ digits k (n / 10)) → digits (suc m) n ≡ digits (suc k) n
    go (yes s) more = rw (lt-ltb n 10 s)
    go (no s) more =
        let b : 10 ≤ n = omega arith in
        rw (le-ltb n 10 b) (ap (λ (ds : List ℕ). ds ++ ((digit_zero + n % 10) ∷ [])) (more (omega arith) (omega arith)))

-- one digit; and one digit more
pub decimal_one : (n : ℕ) → n < 10 → decimal n ≡ (digit_zero + n) ∷ []
unfolding digits
decimal_one n h = rw (lt-ltb n 10 h)

pub decimal_more : (n : ℕ) → 10 ≤ n → decimal n ≡ decimal (n / 10) ++ ((digit_zero + n % 10) ∷ [])
unfolding digits
decimal_more n h = rw (le-ltb n 10 h) (ap (λ (ds : List ℕ). ds ++ ((digit_zero + n % 10) ∷ [])) (enough n (suc (n / 10)) (n / 10) (omega arith) (omega arith)))

-- what holds of one digit, and goes over to one digit more, holds of every number's digits
module _ (P : ℕ → Type 0) (one : (n : ℕ) → n < 10 → P n) (more : (n : ℕ) → 10 ≤ n → P (n / 10) → P n) where
  turn : (n : ℕ) → Dec (n < 10) → (10 ≤ n → P (n / 10)) → P n
  turn n (yes s) higher = one n s
  turn n (no s) higher = more n (omega arith) (higher (omega arith))

  below : (most n : ℕ) → n < most → P n
  below zero n h = absurd (omega arith)
  below (suc most) n h = turn n (dec_lt n 10) (λ b. below most (n / 10) (omega arith))

  pub by_digits : (n : ℕ) → P n
  by_digits n = below (suc n) n (omega arith)

-- ---- the digits stand for the number

pub value_append : (n : ℕ) (s t : List ℕ) → value_from n (s ++ t) ≡ value_from (value_from n s) t
unfolding value_from
value_append n [] t = refl
value_append n (d ∷ s) t = value_append (n * 10 + (d - digit_zero)) s t

pub value_decimal : (n : ℕ) → value (decimal n) ≡ n
unfolding value_from
value_decimal = by_digits (λ n. value (decimal n) ≡ n)
    (λ n h. ap value (decimal_one n h) ∙ omega arith)
    (λ n h e. ap value (decimal_more n h) ∙ value_append 0 (decimal (n / 10)) ((digit_zero + n % 10) ∷ []) ∙ omega arith)

-- ---- at least one digit, nothing but digits, no leading zero

-- each byte is a digit
abbrev pub Decimal : List ℕ → Type 0
Decimal [] = Unit {0}
Decimal (d ∷ ds) = (digit_zero ≤ d) × (d ≤ digit_nine) × Decimal ds

pub decimal_append : (s t : List ℕ) → Decimal s → Decimal t → Decimal (s ++ t)
decimal_append [] t h k = k
decimal_append (d ∷ s) t h k = (h.0, h.1, decimal_append s t h.2 k)

pub decimal_digits : (n : ℕ) → Decimal (decimal n)
decimal_digits = by_digits (λ n. Decimal (decimal n))
    (λ n h. rw (decimal_one n h) (omega arith, omega arith, tt))
    (λ n h d. rw (decimal_more n h) (decimal_append (decimal (n / 10)) ((digit_zero + n % 10) ∷ []) d (omega arith, omega arith, tt)))

pub decimal_some : (n : ℕ) → 0 < length (decimal n)
decimal_some = by_digits (λ n. 0 < length (decimal n))
    (λ n h. rw (decimal_one n h) (omega arith))
    (λ n h d. rw (decimal_more n h, length-append) (omega arith))

-- the first digit is 0 only where the number is
pub no_leading_zero : (n : ℕ) → 0 < n → digit_zero < get_or (decimal n) 0 0
no_leading_zero = by_digits (λ n. 0 < n → digit_zero < get_or (decimal n) 0 0)
    (λ n h p. rw (decimal_one n h) (omega arith))
    (λ n h d p. rw (decimal_more n h, get_or-append (decimal (n / 10)) ((digit_zero + n % 10) ∷ []) 0 0 (decimal_some (n / 10))) (d (omega arith)))

-- ---- hexadecimal digits stand for the bytes

pub hex_digit_lem : (d : ℕ) → d < 16 → hex_value (hex_digit d) ≡ d
hex_digit_lem d h = go (dec_lt d 10)
  where
    go : Dec (d < 10) → hex_value (hex_digit d) ≡ d
    go (yes s) = let l : digit_zero + d ≤ digit_nine = omega arith in rw (lt-ltb d 10 s, le-leb (digit_zero + d) digit_nine l) (omega arith)
    go (no s) = let b : 10 ≤ d = omega arith in let l : digit_nine < letter_a + (d - 10) = omega arith in rw (le-ltb d 10 b, lt-leb (letter_a + (d - 10)) digit_nine l) (omega arith)

pub hex_back : (bytes : List ℕ) → Octets bytes → bytes_of_hex (hexadecimal bytes) ≡ bytes
unfolding each bytes_of_hex
hex_back [] h = refl
hex_back (b ∷ bytes) h =
    let high : hex_value (hex_digit (b / 16)) ≡ b / 16 = hex_digit_lem (b / 16) (omega arith) in
    let low : hex_value (hex_digit (b % 16)) ≡ b % 16 = hex_digit_lem (b % 16) (omega arith) in
    let all : hex_value (hex_digit (b / 16)) * 16 + hex_value (hex_digit (b % 16)) ≡ b = omega arith in
    ap₂ (λ (x : ℕ) (xs : List ℕ). x ∷ xs) all (hex_back bytes h.1)
