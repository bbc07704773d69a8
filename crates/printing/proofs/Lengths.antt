-- How long the texts can be: what room is always enough for whatever reading answers, and for whatever writing answers.
-- Assumes nothing.
use Prim.Native.Nat.{ℕ, zero, suc, ◌+◌, ◌*◌, ◌/◌, ◌<◌, ◌≤◌, ◌^◌}
use mathlib.Core.List.{List, [], ◌∷◌, ◌++◌}
use mathlib.Core.Path.{◌≡◌, refl, ap}
use native.Mathlib.Decide.{dec_lt}
use native.Mathlib.Nat.{pow-suc}
use native.Mathlib.Omega.{arith}
use borrow.Author.Tests.{eq-eqb, ne_eqb}
use lib.IntN.{ℤ, pos, negsuc}
use lib.ListN.{length, get_or, take, length-append, length-take}
use lib.Signed.{mag}
use Rattle.answers.specs.declared.Answer.{Answer}
use Rattle.printing.specs.Digits.{decimal, signed, hex_byte}
use Rattle.printing.specs.Texts.{ascii, each, cell_line, cell_lines, edition_line, hexadecimal, longest_cell_line, read_text, written_text, read_room, written_room}
use Rattle.printing.proofs.Digits.{decimal_one, decimal_more}
use Rattle.printing.proofs.Appending.{each_more}

-- a number below 10^k has at most k digits
pub decimal_length : (k n : ℕ) → 0 < k → n < 10 ^ k → length (decimal n) ≤ k
decimal_length zero n h l = absurd (omega arith)
decimal_length (suc k) n h l = go (dec_lt n 10) (λ m s. decimal_length k (n / 10) m s)
  where
    go : Dec (n < 10) → (0 < k → n / 10 < 10 ^ k → length (decimal (n / 10)) ≤ k) → length (decimal n) ≤ suc k
    go (yes s) higher = rw (decimal_one n s) (omega arith)
    go (no s) higher =
        let p : 10 ^ suc k ≡ 10 ^ k * 10 = pow-suc 10 k in
        let q : n / 10 < 10 ^ k = omega arith in
        let some : 0 < k = one k q in
        rw (decimal_more n (omega arith), length-append) (omega (arith, higher some q))
      where
        one : (k : ℕ) → n / 10 < 10 ^ k → 0 < k
        one zero u = absurd (omega arith)
        one (suc j) u = omega arith

pub decimal_short : (n : ℕ) → n < 2 ^ 64 → length (decimal n) ≤ 20
decimal_short n h = decimal_length 20 n (omega arith) (omega arith)

-- a cell's line
pub line_short : (z : ℤ) → mag z < 2 ^ 63 → length (cell_line z) ≤ 21
unfolding signed ascii
line_short (pos n) h = omega (arith, length-append (decimal n) (ascii "\n"), decimal_length 19 n (omega arith) (omega arith))
line_short (negsuc n) h = omega (arith, length-append (decimal (suc n)) (ascii "\n"), decimal_length 19 (suc n) (omega arith) (omega arith))

pub lines_none : (cells : List ℤ) → length (each cell_line (take 0 cells)) ≤ longest_cell_line * 0
unfolding each
lines_none cells = omega arith

-- one more
pub lines_more : (cells : List ℤ) (i : ℕ) → i < length cells → mag (get_or cells i (pos 0)) < 2 ^ 63 → length (each cell_line (take i cells)) ≤ longest_cell_line * i → length (each cell_line (take (i + 1) cells)) ≤ longest_cell_line * (i + 1)
lines_more cells i h small l =
    omega (
      arith,
      ap length (each_more cell_line cells i (pos 0) h),
      length-append (each cell_line (take i cells)) (cell_line (get_or cells i (pos 0))),
      line_short (get_or cells i (pos 0)) small,
    )

-- the first lines, or the only one
module _ (edition : ℕ) (a : Answer) (sheet : List ℤ) where
  first : List ℕ
  first = edition_line edition ++ ascii "accepted " ++ decimal a.bits ++ ascii " bits " ++ decimal a.count ++ ascii " cells\n"

  pub accepted_short : a.number ≡ 0 → edition < 2 ^ 64 → a.bits < 2 ^ 64 → a.count < 2 ^ 64 → length (cell_lines (take a.count sheet)) ≤ longest_cell_line * length sheet → length (read_text edition a sheet) ≤ read_room (length sheet)
  unfolding read_text ascii first
  accepted_short e number bits count lines =
      let f : length first ≤ 91 = simp length-append (omega (arith, decimal_short edition number, decimal_short a.bits bits, decimal_short a.count count)) in
      rw (eq-eqb a.number 0 e) (omega (arith, length-append first (cell_lines (take a.count sheet))))

  pub refused_short : (a.number ≡ 0 → ⊥) → a.number < 2 ^ 64 → a.place < 2 ^ 64 → length (read_text edition a sheet) ≤ read_room (length sheet)
  unfolding read_text ascii
  refused_short e number place = rw (ne_eqb a.number 0 e) (simp length-append (omega (arith, decimal_short a.number number, decimal_short a.place place)))

-- ---- writing

-- two digits for each byte
pub hex_length : (bytes : List ℕ) → length (hexadecimal bytes) ≡ 2 * length bytes
unfolding each
hex_length [] = refl
hex_length (b ∷ bytes) = let e = hex_length bytes in omega (arith, length-append (hex_byte b) (hexadecimal bytes))

module _ (a : Answer) (bytes : List ℕ) where
  pub message_short : a.number ≡ 0 → length (written_text a bytes) ≤ written_room (length bytes)
  unfolding written_text ascii
  message_short e =
      rw (eq-eqb a.number 0 e)
      (omega (arith, length-append (hexadecimal (take a.count bytes)) (ascii "\n"), hex_length (take a.count bytes), length-take a.count bytes))

  pub no_message_short : (a.number ≡ 0 → ⊥) → a.number < 2 ^ 64 → a.place < 2 ^ 64 → length (written_text a bytes) ≤ written_room (length bytes)
  unfolding written_text ascii
  no_message_short e number place = rw (ne_eqb a.number 0 e) (simp length-append (omega (arith, decimal_short a.number number, decimal_short a.place place)))
