-- The straight store: five bytes at once, from the byte of a place on, over bits that are 0 from the place on.
-- Assumes nothing.
use mathlib.Core.Path.{◌≡◌, refl, sym, ap, ap₂, subst, ◌∙◌}
use mathlib.Core.List.{List, [], ◌∷◌, ◌++◌, append_assoc}
use Prim.Native.Nat.{ℕ, zero, suc, ◌+◌, ◌-◌, ◌*◌, ◌/◌, ◌%◌, ◌<◌, ◌≤◌, ◌^◌}
use native.Mathlib.Nat.{add-zero, mul_assoc, add-mul, div-one, zero-div}
use native.Mathlib.Decide.{dec_lt}
use native.Mathlib.Omega.{arith}
use lib.ListN.{length, take, drop, get_or, set, replicate, length-append, length-take, length-drop, length-replicate, get_or-replicate, get_or-append, get_or-eq_default}
use lib.Seq.{sets, sets-eq, length-sets, take-add, take-take, set_comm, take-append-add, length-take-le, get_or-take, get_or-drop, get_or-append-add}
use lib.Arith.{digits_lt}
use lib.Pow.{pow_pos, pow-add, high, split, shl_lt, shl_exact, shr_lt, shr-shr}
use Rattle.bits.specs.Numbers.{to_bits, val}
use Rattle.bits.specs.Bytes.{bits_of}
use Rattle.bits.specs.Storing.{splice}
use Rattle.bits.proofs.Numbers.{to_bits_length, to_bits_add, to_bits_low, to_bits_mod, val_to_bits}
use Rattle.bits.proofs.Bytes.{bits_of_append, bits_of_length, bits_of_take, bits_of_drop, chunk, parts}

-- ---- a number as bytes, the highest first

low_bytes : ℕ → ℕ → List ℕ
low_bytes zero v = []
low_bytes (suc n) v = v / 2 ^ (8 * n) % 256 ∷ low_bytes n v

low_bits : (n v : ℕ) → bits_of (low_bytes n v) ≡ to_bits (8 * n) v
unfolding bits_of low_bytes to_bits
low_bits zero v = refl
low_bits (suc n) v =
    let e : 8 + 8 * n ≡ 8 * suc n = omega arith in
    ap₂ (λ (a b : List ℕ). a ++ b) (to_bits_mod 8 (v / 2 ^ (8 * n))) (low_bits n v) ∙ sym (to_bits_add 8 (8 * n) v) ∙ ap (λ (k : ℕ). to_bits k v) e

-- five of them, as the code makes them
abbrev pub five : ℕ → List ℕ
five v = v / 2 ^ 32 % 256 ∷ v / 2 ^ 24 % 256 ∷ v / 2 ^ 16 % 256 ∷ v / 2 ^ 8 % 256 ∷ v % 256 ∷ []

five_bits : (v : ℕ) → bits_of (five v) ≡ to_bits 40 v
unfolding low_bytes
five_bits v = ap (λ (k : ℕ). bits_of (v / 2 ^ 32 % 256 ∷ v / 2 ^ 24 % 256 ∷ v / 2 ^ 16 % 256 ∷ v / 2 ^ 8 % 256 ∷ k % 256 ∷ [])) (sym (div-one v)) ∙ low_bits 5 v

-- bytes that are stored behind one another are their bits, written over those that were there
bytes_over : (d : List ℕ) (i : ℕ) (bs : List ℕ) → i + length bs ≤ length d → bits_of (sets d i bs) ≡ splice (bits_of d) (8 * i) (bits_of bs)
bytes_over d i bs h =
    let behind : 8 * (i + length bs) ≡ 8 * i + length (bits_of bs) = omega (arith, bits_of_length bs) in
    ap bits_of (sets-eq bs d i h ∙ append_assoc (take i d) bs (drop (i + length bs) d))
    ∙ bits_of_append (take i d) (bs ++ drop (i + length bs) d)
    ∙ ap₂ (λ (a b : List ℕ). a ++ b) (bits_of_take i d (omega arith)) (bits_of_append bs (drop (i + length bs) d))
    ∙ ap (λ (l : List ℕ). take (8 * i) (bits_of d) ++ (bits_of bs ++ l)) (sym (bits_of_drop d (i + length bs) h) ∙ ap (λ (k : ℕ). drop k (bits_of d)) behind)

-- the stores of the code: the byte of the place is stored last
abbrev pub five_stored : List ℕ → ℕ → ℕ → ℕ → List ℕ
five_stored d i first v = set (set (set (set (set d (i + 1) (v / 2 ^ 24 % 256)) (i + 2) (v / 2 ^ 16 % 256)) (i + 3) (v / 2 ^ 8 % 256)) (i + 4) (v % 256)) i first

-- it could as well be stored first
last_first : (d : List ℕ) (i a b c e f : ℕ) → set (set (set (set (set d (i + 1) a) (i + 2) b) (i + 3) c) (i + 4) e) i f ≡ sets d i (f ∷ a ∷ b ∷ c ∷ e ∷ [])
last_first d i a b c e f =
    let e1 : i + 1 ≡ suc i = omega arith in
    let e2 : i + 2 ≡ suc (suc i) = omega arith in
    let e3 : i + 3 ≡ suc (suc (suc i)) = omega arith in
    let e4 : i + 4 ≡ suc (suc (suc (suc i))) = omega arith in
    set_comm (set (set (set d (i + 1) a) (i + 2) b) (i + 3) c) (i + 4) i e f (λ z. omega arith)
    ∙ ap (λ (l : List ℕ). set l (i + 4) e) (set_comm (set (set d (i + 1) a) (i + 2) b) (i + 3) i c f (λ z. omega arith))
    ∙ ap (λ (l : List ℕ). set (set l (i + 3) c) (i + 4) e) (set_comm (set d (i + 1) a) (i + 2) i b f (λ z. omega arith))
    ∙ ap (λ (l : List ℕ). set (set (set l (i + 2) b) (i + 3) c) (i + 4) e) (set_comm d (i + 1) i a f (λ z. omega arith))
    ∙ rw (e1, e2, e3, e4) refl

-- ---- the bits of the window: those that stand before the place, the new ones, and zeros

abbrev zeros : ℕ → List ℕ
zeros n = replicate n 0

zero_bits : (r : ℕ) → to_bits r 0 ≡ zeros r
unfolding to_bits
zero_bits zero = refl
zero_bits (suc r) = let e : 0 / 2 ^ r % 2 ≡ 0 = ap (λ (k : ℕ). k % 2) (zero-div (2 ^ r)) in ap₂ (λ (b : ℕ) (l : List ℕ). b ∷ l) e (zero_bits r)

zeros_length : (n : ℕ) → length (zeros n) ≡ n
zeros_length n = length-replicate n 0

zeros_val : (r : ℕ) → val (zeros r) ≡ 0
unfolding val
zeros_val zero = refl
zeros_val (suc r) = omega (arith, zeros_val r)

pub take_zeros : (k n : ℕ) → k ≤ n → take k (zeros n) ≡ zeros k
take_zeros zero n h = refl
take_zeros (suc k) zero h = absurd (omega arith)
take_zeros (suc k) (suc n) h = ap (λ (l : List ℕ). 0 ∷ l) (take_zeros k n (omega arith))

pub all_zero : (l : List ℕ) → ((j : ℕ) → get_or l j 0 ≡ 0) → l ≡ zeros (length l)
all_zero [] h = refl
all_zero (x ∷ l) h = ap₂ (λ (a : ℕ) (m : List ℕ). a ∷ m) (h 0) (all_zero l (λ j. h (suc j)))

module _ (b m w n r : ℕ) (all : m + (w + r) ≡ 40) (few : m ≤ 8) (held : n < 2 ^ w) (clean : b % 2 ^ (8 - m) ≡ 0) where
  abbrev above : ℕ
  above = b / 2 ^ (8 - m)

  abbrev both : ℕ
  both = above * 2 ^ w + n

  window_is : b * 2 ^ 32 + n * 2 ^ r ≡ both * 2 ^ r
  window_is =
      let exponents : 8 - m + 32 ≡ w + r = omega arith in
      let whole : above * 2 ^ (8 - m) ≡ b = omega (arith, split b (8 - m)) in
      let up : b * 2 ^ 32 ≡ above * 2 ^ w * 2 ^ r =
      ap (λ (k : ℕ). k * 2 ^ 32) (sym whole) ∙ mul_assoc above (2 ^ (8 - m)) (2 ^ 32) ∙ ap (λ (k : ℕ). above * k) (sym (pow-add 2 (8 - m) 32) ∙ ap (λ (k : ℕ). 2 ^ k) exponents ∙ pow-add 2 w r) ∙ sym (mul_assoc above (2 ^ w) (2 ^ r))
      in
      ap (λ (k : ℕ). k + n * 2 ^ r) up ∙ sym (add-mul (above * 2 ^ w) n (2 ^ r))

  window_fits : b < 256 → b * 2 ^ 32 + n * 2 ^ r < 2 ^ 40
  window_fits byte =
      let eight-all : 256 ≡ 2 ^ (m + (8 - m)) = (let e : 8 ≡ m + (8 - m) = omega arith in ap (λ (k : ℕ). 2 ^ k) e) in
      let high_small : above < 2 ^ m = shr_lt m (8 - m) (subst (λ (k : ℕ). b < k) eight-all byte) in
      let all_small : both < 2 ^ (m + w) = subst (λ (k : ℕ). both < k) (sym (pow-add 2 m w)) (digits_lt high_small held) in
      let sum : m + w + r ≡ 40 = omega arith in
      subst (λ (k : ℕ). k < 2 ^ 40) (sym window_is) (subst (λ (k : ℕ). both * 2 ^ r < 2 ^ k) sum (shl_lt (m + w) r all_small))

  window : to_bits 40 (b * 2 ^ 32 + n * 2 ^ r) ≡ to_bits m above ++ (to_bits w n ++ zeros r)
  window =
      let v = both * 2 ^ r + 0 in
      let vr : v / 2 ^ r ≡ both = high both r (pow_pos r) in
      let order : w + r ≡ r + w = omega arith in
      let vm : v / 2 ^ (w + r) ≡ above = ap (λ (k : ℕ). v / 2 ^ k) order ∙ sym (shr-shr v r w) ∙ ap (λ (k : ℕ). k / 2 ^ w) vr ∙ high above w held in
      ap (to_bits 40) (window_is ∙ sym (add-zero (both * 2 ^ r)))
      ∙ parts 40 v m w r all
      ∙ ap₂ (λ (a c : List ℕ). a ++ c) (ap (to_bits m) vm) (ap₂ (λ (a c : List ℕ). a ++ c) (ap (to_bits w) vr ∙ to_bits_low w above n) (to_bits_low r both 0 ∙ zero_bits r))

-- ---- the store, in bytes with four behind them

module _ (most : ℕ) (d : List ℕ) (size : length d ≡ most + 4) (at w n : ℕ) (clean : (j : ℕ) → at ≤ j → get_or (bits_of (take most d)) j 0 ≡ 0) where
  abbrev front : List ℕ
  front = take most d

  front_size : length front ≡ most
  front_size = length-take-le most d (omega arith)

  front_bits : (l : List ℕ) → length l ≡ most + 4 → bits_of (take most l) ≡ take (8 * most) (bits_of l)
  front_bits l e = bits_of_take most l (omega arith)

  module _ (inside : at < 8 * most) where
    abbrev i : ℕ
    i = at / 8

    abbrev m : ℕ
    m = at % 8

    abbrev b : ℕ
    b = get_or d i 0

    b_front : get_or front i 0 ≡ b
    b_front = get_or-take most d i 0 (omega arith)

    tail : drop at (bits_of front) ≡ zeros (8 * most - at)
    tail =
        let len : length (drop at (bits_of front)) ≡ 8 * most - at = omega (arith, length-drop at (bits_of front), bits_of_length front, front_size) in
        all_zero (drop at (bits_of front)) (λ j. get_or-drop at (bits_of front) j 0 ∙ clean (at + j) (omega arith)) ∙ ap zeros len

    place : 8 * i + m ≡ at
    place = omega arith

    -- below the place the byte has zeros
    b_clean : b % 2 ^ (8 - m) ≡ 0
    b_clean =
        let sum : m + (8 - m + 0) ≡ 8 = omega arith in
        let bits : to_bits (8 - m) (get_or front i 0 / 1) ≡ zeros (8 - m) =
        sym (chunk front i m (8 - m) 0 (omega (arith, front_size)) sum) ∙ ap (λ (k : ℕ). take (8 - m) (drop k (bits_of front))) place ∙ ap (take (8 - m)) tail ∙ take_zeros (8 - m) (8 * most - at) (omega arith)
        in
        ap (λ (k : ℕ). k % 2 ^ (8 - m)) (sym (div-one (get_or front i 0) ∙ b_front)) ∙ sym (val_to_bits (8 - m) (get_or front i 0 / 1)) ∙ ap val bits ∙ zeros_val (8 - m)

    before : to_bits m (b / 2 ^ (8 - m)) ≡ take m (drop (8 * i) (bits_of front))
    before =
        let sum : 0 + (m + (8 - m)) ≡ 8 = omega arith in
        let first : 8 * i + 0 ≡ 8 * i = omega arith in
        ap (λ (k : ℕ). to_bits m (k / 2 ^ (8 - m))) (sym b_front) ∙ sym (chunk front i 0 m (8 - m) (omega (arith, front_size)) sum) ∙ ap (λ (k : ℕ). take m (drop k (bits_of front))) first

    -- up to the place nothing changes
    kept : take (8 * i) (bits_of d) ++ to_bits m (b / 2 ^ (8 - m)) ≡ take at (bits_of front)
    kept =
        ap₂ (λ (a c : List ℕ). a ++ c) (sym (ap (take (8 * i)) (front_bits d size) ∙ take-take (8 * i) (8 * most) (bits_of d) (omega arith))) before
        ∙ sym (take-add (8 * i) m (bits_of front))
        ∙ ap (λ (k : ℕ). take k (bits_of front)) place

    module _ (r : ℕ) (all : m + (w + r) ≡ 40) (room : at + w ≤ 8 * most) where
      abbrev behind : List ℕ
      behind = drop (8 * i + 40) (bits_of d)

      -- behind the new bits there are zeros, as before
      rest : take (8 * most - (at + w)) (zeros r ++ behind) ≡ drop (at + w) (bits_of front)
      rest =
          let bits : length (bits_of d) ≡ 8 * most + 32 = omega (arith, bits_of_length d) in
          let len : length (take (8 * most - (at + w)) (zeros r ++ behind)) ≡ 8 * most - (at + w) =
          length-take-le (8 * most - (at + w)) (zeros r ++ behind) (omega (arith, length-append (zeros r) behind, zeros_length r, length-drop (8 * i + 40) (bits_of d)))
          in
          let same : length (drop (at + w) (bits_of front)) ≡ 8 * most - (at + w) = omega (arith, length-drop (at + w) (bits_of front), bits_of_length front, front_size) in
          all_zero (take (8 * most - (at + w)) (zeros r ++ behind)) zero_at ∙ ap zeros (len ∙ sym same) ∙ sym (all_zero (drop (at + w) (bits_of front)) (λ j. get_or-drop (at + w) (bits_of front) j 0 ∙ clean (at + w + j) (omega arith)))
        where
          beyond : (j : ℕ) → r ≤ j → j < 8 * most - (at + w) → get_or (zeros r ++ behind) j 0 ≡ 0
          beyond j h l =
              let e : j ≡ length (zeros r) + (j - r) = omega (arith, zeros_length r) in
              let p : 8 * i + 40 + (j - r) ≡ at + w + j = omega (arith, place) in
              ap (λ (k : ℕ). get_or (zeros r ++ behind) k 0) e ∙ get_or-append-add (zeros r) behind (j - r) 0 ∙ get_or-drop (8 * i + 40) (bits_of d) (j - r) 0 ∙ ap (λ (k : ℕ). get_or (bits_of d) k 0) p
              ∙ sym (ap (λ (l : List ℕ). get_or l (at + w + j) 0) (front_bits d size) ∙ get_or-take (8 * most) (bits_of d) (at + w + j) 0 (omega arith)) ∙ clean (at + w + j) (omega arith)

          zero_at : (j : ℕ) → get_or (take (8 * most - (at + w)) (zeros r ++ behind)) j 0 ≡ 0
          zero_at j = elim (dec_lt j (8 * most - (at + w))) [
            | yes l ↦ get_or-take (8 * most - (at + w)) (zeros r ++ behind) j 0 l ∙ elim (dec_lt j r) [
              | yes h ↦ get_or-append (zeros r) behind 0 j (omega (arith, zeros_length r)) ∙ get_or-replicate r j 0 0 h
              | no h ↦ beyond j (omega arith) l
            ]
            | no l ↦ get_or-eq_default (take (8 * most - (at + w)) (zeros r ++ behind)) 0 (omega (arith, length-take (8 * most - (at + w)) (zeros r ++ behind)))
          ]

      straight_inside : (held : n < 2 ^ w) → bits_of (take most (sets d i (five (b * 2 ^ 32 + n * 2 ^ r)))) ≡ splice (bits_of front) at (to_bits w n)
      straight_inside held =
          let v = b * 2 ^ 32 + n * 2 ^ r in
          let new = to_bits w n in
          let hi = to_bits m (b / 2 ^ (8 - m)) in
          let first = take (8 * i) (bits_of d) in
          let lw = to_bits_length w n in
          let lk : length (take at (bits_of front)) ≡ at = length-take-le at (bits_of front) (omega (arith, bits_of_length front, front_size)) in
          let shape : splice (bits_of d) (8 * i) (to_bits 40 v) ≡ (first ++ hi) ++ (new ++ (zeros r ++ behind)) =
          ap₂ (λ (l : List ℕ) (k : ℕ). first ++ (l ++ drop (8 * i + k) (bits_of d))) (window b m w n r all (omega arith) held b_clean) (to_bits_length 40 v)
          ∙ simp append_assoc
          in
          let e₁ : 8 * most ≡ length (take at (bits_of front)) + (8 * most - at) = omega arith in
          let e₂ : 8 * most - at ≡ length new + (8 * most - (at + w)) = omega arith in
          let e₃ : at + w ≡ at + length new = omega arith in
          front_bits (sets d i (five v)) (length-sets d i (five v) ∙ size)
          ∙ ap (take (8 * most)) (bytes_over d i (five v) (omega arith) ∙ ap (splice (bits_of d) (8 * i)) (five_bits v) ∙ shape ∙ ap (λ (l : List ℕ). l ++ (new ++ (zeros r ++ behind))) kept)
          ∙ ap (λ (k : ℕ). take k (take at (bits_of front) ++ (new ++ (zeros r ++ behind)))) e₁
          ∙ take-append-add (take at (bits_of front)) (new ++ (zeros r ++ behind)) (8 * most - at)
          ∙ ap (λ (l : List ℕ). take at (bits_of front) ++ l)
          (ap (λ (k : ℕ). take k (new ++ (zeros r ++ behind))) e₂
          ∙ take-append-add new (zeros r ++ behind) (8 * most - (at + w))
          ∙ ap (λ (l : List ℕ). new ++ l) (rest ∙ ap (λ (k : ℕ). drop k (bits_of front)) e₃))

      -- the byte of the place, with the first of the new bits
      abbrev new : ℕ
      new = n * 2 ^ r

      sum_is : (held : n < 2 ^ w) → b < 256 → five (b * 2 ^ 32 + new) ≡ (b + new / 2 ^ 32) ∷ new / 2 ^ 24 % 256 ∷ new / 2 ^ 16 % 256 ∷ new / 2 ^ 8 % 256 ∷ new % 256 ∷ []
      sum_is held byte =
          let small : b * 2 ^ 32 + new < 2 ^ 40 = window_fits b m w n r all (omega arith) held b_clean byte in
          let a₀ : (b * 2 ^ 32 + new) / 2 ^ 32 % 256 ≡ b + new / 2 ^ 32 = omega arith in
          let a₁ : (b * 2 ^ 32 + new) / 2 ^ 24 % 256 ≡ new / 2 ^ 24 % 256 = omega arith in
          let a₂ : (b * 2 ^ 32 + new) / 2 ^ 16 % 256 ≡ new / 2 ^ 16 % 256 = omega arith in
          let a₃ : (b * 2 ^ 32 + new) / 2 ^ 8 % 256 ≡ new / 2 ^ 8 % 256 = omega arith in
          let a₄ : (b * 2 ^ 32 + new) % 256 ≡ new % 256 = omega arith in
          rw (a₀, a₁, a₂, a₃, a₄) refl

      pub straight : (held : n < 2 ^ w) → b < 256 → bits_of (take most (five_stored d i (b + new / 2 ^ 32) new)) ≡ splice (bits_of front) at (to_bits w n)
      straight held byte =
          ap (λ (l : List ℕ). bits_of (take most l)) (last_first d i _ _ _ _ _ ∙ ap (sets d i) (sym (sum_is held byte))) ∙ straight_inside held

    -- the new bits and the byte fit
    module _ (narrow : m + w ≤ 40) (held : n < 2 ^ w) where
      pub straight_shift : (n * 2 ^ (40 - w - m)) % 2 ^ 64 ≡ n * 2 ^ (40 - w - m)
      straight_shift = shl_exact w (40 - w - m) 64 held (omega arith)

      pub straight_fits : b < 256 → b + n * 2 ^ (40 - w - m) / 2 ^ 32 < 256
      straight_fits byte = omega (arith, window_fits b m w n (40 - w - m) (omega arith) (omega arith) held b_clean byte)
