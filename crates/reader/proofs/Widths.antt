-- The widths of the table's fields, as one number whose bit w says whether some field is w bits wide.
-- Assumes nothing.
use Prim.Native.Nat.{ℕ, zero, suc, ◌/◌, ◌%◌, ◌<◌, ◌≤◌, ◌^◌}
use mathlib.Core.Bool.{Bool, true, false, cond}
use mathlib.Core.List.{List, [], ◌∷◌}
use mathlib.Core.Path.{◌≡◌, refl, sym, subst}
use native.Mathlib.Decide.{dec_le}
use native.Mathlib.Omega.{arith}
use borrow.Author.Tests.{ne_eqb}
use lib.Dec.{T, eqb, leb, leb→le}
use Rattle.bits.specs.Numbers.{halvings}
use Rattle.types.specs.Rows.{rows}
use Rattle.meaning.specs.Fields.{field_widths, widths, member, held_width}

abbrev mask : ℕ
mask = 6464864254

-- ---- no field is wider than 32 bits

abbrev both : Bool → Bool → Bool
both true b = b
both false b = false

-- every number of a list is at most n
unfoldable all_up_to : ℕ → List ℕ → Bool
all_up_to n [] = true
all_up_to n (m ∷ ms) = both (leb m n) (all_up_to n ms)

not_member : (w n : ℕ) (ms : List ℕ) → T (all_up_to n ms) → n < w → false ≡ member w ms
unfolding all_up_to member
not_member w n [] t h = refl
not_member w n (m ∷ ms) t h = go (leb m n) refl t (not_member w n ms)
  where
    go : (b : Bool) → leb m n ≡ b → T (both b (all_up_to n ms)) → (T (all_up_to n ms) → n < w → false ≡ member w ms) → false ≡ cond (eqb w m) true (member w ms)
    go true e u rest =
        let le : m ≤ n = leb→le m n (subst T (sym e) tt) in
        rw (ne_eqb w m (λ p. omega arith)) (rest u h)
    go false e u rest = absurd u

up_to_32 : T (all_up_to 32 (widths rows))
unfolding all_up_to rows widths field_widths halvings
up_to_32 = tt

pub none_wider : (w : ℕ) → 32 < w → false ≡ held_width w
none_wider w h = not_member w 32 (widths rows) up_to_32 h

-- ---- and up to 32 the number says it, computed for each width

abbrev same : Bool → Bool → Bool
same true b = b
same false true = false
same false false = true

same_is : (a b : Bool) → T (same a b) → a ≡ b
same_is true true t = refl
same_is true false t = absurd t
same_is false true t = absurd t
same_is false false t = refl

unfoldable agree : ℕ → Bool
agree w = same (eqb (mask / 2 ^ w % 2) 1) (held_width w)

unfoldable agree_up_to : ℕ → Bool
agree_up_to zero = agree 0
agree_up_to (suc n) = both (agree (suc n)) (agree_up_to n)

first : (a b : Bool) → T (both a b) → T a
first true b t = tt
first false b t = t

rest : (a b : Bool) → T (both a b) → T b
rest true b t = t
rest false b t = absurd t

agree_at : (n w : ℕ) → T (agree_up_to n) → w ≤ n → T (agree w)
unfolding agree_up_to
agree_at zero w t h = let e : 0 ≡ w = omega arith in subst (λ (k : ℕ). T (agree k)) e t
agree_at (suc n) w t h = go (dec_le w n) (agree_at n w (rest (agree (suc n)) (agree_up_to n) t))
  where
    go : Dec (w ≤ n) → (w ≤ n → T (agree w)) → T (agree w)
    go (yes l) below = below l
    go (no l) below = let e : suc n ≡ w = omega arith in subst (λ (k : ℕ). T (agree k)) e (first (agree (suc n)) (agree_up_to n) t)

all_agree : T (agree_up_to 32)
unfolding agree agree_up_to rows widths field_widths member halvings
all_agree = tt

pub held_up_to : (w : ℕ) → w ≤ 32 → eqb (6464864254 / 2 ^ w % 2) 1 ≡ held_width w
unfolding agree
held_up_to w h = same_is (eqb (mask / 2 ^ w % 2) 1) (held_width w) (agree_at 32 w all_agree h)
