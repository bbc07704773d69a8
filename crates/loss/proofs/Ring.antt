-- The ring formula as a remainder of a sum, which needs no number below zero. Assumes nothing.
use Rattle.std.proofs.Common.{◌≡◌, ℕ, zero, suc, ◌+◌, ◌-◌, ◌*◌, ◌%◌, ◌≤◌, ℤ, pos, negsuc, ◌+ℤ◌, ◌-ℤ◌, neg_ℤ, refl, ap, ◌∙◌, arith, le-leb}
use native.Mathlib.Nat.{add-mul-mod_self_right}
use lib.IntN.{+ℤ_assoc}
use Rattle.basics.specs.Rings.{around}
use Rattle.basics.proofs.Rings.{around_difference}
use Rattle.loss.specs.Ring.{ring_formula, missed_between, counted}

-- minus b minus 1 is minus (b + 1)
one_less : (b : ℕ) → neg_ℤ (pos b) -ℤ pos 1 ≡ negsuc b
one_less zero = refl
one_less (suc b) = ap negsuc (omega arith)

-- the ring formula: the new count, and the way from the old one to the ring's end
pub as_a_sum : (old new : ℕ) → old ≤ 127 → ring_formula old new ≡ (new + (127 - old)) % 128
unfolding ring_formula
as_a_sum old new h =
    let up : new + suc old * 127 ≡ new + (127 - old) + old * 128 = omega arith in
    ap (around 128) (+ℤ_assoc (pos new) (neg_ℤ (pos old)) (negsuc 0) ∙ ap (λ (z : ℤ). pos new +ℤ z) (one_less old))
    ∙ around_difference 127 new (suc old)
    ∙ ap (λ (n : ℕ). n % 128) up
    ∙ add-mul-mod_self_right (new + (127 - old)) old 128

-- two subtractions that wrap at 256, then the remainder by 128
pub by_bytes :
    {old new apart : ℕ} (between : ℕ) → old ≤ 127 → new ≤ 127 → (apart + old) % 256 ≡ new → (between + 1) % 256 ≡ apart
    → between % 128 ≡ ring_formula old new
by_bytes {old} {new} between h k d e = rw (as_a_sum old new h) (omega arith)

-- the same of the terms that the code's subtractions are
pub by_terms : (old new : ℕ) → old ≤ 127 → new ≤ 127 → counted (((new + (256 - old)) % 256 + 255) % 256 % 128) ≡ missed_between old new
unfolding missed_between
by_terms old new h k = rw (le-leb old 127 h, le-leb new 127 k) (ap counted (by_bytes {apart = (new + (256 - old)) % 256} _ h k (omega arith) (omega arith)))
