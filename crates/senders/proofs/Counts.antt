-- Laws of the counts of a sender, and of the row that they make. Assumes nothing.
use Rattle.std.proofs.Common.{◌≡◌, ℕ, zero, suc, ◌+◌, ◌*◌, ◌%◌, ◌^◌, ◌<◌, ◌≤◌, List, [], ◌∷◌, length, pos, ◌-ℤ◌, ap, ◌∙◌, ap₂, arith, le-ltb, lt-ltb}
use native.Mathlib.Decide.{dec_lt}
use Rattle.basics.specs.Rings.{around}
use Rattle.loss.specs.Ring.{Loss, ring_formula}
use Rattle.loss.proofs.Theorems.{counts_in_range, new_count_after_the_missed, missed_below_128}
use Rattle.senders.specs.Table.{counted, most_received}
use Rattle.senders.specs.History.{first_count, losses, row_of}

-- counts are 0 to 127
abbrev pub Small : List ℕ → Type 0
Small [] = Unit {0}
Small (count ∷ more) = (count ≤ 127) × Small more

-- each report misses at most 127
pub losses_bound : (latest : ℕ) (earlier : List ℕ) → Small earlier → losses latest earlier ≤ 127 * length earlier
unfolding losses
losses_bound latest [] h = omega arith
losses_bound latest (one ∷ earlier) h = omega (arith, losses_bound one earlier h.1, missed_below_128 one latest h.0)

-- the latest count stands as many places behind the first one as messages were sent since
places_on : (latest : ℕ) (earlier : List ℕ) → latest ≤ 127 → Small earlier → (first_count latest earlier + (length earlier + losses latest earlier)) % 128 ≡ latest
unfolding first_count losses
places_on latest [] k h = omega arith
places_on latest (one ∷ earlier) k h = omega (arith, places_on one earlier h.0 h.1, new_count_after_the_missed one latest h.0 k)

first_small : (latest : ℕ) (earlier : List ℕ) → latest ≤ 127 → Small earlier → first_count latest earlier ≤ 127
unfolding first_count
first_small latest [] k h = k
first_small latest (one ∷ earlier) k h = first_small one earlier h.0 h.1

difference_around : (n last first : ℕ) → first ≤ 127 → last ≤ 127 → (first + n) % 128 ≡ last → n % 128 ≡ around 128 (pos last -ℤ pos first)
difference_around n last zero h k e = omega arith
difference_around n last (suc f) h k e = elim (dec_lt last (suc f)) [
  | yes l ↦ rw (lt-ltb last (suc f) l) (omega arith)
  | no l ↦ rw (le-ltb last (suc f) (omega arith)) (omega arith)
]

-- "received minus 1 plus missed agrees with last minus first round the ring of 128"
pub ring_agrees :
    (latest : ℕ) (earlier : List ℕ) → latest ≤ 127 → Small earlier
    → (length earlier + losses latest earlier) % 128 ≡ around 128 (pos latest -ℤ pos (first_count latest earlier))
ring_agrees latest earlier k h =
    difference_around (length earlier + losses latest earlier) latest (first_count latest earlier) (first_small latest earlier k h) k (places_on latest earlier k h)

-- what is missed stays far from the end of 64 bits
pub plain_sum : (a b : ℕ) → a ≤ 127 * most_received → b ≤ 127 → (a + b) % 2 ^ 64 ≡ a + b
plain_sum a b p q = omega arith

-- one report more of a sender is one count more
pub counted_more :
    (kind : ℕ) (id : List ℕ) (latest : ℕ) (earlier : List ℕ) (count : ℕ) → latest ≤ 127 → Small earlier → count ≤ 127 → length earlier < most_received
    → counted (row_of kind id (latest ∷ earlier)) count ≡ row_of kind id (count ∷ latest ∷ earlier)
unfolding first_count losses
counted_more kind id latest earlier count k h m n =
    ap₂ (λ (received missed : ℕ). record { id = id; kind = kind; first = first_count latest earlier; last = count; received = received; missed = missed })
    (omega arith)
    (ap (λ (l : Loss). (losses latest earlier + l.missed) % 2 ^ 64) (counts_in_range latest count k m)
    ∙ plain_sum (losses latest earlier) (ring_formula latest count) (omega (arith, losses_bound latest earlier h)) (missed_below_128 latest count k))
