-- The numbers of the extension parts: their bits lead through their tree to the number, and no other bits do.
-- Assumes nothing.
use Prim.Native.Nat.{ℕ, zero, suc, ◌+◌, ◌-◌, ◌*◌, ◌/◌, ◌%◌, ◌≤◌, ◌<◌, ◌^◌}
use mathlib.Core.Path.{◌≡◌, refl, sym, ap, ap₂, ◌∙◌}
use mathlib.Core.Bool.{Bool, true, false, cond}
use mathlib.Core.List.{List, [], ◌∷◌, ◌++◌, append-nil, append_assoc}
use native.Mathlib.Omega.{arith}
use borrow.Author.Tests.{lt-ltb, le-ltb, le-leb, lt-leb, leb-true, leb-false, ltb-true, ltb-false, eqb-true}
use lib.Dec.{T, leb, ltb, eqb, ltb→lt, lt→ltb, leb→le}
use Rattle.bits.specs.Numbers.{to_bits, Binary}
use Rattle.bits.proofs.Numbers.{to_bits_add, to_bits_low}
use Rattle.meaning.specs.Coded.{Tree, found, wrong, ask, from, length_then, index_octets, Coded, an_index, a_count, an_extent, long_count, tree, holds, length_bits, coded}

-- bits lead through a tree to a number, and end there
abbrev pub Leads : Tree → List ℕ → ℕ → Type 0
Leads (found m) bs n = (bs ≡ []) × (m ≡ n)
Leads wrong bs n = ⊥
Leads (ask w k) bs n = (b : ℕ) × (rest : List ℕ) × (b < 2 ^ w) × (bs ≡ to_bits w b ++ rest) × Leads (k b) rest n

two_bytes : (b c : ℕ) → c < 256 → to_bits 16 (b * 256 + c) ≡ to_bits 8 b ++ to_bits 8 c
two_bytes b c h =
    let d : (b * 256 + c) / 256 ≡ b = omega arith in
    to_bits_add 8 8 (b * 256 + c) ∙ ap₂ (λ (x y : List ℕ). x ++ y) (ap (to_bits 8) d) (to_bits_low 8 b c)

-- ---- a length, and what follows it

pub record Measured (least : ℕ) (k : ℕ → Tree) (bs : List ℕ) (n : ℕ) : Type 0 where
  pub size : ℕ
  pub rest : List ℕ
  pub enough : least ≤ size
  pub small : size < 16384
  pub split : bs ≡ length_bits size ++ rest
  pub on : Leads (k size) rest n

pub length_leads : (least : ℕ) (k : ℕ → Tree) (size : ℕ) (rest : List ℕ) (n : ℕ) → least ≤ size → size < 16384 → Leads (k size) rest n → Leads (length_then least k) (length_bits size ++ rest) n
unfolding length_then length_bits
length_leads least k size rest n h s l = go (ltb size 128) refl
  where
    go : (b : Bool) → ltb size 128 ≡ b → Leads (length_then least k) (length_bits size ++ rest) n
    go true e =
        let u : size < 128 = ltb-true size 128 e in
        (size, rest, omega arith, rw e refl, rw (e, le-leb least size h) l)
    go false e =
        let u : 128 ≤ size = ltb-false size 128 e in
        let b : ℕ = 128 + size / 256 in
        let c : ℕ = size % 256 in
        let all : 32768 + size ≡ b * 256 + c = omega arith in
        let back : (b - 128) * 256 + c ≡ size = omega arith in
        let p : to_bits 16 (32768 + size) ++ rest ≡ to_bits 8 b ++ (to_bits 8 c ++ rest) = rw (all, two_bytes b c (omega arith), append_assoc) refl in
        (b, to_bits 8 c ++ rest, omega arith, rw (e, lt-ltb size 16384 s) p, rw (le-ltb b 128 (omega arith), lt-ltb b 192 (omega arith)) (c, rest, omega arith, refl, rw (back, le-leb 128 size u) l))

pub length_led : (least : ℕ) (k : ℕ → Tree) (bs : List ℕ) (n : ℕ) → least ≤ 128 → Leads (length_then least k) bs n → Measured least k bs n
unfolding length_then length_bits
length_led least k bs n h (b, rest, small, split, on) = go (ltb b 128) refl on
  where
    long : (c : ℕ) (tail : List ℕ) → 128 ≤ b → b < 192 → c < 256 → rest ≡ to_bits 8 c ++ tail → (t : Bool) → leb 128 ((b - 128) * 256 + c) ≡ t → Leads (cond t (k ((b - 128) * 256 + c)) wrong) tail n → Measured least k bs n
    long c tail lo hi cs r true e l =
        let size : ℕ = (b - 128) * 256 + c in
        let u : 128 ≤ size = leb-true 128 size e in
        let v : size < 16384 = omega arith in
        let all : 32768 + size ≡ b * 256 + c = omega arith in
        let p : bs ≡ to_bits 16 (32768 + size) ++ tail = rw (all, two_bytes b c cs, append_assoc) (split ∙ ap (λ (l : List ℕ). to_bits 8 b ++ l) r) in
        record { size = size; rest = tail; enough = omega arith; small = v; split = rw (le-ltb size 128 u, lt-ltb size 16384 v) p; on = l }
    long c tail lo hi cs r false e l = absurd l

    middle : 128 ≤ b → (t : Bool) → ltb b 192 ≡ t → Leads (cond t (ask 8 (λ c. cond (leb 128 ((b - 128) * 256 + c)) (k ((b - 128) * 256 + c)) wrong)) wrong) rest n → Measured least k bs n
    middle lo true e (c, tail, cs, r, l) = long c tail lo (ltb-true b 192 e) cs r (leb 128 ((b - 128) * 256 + c)) refl l
    middle lo false e l = absurd l

    low : b < 128 → (t : Bool) → leb least b ≡ t → Leads (cond t (k b) wrong) rest n → Measured least k bs n
    low u true e l = record { size = b; rest = rest; enough = leb-true least b e; small = omega arith; split = rw (lt-ltb b 128 u) split; on = l }
    low u false e l = absurd l

    go : (t : Bool) → ltb b 128 ≡ t → Leads (cond t (cond (leb least b) (k b) wrong) (cond (ltb b 192) (ask 8 (λ c. cond (leb 128 ((b - 128) * 256 + c)) (k ((b - 128) * 256 + c)) wrong)) wrong)) rest n → Measured least k bs n
    go true e l = low (ltb-true b 128 e) (leb least b) refl l
    go false e l = middle (ltb-false b 128 e) (ltb b 192) refl l

-- ---- the three numbers

zero_bit : (l : List ℕ) → 0 ∷ l ≡ to_bits 1 0 ++ l
unfolding to_bits
zero_bit l = refl

one_bit : (l : List ℕ) → 1 ∷ l ≡ to_bits 1 1 ++ l
unfolding to_bits
one_bit l = refl

one_octet : (l : List ℕ) → to_bits 8 1 ++ l ≡ length_bits 1 ++ l
unfolding length_bits
one_octet l = refl

two_octets : (l : List ℕ) → to_bits 8 2 ++ l ≡ length_bits 2 ++ l
unfolding length_bits
two_octets l = refl

between : (n : ℕ) → T (cond (leb 1 n) (ltb n 16384) false) → (1 ≤ n) × (n < 16384)
between n = go (leb 1 n) refl
  where
    go : (b : Bool) → leb 1 n ≡ b → T (cond b (ltb n 16384) false) → (1 ≤ n) × (n < 16384)
    go true e t = (leb-true 1 n e, ltb→lt n 16384 t)
    go false e t = absurd t

pub between_holds : (n : ℕ) → 1 ≤ n → n < 16384 → T (cond (leb 1 n) (ltb n 16384) false)
between_holds n h k = rw (le-leb 1 n h, lt-ltb n 16384 k) tt

pub extent_leads : (n : ℕ) → 1 ≤ n → n < 16384 → Leads (tree an_extent) (length_bits n) n
unfolding tree
extent_leads n h k = rw (append-nil) at (length_leads 1 found n [] n h k (refl, refl))

octets_lead : (k n : ℕ) → n < 2 ^ (8 * k) → T (cond (eqb k 1) (leb 64 n) (cond (eqb k 2) (leb 256 n) false)) → Leads (index_octets k) (to_bits (8 * k) n) n
unfolding index_octets
octets_lead k n h t = (n, [], h, sym (append-nil (to_bits (8 * k) n)), go (eqb k 1) (eqb k 2) t)
  where
    pick : (b : Bool) → T b → Leads (cond b (found n) wrong) [] n
    pick true t = (refl, refl)
    pick false t = absurd t

    go : (a b : Bool) → T (cond a (leb 64 n) (cond b (leb 256 n) false)) → Leads (cond a (from 64 n) (cond b (from 256 n) wrong)) [] n
    go true b t = pick (leb 64 n) t
    go false true t = pick (leb 256 n) t
    go false false t = absurd t

index_leads : (n : ℕ) → n < 65536 → Leads (tree an_index) (coded an_index n) n
unfolding tree coded
index_leads n h = go (ltb n 64) refl (ltb n 256) refl
  where
    go : (a : Bool) → ltb n 64 ≡ a → (b : Bool) → ltb n 256 ≡ b
        → Leads (ask 1 (λ f. cond (eqb f 0) (ask 6 found) (length_then 1 index_octets))) (cond a (0 ∷ to_bits 6 n) (cond b (1 ∷ to_bits 8 1 ++ to_bits 8 n) (1 ∷ to_bits 8 2 ++ to_bits 16 n))) n
    go true e b e' = (0, to_bits 6 n, omega arith, zero_bit (to_bits 6 n), (n, [], ltb-true n 64 e, sym (append-nil (to_bits 6 n)), (refl, refl)))
    go false e true e' = (
      1,
      length_bits 1 ++ to_bits 8 n,
      omega arith,
      one_bit (to_bits 8 1 ++ to_bits 8 n) ∙ ap (λ (l : List ℕ). to_bits 1 1 ++ l) (one_octet (to_bits 8 n)),
      length_leads 1 index_octets 1 (to_bits 8 n) n (omega arith) (omega arith) (octets_lead 1 n (ltb-true n 256 e') (rw (le-leb 64 n (ltb-false n 64 e)) tt)),
    )
    go false e false e' = (
      1,
      length_bits 2 ++ to_bits 16 n,
      omega arith,
      one_bit (to_bits 8 2 ++ to_bits 16 n) ∙ ap (λ (l : List ℕ). to_bits 1 1 ++ l) (two_octets (to_bits 16 n)),
      length_leads 1 index_octets 2 (to_bits 16 n) n (omega arith) (omega arith) (octets_lead 2 n h (rw (le-leb 256 n (ltb-false n 256 e')) tt)),
    )

count_leads : (n : ℕ) → 1 ≤ n → n < 16384 → Leads (tree a_count) (coded a_count n) n
unfolding tree coded
count_leads n h k = go (leb n 64) refl
  where
    go : (a : Bool) → leb n 64 ≡ a → Leads (ask 1 (λ f. cond (eqb f 0) (ask 6 (λ m. found (m + 1))) (length_then long_count found))) (cond a (0 ∷ to_bits 6 (n - 1)) (1 ∷ length_bits n)) n
    go true e = let u : n ≤ 64 = leb-true n 64 e in (0, to_bits 6 (n - 1), omega arith, zero_bit (to_bits 6 (n - 1)), (n - 1, [], omega arith, sym (append-nil (to_bits 6 (n - 1))), (refl, omega arith)))
    go false e = let u : 64 < n = leb-false n 64 e in (1, length_bits n, omega arith, one_bit (length_bits n), (rw (append-nil) at (length_leads long_count found n [] n (omega arith) k (refl, refl))))

-- a number's bits lead to it
pub leads : (c : Coded) (n : ℕ) → T (holds c n) → Leads (tree c) (coded c n) n
unfolding holds coded
leads an_index n h = index_leads n (ltb→lt n 65536 h)
leads a_count n h = let b = between n h in count_leads n b.0 b.1
leads an_extent n h = let b = between n h in extent_leads n b.0 b.1

-- ---- and no other bits do

pub record Led (c : Coded) (bs : List ℕ) (n : ℕ) : Type 0 where
  pub held : T (holds c n)
  pub is : bs ≡ coded c n

pub record Extent (bs : List ℕ) (n : ℕ) : Type 0 where
  pub least : 1 ≤ n
  pub most : n < 16384
  pub is : bs ≡ length_bits n

pub extent_led : (bs : List ℕ) (n : ℕ) → Leads (tree an_extent) bs n → Extent bs n
unfolding tree
extent_led bs n l =
    let m : Measured 1 found bs n = length_led 1 found bs n (omega arith) l in
    let (e, s) = m.on in
    record { least = omega arith; most = omega arith; is = m.split ∙ ap₂ (λ (k : ℕ) (r : List ℕ). length_bits k ++ r) s e ∙ append-nil (length_bits n) }

octets_led : (k : ℕ) (bs : List ℕ) (n : ℕ) → Leads (index_octets k) bs n → (n < 2 ^ (8 * k)) × (bs ≡ to_bits (8 * k) n) × T (cond (eqb k 1) (leb 64 n) (cond (eqb k 2) (leb 256 n) false))
unfolding index_octets
octets_led k bs n (v, rest, small, split, on) = go (eqb k 1) (eqb k 2) on
  where
    pick : (b : Bool) → Leads (cond b (found v) wrong) rest n → (n < 2 ^ (8 * k)) × (bs ≡ to_bits (8 * k) n) × T b × (v ≡ n)
    pick true (e, s) = (rw s at small, split ∙ ap₂ (λ (m : ℕ) (r : List ℕ). to_bits (8 * k) m ++ r) s e ∙ append-nil (to_bits (8 * k) n), tt, s)
    pick false l = absurd l

    go : (a b : Bool) → Leads (cond a (from 64 v) (cond b (from 256 v) wrong)) rest n → (n < 2 ^ (8 * k)) × (bs ≡ to_bits (8 * k) n) × T (cond a (leb 64 n) (cond b (leb 256 n) false))
    go true b l = let p = pick (leb 64 v) l in (p.0, p.1, rw p.3 at p.2)
    go false true l = let p = pick (leb 256 v) l in (p.0, p.1, rw p.3 at p.2)
    go false false l = absurd l

index_led : (bs : List ℕ) (n : ℕ) → Leads (tree an_index) bs n → Led an_index bs n
unfolding tree holds coded
index_led bs n (f, rest, fs, split, on) = go f fs split on
  where
    long : (k : ℕ) (tail : List ℕ) → bs ≡ 1 ∷ length_bits k ++ tail → n < 2 ^ (8 * k) → tail ≡ to_bits (8 * k) n → (a : Bool) → eqb k 1 ≡ a → (b : Bool) → eqb k 2 ≡ b → T (cond a (leb 64 n) (cond b (leb 256 n) false)) → Led an_index bs n
    long k tail s small t true e b e' h =
        let one : k ≡ 1 = eqb-true k 1 e in
        let u : 64 ≤ n = leb→le 64 n h in
        let v : n < 256 = rw one at small in
        record {
          held = lt→ltb n 65536 (omega arith);
          is = rw (le-ltb n 64 u, lt-ltb n 256 v) (s ∙ ap (λ (r : List ℕ). 1 ∷ length_bits k ++ r) t ∙ ap (λ (m : ℕ). 1 ∷ length_bits m ++ to_bits (8 * m) n) one ∙ ap (λ (r : List ℕ). 1 ∷ r) (sym (one_octet (to_bits 8 n))));
        }
    long k tail s small t false e true e' h =
        let two : k ≡ 2 = eqb-true k 2 e' in
        let u : 256 ≤ n = leb→le 256 n h in
        let v : n < 65536 = rw two at small in
        record {
          held = lt→ltb n 65536 v;
          is = rw (le-ltb n 64 (omega arith), le-ltb n 256 u) (s ∙ ap (λ (r : List ℕ). 1 ∷ length_bits k ++ r) t ∙ ap (λ (m : ℕ). 1 ∷ length_bits m ++ to_bits (8 * m) n) two ∙ ap (λ (r : List ℕ). 1 ∷ r) (sym (two_octets (to_bits 16 n))));
        }
    long k tail s small t false e false e' h = absurd h

    go : (f : ℕ) → f < 2 → bs ≡ to_bits 1 f ++ rest → Leads (cond (eqb f 0) (ask 6 found) (length_then 1 index_octets)) rest n → Led an_index bs n
    go zero fs s (m, tail, ms, t, (e, p)) =
        let u : n < 64 = omega arith in
        record {
          held = lt→ltb n 65536 (omega arith);
          is = rw (lt-ltb n 64 u) (s ∙ sym (zero_bit rest) ∙ ap (λ (l : List ℕ). 0 ∷ l) (t ∙ ap₂ (λ (k : ℕ) (l : List ℕ). to_bits 6 k ++ l) p e ∙ append-nil (to_bits 6 n)));
        }
    go (suc zero) fs s l =
        let m : Measured 1 index_octets rest n = length_led 1 index_octets rest n (omega arith) l in
        let o = octets_led m.size m.rest n m.on in
        long m.size m.rest (s ∙ sym (one_bit rest) ∙ ap (λ (l : List ℕ). 1 ∷ l) m.split) o.0 o.1 (eqb m.size 1) refl (eqb m.size 2) refl o.2
    go (suc (suc f)) fs s l = absurd (omega arith)

count_led : (bs : List ℕ) (n : ℕ) → Leads (tree a_count) bs n → Led a_count bs n
unfolding tree holds coded
count_led bs n (f, rest, fs, split, on) = go f fs split on
  where
    go : (f : ℕ) → f < 2 → bs ≡ to_bits 1 f ++ rest → Leads (cond (eqb f 0) (ask 6 (λ m. found (m + 1))) (length_then long_count found)) rest n → Led a_count bs n
    go zero fs s (m, tail, ms, t, (e, p)) =
        let u : n ≤ 64 = omega arith in
        let q : m ≡ n - 1 = omega arith in
        record {
          held = between_holds n (omega arith) (omega arith);
          is = rw (le-leb n 64 u) (s ∙ sym (zero_bit rest) ∙ ap (λ (l : List ℕ). 0 ∷ l) (t ∙ ap₂ (λ (k : ℕ) (l : List ℕ). to_bits 6 k ++ l) q e ∙ append-nil (to_bits 6 (n - 1))));
        }
    go (suc zero) fs s l =
        let m : Measured long_count found rest n = length_led long_count found rest n (omega arith) l in
        let (e, p) = m.on in
        let u : 64 < n = omega arith in
        record {
          held = between_holds n (omega arith) (omega arith);
          is = rw (lt-leb n 64 u) (s ∙ sym (one_bit rest) ∙ ap (λ (l : List ℕ). 1 ∷ l) (m.split ∙ ap₂ (λ (k : ℕ) (r : List ℕ). length_bits k ++ r) p e ∙ append-nil (length_bits n)));
        }
    go (suc (suc f)) fs s l = absurd (omega arith)

pub led : (c : Coded) (bs : List ℕ) (n : ℕ) → Leads (tree c) bs n → Led c bs n
unfolding holds coded
led an_index bs n l = index_led bs n l
led a_count bs n l = count_led bs n l
led an_extent bs n l = let e = extent_led bs n l in record { held = between_holds n e.least e.most; is = e.is }

-- a length that no two bytes hold has no bits
pub length_small : (n : ℕ) → Binary (length_bits n) → n < 16384
unfolding length_bits
length_small n = go (ltb n 128) refl (ltb n 16384) refl
  where
    go : (a : Bool) → ltb n 128 ≡ a → (b : Bool) → ltb n 16384 ≡ b → Binary (cond a (to_bits 8 n) (cond b (to_bits 16 (32768 + n)) (2 ∷ []))) → n < 16384
    go true e b e' h = let u : n < 128 = ltb-true n 128 e in omega arith
    go false e true e' h = ltb-true n 16384 e'
    go false e false e' h = absurd (omega (arith, h.0))
