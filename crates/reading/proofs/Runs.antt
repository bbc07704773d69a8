-- Numbers of one range, one behind the other: one by one, and four at a time where every code of their bits is in its range.
-- Assumes nothing.
use Prim.Native.Nat.{ℕ, zero, suc, ◌+◌, ◌-◌, ◌*◌, ◌/◌, ◌%◌, ◌<◌, ◌≤◌, ◌^◌}
use mathlib.Core.List.{List, [], ◌∷◌}
use mathlib.Core.Path.{◌≡◌, refl, sym, ap, ◌∙◌}
use native.Mathlib.Nat.{mod-lt, mul-le-mul_left, mul-le-mul_right, suc-mul, zero-mul}
use native.Mathlib.Omega.{arith}
use lib.Pow.{pow_pos, pow_mono}
use lib.IntN.{ℤ, pos, ◌+ℤ◌}
use lib.ListN.{length, set, take, length-set}
use Rattle.bits.specs.Numbers.{width}
use Rattle.bits.specs.Bytes.{bits_of}
use Rattle.bits.specs.Fetching.{code}
use Rattle.bits.proofs.Bytes.{bits_of_length, bits_of_binary, code_lt, code_within}
use Rattle.types.specs.Shape.{field}
use Rattle.types.specs.Shape.Ty.{num}
use Rattle.types.specs.Table.{lowest_of}
use Rattle.meaning.specs.Values.{Value}
use Rattle.meaning.specs.Steps.{Step, ok}
use Rattle.meaning.specs.Walk.{times, walk}
use Rattle.meaning.specs.Reading.{Source, free, read_whole, reader}
use Rattle.meaning.proofs.Sides.{whole_read}
use Rattle.walking.specs.Went.Went.{On}
use Rattle.walking.specs.Packed.{farthest}
use Rattle.walking.specs.Walked.{Walked, silent}
use Rattle.walking.proofs.Laws.{then, unheard, times_step}
use Rattle.walking.proofs.Rows.{walk_number}
use Rattle.reading.specs.Given.{message_in, Placed, Counted, Onward, Grouped}
use Rattle.reading.specs.Taken.{value_in, four_in}
use Rattle.reading.proofs.Leaves.{message_code, message_left}
use Rattle.reading.proofs.Steps.{filled_one, filled_walk}

-- ---- groups

-- one group more
pub group : (i x : ℕ) → (i + 1) * x ≡ i * x + x
group i x = let e : i + 1 ≡ suc i = omega arith in ap (λ (j : ℕ). j * x) e ∙ suc-mul i x

pub group_within : (i n x : ℕ) → i < n → i * x + x ≤ n * x
group_within i n x h = omega (arith, group i x, mul-le-mul_right {m = i + 1} {n = n} x (omega arith))

pub groups_small : (k w : ℕ) → w ≤ 8 → k * (4 * w) ≤ k * 32
groups_small k w h = mul-le-mul_left k (omega arith)

-- a code of at most eight bits
pub byte_small : (x w : ℕ) → w ≤ 8 → x % 2 ^ w < 256
byte_small x w h = let m : 2 ^ w ≤ 2 ^ 8 = pow_mono {i = w} {j = 8} h in omega (arith, mod-lt x (pow_pos w))

-- ---- numbers whose range takes in every code

module _ (b : List ℕ) (total low span w : ℕ) (ew : w ≡ width span) (full : span + 1 ≡ 2 ^ w) where
  abbrev f : Step Source ℤ Value
  f = walk (num (field (lowest_of low) span)) reader

  abbrev src : Source
  src = message_in b total

  -- one number, in its cell
  one : (n' : ℕ) {n q q' c c' : ℕ} {s s' : List ℤ} → n ≡ n' + 1 → q' ≡ q + w → c' ≡ c + 1 → (v : ℤ) → s' ≡ set s c v → v ≡ lowest_of low +ℤ pos (code (bits_of b) q w) → Placed b total q → q' ≤ total → c < length s → length s ≤ farthest
      → Onward total (times n' f src q') s' c' (times n f src q) s c
  one n' {n} {q} {q'} {c} {c'} {s} {s'} en eq ec v es ev P fits room short r after u =
      let k = code (bits_of b) q w in
      let small : k ≤ span = omega (arith, code_lt (bits_of b) (bits_of_binary b) q w w (omega arith)) in
      let is : read_whole (field (lowest_of low) span) src q ≡ ok k ((lowest_of low +ℤ pos k) ∷ []) q' =
      whole_read (take total (bits_of b)) free (field (lowest_of low) span) q k tt (message_left P (width span) (omega arith)) (ap (code (take total (bits_of b)) q) (sym ew) ∙ sym (message_code P w (omega arith))) small
      ∙ ap (ok k ((lowest_of low +ℤ pos k) ∷ [])) (ap (λ (j : ℕ). q + j) (sym ew) ∙ sym eq)
      in
      let t : Walked silent total (read_whole (field (lowest_of low) span) src q) s c (On 0 q' c') s' =
      rw is (filled_walk silent fits k 0 tt (filled_one (record { room = short; next = omega arith }) (es ∙ ap (set s c) ev) (omega arith)))
      in
      let less : n' ≡ n - 1 = omega arith in
      rw (times_step n f src q (omega arith), walk_number reader src (field (lowest_of low) span) q) (then _ short refl (unheard _ _ t) (λ R. unheard _ _ (rw less at u)))

  -- a number among four
  among : (q : ℕ) {x : ℕ} → q + 4 * w ≤ total → total + 64 ≤ 8 * length b → x ≡ code (bits_of b) q (4 * w) → (d k e : ℕ) → d + (w + k) ≡ 4 * w → q + d ≡ e → value_in x w low k ≡ lowest_of low +ℤ pos (code (bits_of b) e w)
  among q {x} fits padded ex d k e p i =
      ap (λ (y : ℕ). lowest_of low +ℤ pos y)
      (ap (λ (y : ℕ). y / 2 ^ k % 2 ^ w) ex
      ∙ code_within (bits_of b) (bits_of_binary b) q (4 * w) d w k p (omega (arith, bits_of_length b))
      ∙ ap (λ (j : ℕ). code (bits_of b) j w) i)

  pub four_more : (n' : ℕ) {n q q' c c' x : ℕ} {s s' : List ℤ} → n ≡ n' + 4 → q' ≡ q + 4 * w → c' ≡ c + 4 → x ≡ code (bits_of b) q (4 * w) → s' ≡ four_in x w low s c → Placed b total q → q' ≤ total → c' ≤ length s → length s ≤ farthest
      → Onward total (times n' f src q') s' c' (times n f src q) s c
  four_more n' {n} {q} {q'} {c} {c'} {x} {s} {s'} en eq ec ex es P fits room short r after u =
      let a = among q (omega arith) P.padded ex in
      let v₁ = value_in x w low (3 * w) in
      let v₂ = value_in x w low (2 * w) in
      let v₃ = value_in x w low w in
      let s₁ = set s c v₁ in
      let s₂ = set s₁ (c + 1) v₂ in
      let s₃ = set s₂ (c + 2) v₃ in
      let l₁ : length s₁ ≡ length s = length-set s c v₁ in
      let l₂ : length s₂ ≡ length s = length-set s₁ (c + 1) v₂ ∙ l₁ in
      let l₃ : length s₃ ≡ length s = length-set s₂ (c + 2) v₃ ∙ l₂ in
      one (n' + 3) {q' = q + w} {c' = c + 1} (omega arith) refl refl v₁ refl (a 0 (3 * w) q (omega arith) (omega arith)) P (omega arith) (omega arith) short r after
      (one (n' + 2) {q' = q + 2 * w} {c' = c + 2} (omega arith) (omega arith) (omega arith) v₂ refl (a w (2 * w) (q + w) (omega arith) refl) (later w (omega arith)) (omega arith) (omega arith) (omega arith) r after
      (one (n' + 1) {q' = q + 3 * w} {c' = c + 3} (omega arith) (omega arith) (omega arith) v₃ refl (a (2 * w) w (q + 2 * w) (omega arith) refl) (later (2 * w) (omega arith)) (omega arith) (omega arith) (omega arith) r after
      (one n' refl (omega arith) (omega arith) (value_in x w low 0) es (a (3 * w) 0 (q + 3 * w) (omega arith) refl) (later (3 * w) (omega arith)) fits (omega arith) (omega arith) r after u)))
    where
      later : (j : ℕ) → q + j ≤ total → Placed b total (q + j)
      later j h = record { place = h; few = P.few; padded = P.padded }

-- ---- how many groups

pub no_groups : (span w n total at room cell : ℕ) → at ≤ total → Grouped span w n total at room cell 0
no_groups span w n total at room cell h = record { few = omega arith; bits = omega (arith, zero-mul (4 * w)); narrow = λ some. absurd (omega arith); full = λ some. absurd (omega arith); cells = λ some. absurd (omega arith) }

-- the cell behind the groups
pub groups_next : {span w n total at cell groups : ℕ} {sheet : List ℤ} → Counted sheet cell → Grouped span w n total at (length sheet) cell groups → cell + 4 * groups ≤ farthest
groups_next {groups = zero} C G = omega (arith, C.next)
groups_next {groups = suc k} C G = omega (arith, C.room, G.cells (omega arith))
