-- Cells in bytes, as the code finds them: by halves, and one behind the other.
-- Assumes nothing.
use Prim.Native.Nat.{ℕ, zero, suc, ◌+◌, ◌-◌, ◌*◌, ◌/◌, ◌<◌, ◌≤◌, ◌^◌}
use mathlib.Core.List.{List, [], ◌∷◌, ◌++◌}
use mathlib.Core.Path.{◌≡◌, refl, sym, ap, ap₂, ◌∙◌}
use native.Mathlib.Numerals.{add-one}
use native.Mathlib.Omega.{arith}
use borrow.Author.Tests.{lt-ltb, le-ltb}
use lib.IntN.{ℤ, pos, negsuc, ◌-ℤ◌}
use lib.Signed.{mag}
use mir.Facts.{to_z-of_z}
use mir.Syntax.{w64}
use lib.ListN.{length, take, drop, set}
use lib.Seq.{sets, sets-eq, drop-drop, take-append_seam}
use native.Mathlib.Nat.{zero-add}
use Rattle.basics.specs.Counts.{largest}
use Rattle.basics.proofs.Lists.{sets_append}
use Rattle.printing.proofs.Signed.{read, read_small}
use Rattle.parsing.proofs.Numbers.{minus_read}
use Rattle.records.specs.Records.{two_bytes}
use Rattle.programs.proofs.Inputs.{rest}
use Rattle.programs_writing.specs.Cells.{four_bytes, eight_bytes, twos_complement, cell_in, cells_from, cells_in}

-- one more cell
pub cells_more : (bytes : List ℕ) (i : ℕ) → cells_from (suc i) bytes ≡ cells_from i bytes ++ (cell_in (drop (i * 8) bytes) ∷ [])
unfolding cells_from
cells_more bytes zero = refl
cells_more bytes (suc i) =
    let e : 8 + i * 8 ≡ suc i * 8 = omega arith in
    ap (λ (l : List ℤ). cell_in bytes ∷ l) (cells_more (drop 8 bytes) i ∙ ap (λ (l : List ℕ). cells_from i (drop 8 bytes) ++ (cell_in l ∷ [])) (drop-drop (i * 8) 8 bytes ∙ ap (λ (k : ℕ). drop k bytes) e))

-- ---- a cell, by its halves

two_at : (bytes : List ℕ) (at : ℕ) {n : ℕ} → n ≡ two_bytes (take (length bytes - at) (drop at bytes)) → n ≡ two_bytes (drop at bytes)
two_at bytes at e = e ∙ ap two_bytes (rest bytes at)

pub four_is : (bytes : List ℕ) {a b : ℕ} → (a ≡ two_bytes bytes) × (a ≤ 65535) → (b ≡ two_bytes (take (length bytes - 2) (drop 2 bytes))) × (b ≤ 65535)
    → (a * 65536 + b ≡ four_bytes bytes) × (a * 65536 + b < 2 ^ 32)
four_is bytes {a} {b} ea eb = (ap₂ (λ (x y : ℕ). x * 65536 + y) ea.0 (two_at bytes 2 eb.0), omega (arith, ea.1, eb.1))

pub eight_is : (bytes : List ℕ) {a b : ℕ} → (a ≡ four_bytes bytes) × (a < 2 ^ 32) → (b ≡ four_bytes (take (length bytes - 4) (drop 4 bytes))) × (b < 2 ^ 32)
    → a * 4294967296 + b ≡ eight_bytes bytes
eight_is bytes {a} {b} ea eb = ap₂ (λ (x y : ℕ). x * 4294967296 + y) ea.0 (eb.0 ∙ ap four_bytes (rest bytes 4))

module _ (bytes : List ℕ) {n : ℕ} (e : n ≡ eight_bytes bytes) where
  pub above : n < 2 ^ 63 → read (pos n) ≡ cell_in bytes
  unfolding twos_complement
  above h = read_small n h ∙ sym (ap twos_complement (sym e) ∙ rw (lt-ltb n (2 ^ 63) h) refl)

  pub below : 2 ^ 63 ≤ n → read (negsuc 0 -ℤ read (pos (largest - n))) ≡ cell_in bytes
  unfolding twos_complement
  below h = minus_read (largest - n) (omega arith) ∙ sym (ap twos_complement (sym e) ∙ rw (le-ltb n (2 ^ 63) h) refl)

-- ---- cells that are put behind one another

pub cells_count : (count : ℕ) (bytes : List ℕ) → length (cells_from count bytes) ≡ count
unfolding cells_from
cells_count zero bytes = refl
cells_count (suc count) bytes = ap suc (cells_count count (drop 8 bytes))

pub cell_put : (bytes : List ℕ) (lent : List ℤ) (i : ℕ) {sheet : List ℤ} {z : ℤ} → sheet ≡ sets lent 0 (cells_from i bytes)
    → z ≡ cell_in (take (length bytes - i * 8) (drop (i * 8) bytes)) → mag z < 2 ^ 63 → set sheet i (read z) ≡ sets lent 0 (cells_from (i + 1) bytes)
cell_put bytes lent i {sheet} {z} es ez f =
    let same : read z ≡ cell_in (drop (i * 8) bytes) = to_z-of_z {w = w64} {z = z} (record { sfits = f }) ∙ ez ∙ ap cell_in (rest bytes (i * 8)) in
    let at : i ≡ 0 + length (cells_from i bytes) = sym (zero-add (length (cells_from i bytes)) ∙ cells_count i bytes) in
    ap (set sheet i) same
    ∙ ap₂ (λ (l : List ℤ) (k : ℕ). set l k (cell_in (drop (i * 8) bytes))) es at
    ∙ sym (sets_append lent 0 (cells_from i bytes) (cell_in (drop (i * 8) bytes) ∷ []))
    ∙ ap (sets lent 0) (sym (cells_more bytes i) ∙ ap (λ (k : ℕ). cells_from k bytes) (sym (add-one i)))

pub cells_done : (bytes : List ℕ) (lent : List ℤ) (i : ℕ) {sheet : List ℤ} → sheet ≡ sets lent 0 (cells_from i bytes) → i ≤ length bytes / 8 → length bytes / 8 ≤ i → sheet ≡ sets lent 0 (cells_in bytes)
cells_done bytes lent i es h l = let e : i ≡ length bytes / 8 = omega arith in es ∙ ap (λ (k : ℕ). sets lent 0 (cells_from k bytes)) e

-- the cells that were put are the first of the sheet
pub cells_taken : (bytes : List ℕ) (lent : List ℤ) {count : ℕ} {sheet : List ℤ} → count ≡ length bytes / 8 → count ≤ length lent → sheet ≡ sets lent 0 (cells_in bytes) → take count sheet ≡ cells_in bytes
cells_taken bytes lent {count} ec room es =
    let n : length (cells_in bytes) ≡ length bytes / 8 = cells_count (length bytes / 8) bytes in
    let k : count ≡ length (cells_in bytes) = ec ∙ sym n in
    ap₂ take k (es ∙ sets-eq (cells_in bytes) lent 0 (omega arith)) ∙ take-append_seam (cells_in bytes) (drop (0 + length (cells_in bytes)) lent)
