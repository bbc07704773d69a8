-- The lines of findings: each fits, and one that was appended at the front stands there.
-- Assumes nothing.
use Prim.Native.Nat.{ℕ, ◌<◌, ◌≤◌, ◌^◌}
use native.Mathlib.Nat.{zero-add}
use native.Mathlib.Omega.{arith}
use mathlib.Core.Path.{◌≡◌, refl, ap, ◌∙◌}
use mathlib.Core.Bool.{Bool, true, false, cond}
use mathlib.Core.List.{List, ◌++◌}
use borrow.Author.Tests.{ne_eqb}
use lib.Dec.{eqb}
use lib.ListN.{length, drop, length-append}
use lib.Seq.{sets-eq}
use Rattle.basics.specs.Lists.{filled}
use Rattle.printing.specs.Buffers.{Appended}
use Rattle.printing.specs.Digits.{decimal}
use Rattle.printing.specs.Texts.{ascii}
use Rattle.printing.proofs.Lengths.{decimal_short}
use Rattle.findings.specs.Lines.{around, other_line, ruling_line, profile_line, verdict_line, longest_line}

-- ---- any other number

pub other_ruling : (n entry : ℕ) → ¬ (n ≡ 0) → ¬ (n ≡ 12) → ¬ (n ≡ 13) → ¬ (n ≡ 14) → ¬ (n ≡ 15) → ¬ (n ≡ 16) → ruling_line n entry ≡ other_line n entry
unfolding ruling_line
other_ruling n entry a b c d e f = rw (ne_eqb n 0 a, ne_eqb n 12 b, ne_eqb n 13 c, ne_eqb n 14 d, ne_eqb n 15 e, ne_eqb n 16 f) refl

pub other_profile : (n entry : ℕ) → ¬ (n ≡ 0) → ¬ (n ≡ 23) → ¬ (n ≡ 24) → ¬ (n ≡ 30) → profile_line n entry ≡ other_line n entry
unfolding profile_line
other_profile n entry a b c d = rw (ne_eqb n 0 a, ne_eqb n 23 b, ne_eqb n 24 c, ne_eqb n 30 d) refl

pub other_verdict : (n node phase : ℕ) → ¬ (n ≡ 0) → ¬ (n ≡ 51) → ¬ (n ≡ 52) → verdict_line n node phase ≡ other_line n node
unfolding verdict_line
other_verdict n node phase a b c = rw (ne_eqb n 0 a, ne_eqb n 51 b, ne_eqb n 52 c) refl

-- ---- every line fits

module _ (n m : ℕ) (hn : n < 2 ^ 64) (hm : m < 2 ^ 64) where
  number : length (decimal n) ≤ 20
  number = decimal_short n hn

  other : length (decimal m) ≤ 20
  other = decimal_short m hm

  pub ruling_short : length (ruling_line n m) ≤ longest_line
  unfolding ruling_line ascii
  ruling_short = go (eqb n 0) (eqb n 12) (eqb n 13) (eqb n 14) (eqb n 15) (eqb n 16)
    where
      go : (a b c d e f : Bool)
          → length (cond a (ruling_line 0 m) (cond b (ruling_line 12 m) (cond c (ruling_line 13 m) (cond d (ruling_line 14 m) (cond e (ruling_line 15 m) (cond f (ruling_line 16 m) (other_line n m))))))) ≤ longest_line
      go true b c d e f = omega arith
      go false true c d e f = simp length-append (omega (arith, number, other))
      go false false true d e f = simp length-append (omega (arith, number, other))
      go false false false true e f = simp length-append (omega (arith, number, other))
      go false false false false true f = simp length-append (omega (arith, number, other))
      go false false false false false true = simp length-append (omega (arith, number, other))
      go false false false false false false = simp length-append (omega (arith, number, other))

  pub profile_short : length (profile_line n m) ≤ longest_line
  unfolding profile_line ascii
  profile_short = go (eqb n 0) (eqb n 23) (eqb n 24) (eqb n 30)
    where
      go : (a b c d : Bool) → length (cond a (profile_line 0 m) (cond b (profile_line 23 m) (cond c (profile_line 24 m) (cond d (profile_line 30 m) (other_line n m))))) ≤ longest_line
      go true b c d = omega arith
      go false true c d = simp length-append (omega (arith, number, other))
      go false false true d = omega arith
      go false false false true = simp length-append (omega (arith, number, other))
      go false false false false = simp length-append (omega (arith, number, other))

  pub verdict_short : (p : ℕ) → p < 2 ^ 64 → length (verdict_line n m p) ≤ longest_line
  unfolding verdict_line ascii
  verdict_short p hp = go (eqb n 0) (eqb n 51) (eqb n 52)
    where
      phase : length (decimal p) ≤ 20
      phase = decimal_short p hp

      go : (a b c : Bool) → length (cond a (verdict_line 0 m p) (cond b (verdict_line 51 m p) (cond c (verdict_line 52 m p) (other_line n m)))) ≤ longest_line
      go true b c = omega arith
      go false true c = simp length-append (omega (arith, number, other))
      go false false true = simp length-append (omega (arith, number, other, phase))
      go false false false = simp length-append (omega (arith, number, other))

pub nodes_short : (n : ℕ) → n < 2 ^ 64 → length (around (ascii "map of ") n (ascii " nodes\n")) ≤ longest_line
unfolding ascii
nodes_short n h = simp length-append (omega (arith, decimal_short n h))

-- ---- a line that was appended at the front of a buffer with room for it

pub line_put : (text out : List ℕ) {next : ℕ} {out' : List ℕ} → longest_line ≤ length out → Appended text out 0 next out' → length text ≤ longest_line → (next ≡ length text) × (out' ≡ filled text out)
line_put text out room a short =
    (omega (arith, a.place), a.bytes ∙ sets-eq text out 0 (omega arith) ∙ ap (λ (k : ℕ). text ++ drop k out) (zero-add (length text)))
