-- Bits say where they end: values that begin the same bits are the same value; joined runs are the bits of no other run.
-- Assumes nothing.
use Prim.Native.Nat.{ℕ, ◌+◌, ◌<◌}
use mathlib.Core.Path.{◌≡◌, refl, ap, ap₂}
use mathlib.Core.List.{List, [], ◌∷◌, ◌++◌}
use native.Mathlib.Omega.{arith}
use lib.ListN.{length, length-append}
use lib.Seq.{slice, take-length, drop-append_seam}
use lib.IntN.{ℤ}
use Rattle.bits.specs.Numbers.{Binary}
use Rattle.types.specs.Shape.{Ty}
use Rattle.meaning.specs.Values.{Value}
use Rattle.meaning.specs.Steps.{ok}
use Rattle.meaning.specs.Reading.{read, free}
use Rattle.meaning.specs.Writing.{write, Codes}
use Rattle.meaning.specs.Messages.{Run, nothing, and, Short}
use Rattle.meaning.proofs.Turn.{write_read, codes_read}

pub record Same (cells cells' : List ℤ) (post post' : List ℕ) : Type 0 where
  pub cells_same : cells ≡ cells'
  pub post_same : post ≡ post'

pub unique : (t : Ty) (s s' : List ℤ) (c d : ℕ) {c' d' : ℕ} {v v' : Value} {bits bits' post post' : List ℕ} → write t s c ≡ ok v bits c' → Binary bits → write t s' d ≡ ok v' bits' d' → Binary bits' → bits ++ post ≡ bits' ++ post'
    → Same (slice c c' s) (slice d d' s') post post'
unique t s s' c d {c'} {d'} {v} {v'} {bits} {bits'} {post} {post'} p h q h' e =
    let r : read t (bits ++ post) 0 ≡ ok v (slice c c' s) (0 + length bits) = write_read t s c c' v bits p h free [] post tt in
    let r' : read t (bits' ++ post') 0 ≡ ok v' (slice d d' s') (0 + length bits') = write_read t s' d d' v' bits' q h' free [] post' tt in
    let l : 0 + length bits ≡ 0 + length bits' = cc in
    let n : length bits ≡ length bits' = omega arith in
    record {
      cells_same = cc;
      post_same = cc (drop-append_seam bits post, drop-append_seam bits' post');
    }

-- a type that cannot be read from no bits at all: each value of it takes at least one
pub takes_bits : (t : Ty) → Short (read t [] 0) → (v : Value) (cells : List ℤ) (bits : List ℕ) → Codes t v cells bits → Binary bits → 0 < length bits
takes_bits t h v cells [] e b = absurd (rw (codes_read t v cells [] e b) at h)
takes_bits t h v cells (b ∷ bits) e k = omega arith

-- no other run of values of such a type, of any number, has the same bits
pub run_unique : (t : Ty) → Short (read t [] 0) → {run run' : List (List ℤ)} {bits bits' : List ℕ} → Run t run bits → Run t run' bits' → bits ≡ bits' → run ≡ run'
run_unique t h nothing nothing e = refl
run_unique t h nothing (and {v = v} {cells = s} {bits = b} {rest = r} p k w) e = absurd (omega (arith, takes_bits t h v s b p k, length-append b r, ap length e))
run_unique t h (and {v = v} {cells = s} {bits = b} {rest = r} p k w) nothing e = absurd (omega (arith, takes_bits t h v s b p k, length-append b r, ap length e))
run_unique t h (and {cells = s} p k w) (and {cells = s'} p' k' w') e =
    let u = unique t s s' 0 0 p k p' k' e in
    ap₂ ◌∷◌ (rw (take-length s, take-length s') at u.cells_same) (run_unique t h w w' u.post_same)
