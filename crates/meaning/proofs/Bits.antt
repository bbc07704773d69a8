-- What is written is bits, but for an open value of more than 16,383 octets: below that length, and in every type of edition 1.
-- Assumes nothing.
use Prim.Native.Nat.{ℕ, zero, suc, ◌+◌, ◌-◌, ◌*◌, ◌≤◌, ◌<◌}
use mathlib.Core.Path.{◌≡◌, refl, ap}
use mathlib.Core.Bool.{Bool, true, false, cond}
use mathlib.Core.List.{List, [], ◌∷◌, ◌++◌}
use mathlib.Core.Logic.{inl}
use native.Mathlib.Omega.{arith}
use borrow.Author.Tests.{lt-ltb, ltb-true}
use lib.Dec.{T, ltb, leb}
use lib.ListN.{length, replicate, length-append, length-replicate}
use lib.IntN.{ℤ}
use Rattle.bits.specs.Numbers.{to_bits, Binary}
use Rattle.bits.proofs.Numbers.{binary_append, to_bits_binary}
use Rattle.types.specs.Shape.{Ty}
use Rattle.meaning.specs.Values.{Value}
use Rattle.meaning.specs.Steps.{ok, Step}
use Rattle.meaning.specs.Coded.{Coded, an_index, a_count, an_extent, holds, length_bits, coded}
use Rattle.meaning.specs.Reading.{octets_of}
use Rattle.meaning.specs.Writing.{writer, write, write_extension, enclosed}
use Rattle.meaning.proofs.Sides.{write_whole_lem, write_number_lem, write_opened_lem}
use Rattle.meaning.proofs.Every.{fitting, every}
use Rattle.meaning.proofs.Plain.{Plain}

binary_zeros : (n : ℕ) → Binary (replicate n 0)
binary_zeros zero = tt
binary_zeros (suc n) = (omega arith, binary_zeros n)

-- an extension bit that is written
zero_binary : Binary (0 ∷ [])
zero_binary = (omega arith, tt)

length_binary : (n : ℕ) → n < 16384 → Binary (length_bits n)
unfolding length_bits
length_binary n h = rw (lt-ltb n 16384 h) (go (ltb n 128))
  where
    go : (a : Bool) → Binary (cond a (to_bits 8 n) (to_bits 16 (32768 + n)))
    go true = to_bits_binary 8 n
    go false = to_bits_binary 16 (32768 + n)

-- a count that is held is below 16,384
held_small : (n : ℕ) → T (cond (leb 1 n) (ltb n 16384) false) → n < 16384
held_small n = go (leb 1 n) (ltb n 16384) refl
  where
    go : (b c : Bool) → ltb n 16384 ≡ c → T (cond b c false) → n < 16384
    go true true e t = ltb-true n 16384 e
    go true false e t = absurd t
    go false c e t = absurd t

coded_binary : (c : Coded) (n : ℕ) → T (holds c n) → Binary (coded c n)
unfolding holds coded
coded_binary an_index n h = go (ltb n 64) (ltb n 256)
  where
    go : (a b : Bool) → Binary (cond a (0 ∷ to_bits 6 n) (cond b (1 ∷ to_bits 8 1 ++ to_bits 8 n) (1 ∷ to_bits 8 2 ++ to_bits 16 n)))
    go true b = (omega arith, to_bits_binary 6 n)
    go false true = (omega arith, binary_append (to_bits 8 1) (to_bits 8 n) (to_bits_binary 8 1) (to_bits_binary 8 n))
    go false false = (omega arith, binary_append (to_bits 8 2) (to_bits 16 n) (to_bits_binary 8 2) (to_bits_binary 16 n))
coded_binary a_count n h = go (leb n 64)
  where
    go : (a : Bool) → Binary (cond a (0 ∷ to_bits 6 (n - 1)) (1 ∷ length_bits n))
    go true = (omega arith, to_bits_binary 6 (n - 1))
    go false = (omega arith, length_binary n (held_small n h))
coded_binary an_extent n h = length_binary n (held_small n h)

enclosed_binary : (bits : List ℕ) → octets_of (length bits) < 16384 → Binary bits → Binary (enclosed bits)
unfolding enclosed
enclosed_binary bits h b =
    binary_append (length_bits (octets_of (length bits))) (bits ++ replicate (8 * octets_of (length bits) - length bits) 0) (length_binary (octets_of (length bits)) h)
    (binary_append bits (replicate (8 * octets_of (length bits) - length bits) 0) b (binary_zeros (8 * octets_of (length bits) - length bits)))

enclosed_longer : (bits : List ℕ) → 8 * octets_of (length bits) ≤ length (enclosed bits)
unfolding enclosed
enclosed_longer bits = let o : length bits ≤ 8 * octets_of (length bits) = omega arith in simp (length-append, length-replicate) (omega arith)

record Short-binary (X : Type 0) (cells : List ℤ) (i j : ℕ) (x : X) (out : List ℕ) (g : Step (List ℤ) ℕ X) : Type 0 where
  binary : length out < 131072 → Binary out

-- fewer bits than 16,384 octets hold no longer open value
pub short_binary : (t : Ty) (cells : List ℤ) (c c' : ℕ) (v : Value) (bits : List ℕ) → write t cells c ≡ ok v bits c' → length bits < 131072 → Binary bits
unfolding write_extension
short_binary t cells c c' v bits e =
    (every Short-binary {S' = writer} (record {
      fit_bit = tt;
      fit_octet = tt;
      at_pure = λ x cells i. record { binary = λ l. tt };
      at_bind = λ {X} {Y} {c} {i} {m} {j} {x} {y} {o} {more} l F G. record { binary = λ n. binary_append o more (F.binary (omega (arith, length-append o more))) (G.binary (omega (arith, length-append o more))) };
      at_guard = λ u good t F. record { binary = F.binary };
      at_whole = λ f u cells i j n out e. let c = write_whole_lem cells f i e in record { binary = λ l. rw (← c.puts) (to_bits_binary _ n) };
      at_extension = λ cells i j x out e. let p : 0 ∷ [] ≡ out = cc in record { binary = λ l. rw (← p) zero_binary };
      at_number = λ u k cells i j n out e. let c = write_number_lem cells k i e in record { binary = λ l. rw (← c.puts) (coded_binary k n c.held) };
      at_open = λ u f g F cells i j v out e.
          let c = write_opened_lem f cells i e in
          record { binary = λ l. rw (← c.puts) (enclosed_binary c.bits (omega (arith, enclosed_longer c.bits, ap length c.puts)) ((F cells i j v c.bits c.inner).binary (omega (arith, enclosed_longer c.bits, ap length c.puts)))) };
    })
    t cells c c' v bits e).binary

record All-binary (X : Type 0) (cells : List ℤ) (i j : ℕ) (x : X) (out : List ℕ) (g : Step (List ℤ) ℕ X) : Type 0 where
  binary : Binary out

-- a type that has none of those that edition 2 alone has is written in bits, however long
pub plain_binary : (t : Ty) → Plain t → (cells : List ℤ) (c c' : ℕ) (v : Value) (bits : List ℕ) → write t cells c ≡ ok v bits c' → Binary bits
unfolding write_extension
plain_binary t h cells c c' v bits e =
    (fitting All-binary {S' = writer} (record {
      fit_bit = inl refl;
      fit_octet = inl refl;
      at_pure = λ x cells i. record { binary = tt };
      at_bind = λ {X} {Y} {c} {i} {m} {j} {x} {y} {o} {more} l F G. record { binary = binary_append o more F.binary G.binary };
      at_guard = λ u good t F. absurd u;
      at_whole = λ f u cells i j n out e. let c = write_whole_lem cells f i e in record { binary = rw (← c.puts) (to_bits_binary _ n) };
      at_extension = λ cells i j x out e. let p : 0 ∷ [] ≡ out = cc in record { binary = rw (← p) zero_binary };
      at_number = λ u k cells i j n out e. absurd u;
      at_open = λ u f g F cells i j v out e. absurd u;
    })
    t h cells c c' v bits e).binary
