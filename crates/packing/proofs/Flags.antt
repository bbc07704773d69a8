-- The presence bits of a sequence: what they are by their cells, and how many bits they have.
-- Assumes nothing.
use Prim.Native.Nat.{ℕ, suc, ◌+◌, ◌<◌, ◌≤◌}
use native.Mathlib.Omega.{arith}
use mathlib.Core.Path.{◌≡◌, refl, sym, ap, subst, ◌∙◌}
use mathlib.Core.List.{List, [], ◌∷◌, ◌++◌}
use lib.IntN.{ℤ, pos, ◌-ℤ◌}
use lib.ListN.{length, get_or, length-append}
use Rattle.bits.specs.Numbers.{to_bits, width, halvings}
use Rattle.bits.proofs.Numbers.{to_bits_length}
use Rattle.types.specs.Shape.{Fields}
use Rattle.types.specs.Shape.Fields.{none, must, may}
use Rattle.meaning.specs.Steps.{ok, pure, ◌>>=◌}
use Rattle.meaning.specs.Walk.{bit, flags}
use Rattle.meaning.specs.Writing.{write_whole, writer}
use Rattle.meaning.proofs.Steps.{Came, bound, bind_ok}
use Rattle.meaning.proofs.Sides.{WriteWhole, write_whole_lem, whole_write}
use Rattle.sheet.proofs.Apart.{optionals}

-- the cells from a place on are these presence bits
abbrev pub Shown : List ℤ → ℕ → List ℕ → Type 0
Shown cells p [] = Unit {0}
Shown cells p (n ∷ ns) = (get_or cells p (pos 0) -ℤ pos 0 ≡ pos n) × (n ≤ 1) × (p < length cells) × Shown cells (p + 1) ns

-- a presence bit is one bit
one_bit : (n : ℕ) → length (to_bits (width 1) n) ≡ 1
unfolding halvings
one_bit n = to_bits_length 1 n

pub record Flags (cells : List ℤ) (fs : Fields) (p : ℕ) (ns : List ℕ) (out : List ℕ) (j : ℕ) : Type 0 where
  pub shown : Shown cells p ns
  pub many : length ns ≡ optionals fs
  pub next : j ≡ p + optionals fs
  pub bits : length out ≡ optionals fs

pub flags_apart : (cells : List ℤ) (fs : Fields) (p : ℕ) (ns : List ℕ) (out : List ℕ) (j : ℕ) → flags fs writer cells p ≡ ok ns out j → Flags cells fs p ns out j
unfolding flags pure optionals
flags_apart cells none p ns out j e =
    let a : p ≡ j = cc in
    let b : [] ≡ ns = cc in
    let c : [] ≡ out = cc in
    record { shown = subst (Shown cells p) b tt; many = ap length (sym b); next = omega arith; bits = ap length (sym c) }
flags_apart cells (must t fs) p ns out j e = let F = flags_apart cells fs p ns out j e in record { shown = F.shown; many = F.many; next = F.next; bits = F.bits }
flags_apart cells (may t fs) p ns out j e =
    let C : Came (write_whole bit cells p) (λ n. (flags fs writer >>= (λ more. pure (n ∷ more))) cells) j ns out = bound (write_whole bit) (λ n. flags fs writer >>= (λ more. pure (n ∷ more))) cells p e in
    let D : Came (flags fs writer cells C.then) (λ more. pure (C.told ∷ more) cells) j ns C.more = bound (flags fs writer) (λ more. pure (C.told ∷ more)) cells C.then C.at_more in
    let W : WriteWhole cells bit p C.then C.told C.first = write_whole_lem cells bit p C.at_first in
    let rest = flags_apart cells fs C.then D.told D.first D.then D.at_first in
    let last : D.then ≡ j = cc D.at_more in
    let all : C.told ∷ D.told ≡ ns = cc D.at_more in
    let nothing : [] ≡ D.more = cc D.at_more in
    let one : length C.first ≡ 1 = ap length (sym W.puts) ∙ one_bit C.told in
    record {
      shown = subst (Shown cells p) all (W.is, W.within, W.enough, subst (λ (i : ℕ). Shown cells i D.told) (sym W.next) rest.shown);
      many = ap length (sym all) ∙ ap suc rest.many;
      next = omega (arith, rest.next, W.next, last);
      bits = omega (arith, rest.bits, one, ap length (sym C.both), length-append C.first C.more, ap length (sym D.both), length-append D.first D.more, ap length (sym nothing));
    }

pub record Made (cells : List ℤ) (fs : Fields) (p : ℕ) (ns : List ℕ) : Type 0 where
  pub out : List ℕ
  pub is : flags fs writer cells p ≡ ok ns out (p + optionals fs)
  pub bits : length out ≡ optionals fs

pub flags_made : (cells : List ℤ) (fs : Fields) (p : ℕ) (ns : List ℕ) → length ns ≡ optionals fs → Shown cells p ns → Made cells fs p ns
unfolding flags pure optionals
flags_made cells none p [] e S = let z : p ≡ p + 0 = omega arith in record { out = []; is = ap (ok [] []) z; bits = refl }
flags_made cells none p (n ∷ ns) e S = absurd (omega arith)
flags_made cells (must t fs) p ns e S = let M = flags_made cells fs p ns e S in record { out = M.out; is = M.is; bits = M.bits }
flags_made cells (may t fs) p [] e S = absurd (omega arith)
flags_made cells (may t fs) p (n ∷ ns) e S =
    let M = flags_made cells fs (p + 1) ns (omega arith) S.3 in
    let w = whole_write cells bit p n S.2 S.0 S.1 in
    let at : p + 1 + optionals fs ≡ p + suc (optionals fs) = omega arith in
    let one : length (to_bits (width 1) n) ≡ 1 = one_bit n in
    record {
      out = to_bits (width 1) n ++ (M.out ++ []);
      is = bind_ok (write_whole bit) (λ m. flags fs writer >>= (λ more. pure (m ∷ more))) cells p w (bind_ok (flags fs writer) (λ more. pure (n ∷ more)) cells (p + 1) M.is refl) ∙ ap (ok (n ∷ ns) (to_bits (width 1) n ++ (M.out ++ []))) at;
      bits = omega (arith, length-append (to_bits (width 1) n) (M.out ++ []), length-append M.out [], one, M.bits);
    }
