-- Where reading and writing end, and how many cells bits can hold.
-- Assumes nothing.
use Prim.Native.Nat.{ℕ, ◌+◌, ◌*◌, ◌≤◌, ◌<◌, max}
use mathlib.Core.Path.{◌≡◌, ap}
use mathlib.Core.List.{List, [], ◌∷◌}
use native.Mathlib.Omega.{arith}
use lib.ListN.{length, length-append}
use lib.IntN.{ℤ, pos}
use Rattle.bits.proofs.Numbers.{width_pos}
use Rattle.types.specs.Shape.{Ty}
use Rattle.meaning.specs.Values.{Value}
use Rattle.meaning.specs.Steps.{ok, Step}
use Rattle.meaning.specs.Coded.{Tree, ask, length_then, Coded, an_index, a_count, an_extent, tree}
use Rattle.meaning.specs.Walk.{walk}
use Rattle.meaning.specs.Reading.{Around, Source, source, free, part, reader, read, read_number, follow, shown, narrowed}
use Rattle.meaning.specs.Writing.{writer, write, write_extension}
use Rattle.meaning.proofs.Steps.{Came, came}
use Rattle.meaning.proofs.Sides.{part_was, read_whole_lem, read_extension_lem, followed, write_whole_lem, write_number_lem, write_opened_lem, read_opened_lem}
use Rattle.meaning.proofs.Turn.{read_turned}
use Rattle.meaning.proofs.Every.{Each, fitting, every}

-- ---- places go forward, and stay inside

pub record Inside (end i j : ℕ) : Type 0 where
  pub onward : i ≤ j
  pub within : j ≤ max i end

-- reading, whatever the open values around
pub walk_inside : (t : Ty) (bs : List ℕ) (a : Around) (i j : ℕ) (v : Value) (cells : List ℤ) → walk t reader (source bs a) i ≡ ok v cells j → Inside (length bs) i j
walk_inside t bs a i j v cells e = let F = read_turned t (source bs a) i j v cells e in record { onward = F.onward; within = F.within }

pub read_inside : (t : Ty) (bs : List ℕ) (i j : ℕ) (v : Value) (cells : List ℤ) → read t bs i ≡ ok v cells j → Inside (length bs) i j
read_inside t bs i j v cells e = walk_inside t bs free i j v cells e

pub write_inside : (t : Ty) (cells : List ℤ) (i j : ℕ) (v : Value) (bits : List ℕ) → write t cells i ≡ ok v bits j → Inside (length cells) i j
unfolding write_extension
write_inside = every (λ X cells i j x out g. Inside (length cells) i j) {S' = writer} (record {
  fit_bit = tt;
  fit_octet = tt;
  at_pure = λ x cells i. omega arith;
  at_bind = λ l F G. omega arith;
  at_guard = λ u good t F. F;
  at_whole = λ f u cells i j n out e. let c = write_whole_lem cells f i e in omega arith;
  at_extension = λ cells i j x out e. let p : i ≡ j = cc in omega arith;
  at_number = λ u k cells i j n out e. let c = write_number_lem cells k i e in omega arith;
  at_open = λ u f g F cells i j v out e. let c = write_opened_lem f cells i e in F cells i j v c.bits c.inner;
})

-- ---- where no number has span 0 and no choice has one alternative only, each cell takes a bit

asked : (w : ℕ) (k : ℕ → Tree) (first : ℕ) (bs : List ℕ) (a : Around) (i j n : ℕ) (out : List ℤ) → 0 < w → follow (ask w k) first (source bs a) i ≡ ok n out j → i < j
unfolding follow
asked w k first bs a i j n out h e =
    let m : Came (part first w (source bs a) i) (λ b. follow (k b) first (source bs a)) j n out = came e in
    let p = part_was first w bs a i m.at_first in
    let r = followed (k m.told) first bs a m.then j n m.more m.at_more in
    omega arith

tree_takes : (c : Coded) (first : ℕ) (bs : List ℕ) (a : Around) (i j n : ℕ) (out : List ℤ) → follow (tree c) first (source bs a) i ≡ ok n out j → i < j
unfolding tree length_then
tree_takes an_index first bs a i j n out e = asked 1 _ first bs a i j n out (omega arith) e
tree_takes a_count first bs a i j n out e = asked 1 _ first bs a i j n out (omega arith) e
tree_takes an_extent first bs a i j n out e = asked 8 _ first bs a i j n out (omega arith) e

record Bounded (X : Type 0) (src : Source) (i j : ℕ) (x : X) (out : List ℤ) (g : Step Source ℤ X) : Type 0 where
  bound : i + length out ≤ j

bounded_number : (k : Coded) (src : Source) (i j n : ℕ) (out : List ℤ) → read_number k src i ≡ ok n out j → i + length out ≤ j
unfolding read_number shown
bounded_number k src i j n out e =
    let m : Came (follow (tree k) i src i) shown j n out = came e in
    let F = followed (tree k) i src.bits src.around i m.then m.told m.first m.at_first in
    let s = tree_takes k i src.bits src.around i m.then m.told m.first m.at_first in
    let q : m.then ≡ j = cc in
    let r : pos m.told ∷ [] ≡ m.more = cc in
    omega (arith, ap length F.puts, ap length r, ap length m.both, length-append m.first m.more)

pub bounded : (t : Ty) → Each (λ f. 0 < f.span) (Unit {0}) t → (bs : List ℕ) (i j : ℕ) (v : Value) (cells : List ℤ) → read t bs i ≡ ok v cells j → i + length cells ≤ j
bounded t h bs i j v cells e = (fitting Bounded {S' = reader} (record {
  fit_bit = omega arith;
  fit_octet = omega arith;
  at_pure = λ x src i. omega arith;
  at_bind = λ {X} {Y} {c} {i} {m} {j} {x} {y} {o} {more} l F G. omega (arith, length-append o more);
  at_guard = λ u good t F. record { bound = F.bound };
  at_whole = λ f u src i j n out e. let c = read_whole_lem src.bits src.around f i e in omega (arith, width_pos f.span u, ap length c.puts);
  at_extension = λ src i j x out e. let c = read_extension_lem src.bits src.around i e in omega (arith, ap length c.puts);
  at_number = λ u k src i j n out e. record { bound = bounded_number k src i j n out e };
  at_open = λ u f g F src i j v out e.
      let c = read_opened_lem f src.bits src.around i e in
      let r = F (source src.bits (narrowed src.around (c.from + 8 * c.octets) i)) c.from c.to v out c.inner in
      record { bound = omega (arith, r.bound, c.length_read.onward, c.next) };
})
    t h (source bs free) i j v cells e).bound
