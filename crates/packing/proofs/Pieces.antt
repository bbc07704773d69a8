-- Entries one behind the other: each is written where it stands as it is written alone.
-- Assumes nothing.
use Prim.Native.Nat.{ℕ, ◌+◌, ◌-◌, ◌<◌}
use native.Mathlib.Omega.{arith}
use mathlib.Core.Path.{◌≡◌, refl, ap, subst, ◌∙◌}
use mathlib.Core.List.{List, [], ◌∷◌, ◌++◌}
use lib.IntN.{ℤ, pos}
use lib.ListN.{length, get_or, length-append, get_or-append}
use lib.Seq.{get_or-append-add}
use Rattle.types.specs.Shape.{Ty}
use Rattle.meaning.specs.Values.{Values, no_items, item}
use Rattle.meaning.specs.Steps.{ok, pure, ◌>>=◌}
use Rattle.meaning.specs.Walk.{times}
use Rattle.meaning.specs.Writing.{write}
use Rattle.meaning.proofs.Steps.{bind_ok}
use Rattle.packing.specs.Message.{joined}
use Rattle.packing.specs.Steps.{Sized, none_sized, and_sized}
use Rattle.packing.proofs.Moved.{Alike, write_moved}

-- all of them together
abbrev pub total : List ℕ → ℕ
total [] = 0
total (n ∷ ns) = n + total ns

-- what stands in the first of two joined lists, and in the second
alike_first : (a b other : List ℤ) (d : ℕ) → Alike (a ++ b) 0 other d (length (a ++ b)) → Alike a 0 other d (length a)
alike_first a b other d A = record { same = λ k h. A.same k (omega (arith, length-append a b)) ∙ at k h; enough = omega (arith, A.enough, length-append a b) }
  where
    at : (k : ℕ) → k < length a → get_or (a ++ b) (0 + k) (pos 0) ≡ get_or a (0 + k) (pos 0)
    at k h = let z : 0 + k ≡ k = omega arith in rw z (get_or-append a b (pos 0) k h)

alike_second : (a b other : List ℤ) (d : ℕ) → Alike (a ++ b) 0 other d (length (a ++ b)) → Alike b 0 other (d + length a) (length b)
alike_second a b other d A = record { same = same; enough = omega (arith, A.enough, length-append a b) }
  where
    same : (k : ℕ) → k < length b → get_or other (d + length a + k) (pos 0) ≡ get_or b (0 + k) (pos 0)
    same k h =
        let z : d + length a + k ≡ d + (length a + k) = omega arith in
        let y : 0 + (length a + k) ≡ length a + k = omega arith in
        let x : k ≡ 0 + k = omega arith in
        ap (λ (p : ℕ). get_or other p (pos 0)) z ∙ A.same (length a + k) (omega (arith, length-append a b)) ∙ ap (λ (p : ℕ). get_or (a ++ b) p (pos 0)) y ∙ get_or-append-add a b k (pos 0) ∙ ap (λ (p : ℕ). get_or b p (pos 0)) x

pub record Joins (t : Ty) (n : ℕ) (other : List ℤ) (d end size : ℕ) : Type 0 where
  pub values : Values
  pub bits : List ℕ
  pub are : times n (write t) other d ≡ ok values bits end
  pub many : length bits ≡ size

pub pieces_join : (t : Ty) (pieces : List (List ℤ)) (sizes : List ℕ) → Sized t pieces sizes → (other : List ℤ) (d : ℕ) → Alike (joined pieces) 0 other d (length (joined pieces)) → Joins t (length pieces) other d (d + length (joined pieces)) (total sizes)
unfolding times pure joined
pieces_join t [] [] none_sized other d A = let z : d ≡ d + 0 = omega arith in record { values = no_items; bits = []; are = ap (ok no_items []) z; many = refl }
pieces_join t [] (n ∷ sizes) x other d A = elim x [ ]
pieces_join t (cells ∷ more) [] x other d A = elim x [ ]
pieces_join t (cells ∷ more) (n ∷ sizes) (and_sized {v} {bits = bits} c P) other d A =
    let one : Alike cells 0 other d (length cells - 0) = let z : length cells ≡ length cells - 0 = omega arith in subst (λ (m : ℕ). Alike cells 0 other d m) z (alike_first cells (joined more) other d A) in
    let w = write_moved t c other d one in
    let at : d + (length cells - 0) ≡ d + length cells = omega arith in
    let J = pieces_join t more sizes P other (d + length cells) (alike_second cells (joined more) other d A) in
    let end : d + length cells + length (joined more) ≡ d + length (cells ++ joined more) = omega (arith, length-append cells (joined more)) in
    record {
      values = item v J.values;
      bits = bits ++ (J.bits ++ []);
      are = bind_ok (write t) (λ u. times (length more) (write t) >>= (λ us. pure (item u us))) other d (w ∙ ap (ok v bits) at) (bind_ok (times (length more) (write t)) (λ us. pure (item v us)) other (d + length cells) J.are refl) ∙ ap (ok (item v J.values) (bits ++ (J.bits ++ []))) end;
      many = omega (arith, length-append bits (J.bits ++ []), length-append J.bits [], J.many);
    }
