-- What is written goes by the cells between its two places alone: where the same cells stand in another sheet, the same is written from there.
-- Assumes nothing.
use Prim.Native.Nat.{ℕ, ◌+◌, ◌-◌, ◌<◌, ◌≤◌}
use mathlib.Core.Path.{◌≡◌, ap, subst, ◌∙◌}
use mathlib.Core.List.{List, [], ◌∷◌, ◌++◌}
use native.Mathlib.Omega.{arith}
use lib.IntN.{ℤ, pos, ◌-ℤ◌}
use lib.ListN.{length, get_or}
use Rattle.bits.specs.Numbers.{to_bits, width}
use Rattle.types.specs.Shape.{Ty}
use Rattle.meaning.specs.Values.{Value}
use Rattle.meaning.specs.Steps.{ok, Step, pure}
use Rattle.meaning.specs.Coded.{coded}
use Rattle.meaning.specs.Writing.{writer, write, write_extension}
use Rattle.meaning.proofs.Steps.{bind_ok, guard_pass}
use Rattle.meaning.proofs.Sides.{write_whole_lem, whole_write, write_number_lem, number_write, write_opened_lem, opened_write}
use Rattle.meaning.proofs.Every.{every}

-- so many cells from place i of one sheet on stand from place d of another on
pub record Alike (cells : List ℤ) (i : ℕ) (other : List ℤ) (d n : ℕ) : Type 0 where
  pub same : (k : ℕ) → k < n → get_or other (d + k) (pos 0) ≡ get_or cells (i + k) (pos 0)
  pub enough : d + n ≤ length other

record Moves (X : Type 0) (cells : List ℤ) (i j : ℕ) (x : X) (out : List ℕ) (g : Step (List ℤ) ℕ X) : Type 0 where
  onward : i ≤ j
  moved : (other : List ℤ) (d : ℕ) → Alike cells i other d (j - i) → g other d ≡ ok x out (d + (j - i))

-- the front of what is alike, and the rest
pub front : {cells : List ℤ} {i : ℕ} {other : List ℤ} {d : ℕ} (m n : ℕ) → m ≤ n → Alike cells i other d n → Alike cells i other d m
front m n l A = record { same = λ k h. A.same k (omega arith); enough = omega (arith, A.enough) }

pub behind : {cells : List ℤ} {i : ℕ} {other : List ℤ} {d : ℕ} (m n : ℕ) → m ≤ n → Alike cells i other d n → Alike cells (i + m) other (d + m) (n - m)
behind {cells} {i} {other} {d} m n l A = record { same = same; enough = omega (arith, A.enough) }
  where
    same : (k : ℕ) → k < n - m → get_or other (d + m + k) (pos 0) ≡ get_or cells (i + m + k) (pos 0)
    same k h =
        let a : d + m + k ≡ d + (m + k) = omega arith in
        let b : i + (m + k) ≡ i + m + k = omega arith in
        ap (λ (p : ℕ). get_or other p (pos 0)) a ∙ A.same (m + k) (omega arith) ∙ ap (λ (p : ℕ). get_or cells p (pos 0)) b

-- the cell at the front
first_cell : (cells : List ℤ) (i : ℕ) (other : List ℤ) (d n : ℕ) → 0 < n → Alike cells i other d n → get_or other d (pos 0) ≡ get_or cells i (pos 0)
first_cell cells i other d n h A =
    let a : d ≡ d + 0 = omega arith in
    let b : i + 0 ≡ i = omega arith in
    ap (λ (p : ℕ). get_or other p (pos 0)) a ∙ A.same 0 h ∙ ap (λ (p : ℕ). get_or cells p (pos 0)) b

all_moves : (t : Ty) (cells : List ℤ) (i j : ℕ) (v : Value) (out : List ℕ) → write t cells i ≡ ok v out j → Moves Value cells i j v out (write t)
unfolding write_extension pure
all_moves = every Moves {S' = writer} (record {
  fit_bit = tt;
  fit_octet = tt;
  at_pure = λ x cells i. record { onward = omega arith; moved = λ other d A. let z : d ≡ d + (i - i) = omega arith in ap (ok x []) z };
  at_bind = λ {X} {Y} {c = cells} {i} {m} {j} {x} {y} {o} {more} {g} l F G. record {
    onward = omega (arith, F.onward, G.onward);
    moved = λ other d A.
        let first = F.moved other d (front (m - i) (j - i) (omega (arith, F.onward, G.onward)) A) in
        let rest : Alike cells m other (d + (m - i)) (j - m) =
        let at : i + (m - i) ≡ m = omega (arith, F.onward) in
        let left : j - i - (m - i) ≡ j - m = omega (arith, F.onward) in
        subst (λ (n : ℕ). Alike cells m other (d + (m - i)) n) left (subst (λ (p : ℕ). Alike cells p other (d + (m - i)) (j - i - (m - i))) at (behind (m - i) (j - i) (omega (arith, F.onward, G.onward)) A)) in
        let then = G.moved other (d + (m - i)) rest in
        let end : d + (m - i) + (j - m) ≡ d + (j - i) = omega (arith, F.onward, G.onward) in
        bind_ok g l other d first then ∙ ap (ok y (o ++ more)) end;
  };
  at_guard = λ u good {c = cells} {i} {j} {x} {out} {g} t F. record { onward = F.onward; moved = λ other d A. guard_pass writer.amiss good g other d (F.moved other d A) t };
  at_whole = λ f u cells i j n out e.
      let c = write_whole_lem cells f i e in
      record {
        onward = omega (arith, c.next);
        moved = λ other d A.
            let one : 0 < j - i = omega (arith, c.next) in
            let end : d + 1 ≡ d + (j - i) = omega (arith, c.next) in
            rw (← c.puts) (whole_write other f d n (omega (arith, A.enough, c.next)) (ap (λ (z : ℤ). z -ℤ f.lowest) (first_cell cells i other d (j - i) one A) ∙ c.is) c.within ∙ ap (ok n (to_bits (width f.span) n)) end);
      };
  at_extension = λ cells i j x out e.
      let p : i ≡ j = cc in
      record { onward = omega arith; moved = λ other d A. let z : d ≡ d + (j - i) = omega arith in e_moved cells i j x out e other d ∙ ap (ok x out) z };
  at_number = λ u k cells i j n out e.
      let c = write_number_lem cells k i e in
      record {
        onward = omega (arith, c.next);
        moved = λ other d A.
            let one : 0 < j - i = omega (arith, c.next) in
            let end : d + 1 ≡ d + (j - i) = omega (arith, c.next) in
            rw (← c.puts) (number_write other k d n (omega (arith, A.enough, c.next)) (first_cell cells i other d (j - i) one A ∙ c.is) c.held ∙ ap (ok n (coded k n)) end);
      };
  at_open = λ u f g F cells i j v out e.
      let c = write_opened_lem f cells i e in
      let M = F cells i j v c.bits c.inner in
      record { onward = M.onward; moved = λ other d A. rw (← c.puts) (opened_write g other d (d + (j - i)) v c.bits (M.moved other d A)) };
})
  where
    e_moved : (cells : List ℤ) (i j : ℕ) (x : Unit {0}) (out : List ℕ) → write_extension cells i ≡ ok x out j → (other : List ℤ) (d : ℕ) → write_extension other d ≡ ok x out d
    e_moved cells i j x out e other d = let o : 0 ∷ [] ≡ out = cc in ap (λ (l : List ℕ). ok tt l d) o

pub write_moved : (t : Ty) {cells : List ℤ} {i j : ℕ} {v : Value} {out : List ℕ} → write t cells i ≡ ok v out j → (other : List ℤ) (d : ℕ) → Alike cells i other d (j - i) → write t other d ≡ ok v out (d + (j - i))
write_moved t {cells} {i} {j} {v} {out} e = (all_moves t cells i j v out e).moved
