-- Cells stored one behind the other: a message of a plan, and the whole plan.
-- Assumes nothing.
use Prim.Native.Nat.{ℕ, suc, ◌+◌, ◌*◌, ◌-◌, ◌<◌, ◌≤◌}
use native.Mathlib.Omega.{arith}
use mathlib.Core.Path.{◌≡◌, refl, sym, ap, ap₂, ◌∙◌}
use mathlib.Core.Bool.{Bool}
use mathlib.Core.List.{List, [], ◌∷◌, ◌++◌, append_assoc, append-nil}
use lib.IntN.{ℤ, pos}
use lib.ListN.{length, set, take, drop, replicate, length-append, length-replicate}
use lib.Seq.{sets, sets-eq, length-sets, take-append_seam}
use Rattle.basics.proofs.Lists.{sets_append}
use Rattle.plans.specs.Planner.{numbers_from, packed, message_cells, plan_cells}
use Rattle.plans.specs.Steps.{Alone, most_from}
use Rattle.plans.proofs.Packed.{numbers_long, numbers_more, most_bounds, most_some, packed_split}

-- ---- one cell more behind those stored

pub stored_more : {A : Type 0} (s : List A) (at : ℕ) (cells : List A) (x : A) → set (sets s at cells) (at + length cells) x ≡ sets s at (cells ++ x ∷ [])
stored_more s at cells x = sym (sets_append s at cells (x ∷ []))

-- the next number of a message
pub number_stored : (s : List ℤ) (at from k : ℕ) → set (sets s (at + 1) (numbers_from from k)) (at + 1 + k) (pos (from + k)) ≡ sets s (at + 1) (numbers_from from (k + 1))
number_stored s at from k =
    let place : at + 1 + k ≡ at + 1 + length (numbers_from from k) = omega (arith, numbers_long from k) in
    let z : suc k ≡ k + 1 = omega arith in
    ap (λ (i : ℕ). set (sets s (at + 1) (numbers_from from k)) i (pos (from + k))) place ∙ stored_more s (at + 1) (numbers_from from k) (pos (from + k))
    ∙ ap (sets s (at + 1)) (sym (numbers_more from k) ∙ ap (numbers_from from) z)

-- all of its cells
pub message_stored : (s : List ℤ) (at from n k : ℕ) → k ≡ n → {made : List ℤ} → made ≡ sets (set s at (pos n)) (at + 1) (numbers_from from k) → made ≡ sets s at (pos n ∷ numbers_from from n)
message_stored s at from n k all e = let z : at + 1 ≡ suc at = omega arith in e ∙ ap₂ (λ (i m : ℕ). sets (set s at (pos n)) i (numbers_from from m)) z all

-- ---- the first cell anew

set_apart : {A : Type 0} (s : List A) (i : ℕ) (x v : A) → set (set s (suc i) v) 0 x ≡ set (set s 0 x) (suc i) v
set_apart [] i x v = refl
set_apart (a ∷ s) i x v = refl

set_again : {A : Type 0} (s : List A) (x y : A) → set (set s 0 y) 0 x ≡ set s 0 x
set_again [] x y = refl
set_again (a ∷ s) x y = refl

sets_apart : {A : Type 0} (s : List A) (i : ℕ) (vs : List A) (x : A) → set (sets s (suc i) vs) 0 x ≡ sets (set s 0 x) (suc i) vs
sets_apart s i [] x = refl
sets_apart s i (v ∷ vs) x = sets_apart (set s (suc i) v) (suc i) vs x ∙ ap (λ (l : List _). sets l (suc (suc i)) vs) (set_apart s i x v)

pub first_anew : {A : Type 0} (s : List A) (vs : List A) (x y : A) → set (sets s 0 (y ∷ vs)) 0 x ≡ sets s 0 (x ∷ vs)
first_anew s vs x y = sets_apart (set s 0 y) 0 vs x ∙ ap (λ (l : List _). sets l 1 vs) (set_again s x y)

-- ---- all that was stored

pub stored_front : {A : Type 0} (s vs : List A) → length vs ≤ length s → take (length vs) (sets s 0 vs) ≡ vs
stored_front s vs h =
    let is : sets s 0 vs ≡ take 0 s ++ vs ++ drop (0 + length vs) s = sets-eq vs s 0 (omega arith) in
    ap (take (length vs)) is ∙ take-append_seam vs (drop (0 + length vs) s)

-- ---- messages

cells_more : (closed : List (List ℤ)) (cells : List ℤ) → message_cells (closed ++ cells ∷ []) ≡ message_cells closed ++ pos (length cells) ∷ cells
unfolding message_cells
cells_more [] cells = ap (λ (l : List ℤ). pos (length cells) ∷ l) (append-nil cells)
cells_more (first ∷ closed) cells =
    ap (λ (l : List ℤ). pos (length first) ∷ (first ++ l)) (cells_more closed cells) ∙ ap (λ (l : List ℤ). pos (length first) ∷ l) (sym (append_assoc first (message_cells closed) (pos (length cells) ∷ cells)))

-- ---- the plan so far

abbrev pub zeros : List ℤ
zeros = replicate 129 (pos 0)

module _ (good : List ℤ → Bool) (count : ℕ) (each : Alone good count) where
  pub record Going (at from messages : ℕ) (made : List ℤ) : Type 0 where
    pub closed : List (List ℤ)
    pub goes : closed ++ packed good from 0 (count - from) ≡ packed good 0 0 count
    pub at_is : at ≡ 1 + length (message_cells closed)
    pub many : messages ≡ length closed
    pub stored : made ≡ sets zeros 0 (pos 0 ∷ message_cells closed)
    pub room : at ≤ 1 + 2 * from
    pub some : messages ≤ from

  pub begins : {made : List ℤ} → made ≡ zeros → Going 1 0 0 made
  unfolding message_cells
  begins e = let z : count - 0 ≡ count = omega arith in record { closed = []; goes = ap (packed good 0 0) z; at_is = refl; many = refl; stored = e; room = omega arith; some = omega arith }

  pub still_long : (at from messages : ℕ) (made : List ℤ) → Going at from messages made → length made ≡ 129
  still_long at from messages made G = ap length G.stored ∙ length-sets zeros 0 (pos 0 ∷ message_cells G.closed) ∙ length-replicate {A = ℤ} 129 (pos 0)

  module _ (at from messages : ℕ) (made : List ℤ) (G : Going at from messages made) (left : from < count) {n : ℕ} (en : n ≡ most_from good from 0 (count - from)) where
    pub one_at_least : 1 ≤ n
    one_at_least = omega (arith, en, most_some good from (count - from) (omega arith) (each from left))

    pub no_more : from + n ≤ count
    no_more = omega (arith, en, (most_bounds good from 0 (count - from)).1)

    pub goes_on : {after : List ℤ} → after ≡ sets made at (pos n ∷ numbers_from from n) → Going (at + 1 + n) (from + n) (messages + 1) after
    goes_on {after} e =
        let own = numbers_from from n in
        let long : length own ≡ n = numbers_long from n in
        let cells : message_cells (G.closed ++ own ∷ []) ≡ message_cells G.closed ++ pos n ∷ own = cells_more G.closed own ∙ ap (λ (k : ℕ). message_cells G.closed ++ pos k ∷ own) long in
        let front : 1 + length (message_cells G.closed) ≡ 0 + length (pos 0 ∷ message_cells G.closed) = omega arith in
        let rest : 0 + (count - from) - n ≡ count - (from + n) = omega arith in
        let split : packed good from 0 (count - from) ≡ own ∷ packed good (from + n) 0 (count - (from + n)) =
        packed_split good from count 0 (count - from) (omega arith) each (omega arith)
        ∙ ap (λ (k : ℕ). numbers_from from k ∷ packed good (from + k) 0 (0 + (count - from) - k)) (sym en) ∙ ap (λ (k : ℕ). own ∷ packed good (from + n) 0 k) rest in
        record {
          closed = G.closed ++ own ∷ [];
          goes = append_assoc G.closed (own ∷ []) (packed good (from + n) 0 (count - (from + n))) ∙ ap (λ (l : List (List ℤ)). G.closed ++ l) (sym split) ∙ G.goes;
          at_is = omega (arith, G.at_is, ap length cells, length-append (message_cells G.closed) (pos n ∷ own), long);
          many = omega (arith, G.many, length-append G.closed (own ∷ []));
          stored =
              e ∙ ap₂ (λ (l : List ℤ) (i : ℕ). sets l i (pos n ∷ own)) G.stored (G.at_is ∙ front) ∙ sym (sets_append zeros 0 (pos 0 ∷ message_cells G.closed) (pos n ∷ own))
              ∙ ap (λ (l : List ℤ). sets zeros 0 (pos 0 ∷ l)) (sym cells);
          room = omega (arith, G.room, one_at_least);
          some = omega (arith, G.some, one_at_least);
        }

  module _ (at from messages : ℕ) (made : List ℤ) (G : Going at from messages made) (all : count ≤ from) where
    closed_are : G.closed ≡ packed good 0 0 count
    unfolding packed
    closed_are = let z : 0 ≡ count - from = omega arith in sym (append-nil G.closed) ∙ ap (λ (k : ℕ). G.closed ++ packed good from 0 k) z ∙ G.goes

    one_more : (l : List ℤ) → 1 + length l ≡ length (pos (length G.closed) ∷ l)
    one_more l = omega arith

    pub all_cells : at ≡ length (plan_cells (packed good 0 0 count))
    unfolding plan_cells
    all_cells = G.at_is ∙ one_more (message_cells G.closed) ∙ ap (λ (l : List (List ℤ)). length (plan_cells l)) closed_are

    pub all_stored : set made 0 (pos messages) ≡ sets zeros 0 (plan_cells (packed good 0 0 count))
    unfolding plan_cells
    all_stored =
        ap₂ (λ (l : List ℤ) (k : ℕ). set l 0 (pos k)) G.stored G.many ∙ first_anew zeros (message_cells G.closed) (pos (length G.closed)) (pos 0)
        ∙ ap (λ (l : List (List ℤ)). sets zeros 0 (plan_cells l)) closed_are
