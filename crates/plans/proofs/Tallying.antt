-- The messages of a plan, taken one by one: what is left of its cells, and how often each entry stands in those before.
-- Assumes nothing.
use Prim.Native.Nat.{ℕ, zero, suc, ◌+◌, ◌-◌, ◌<◌, ◌≤◌, min}
use native.Mathlib.Omega.{arith}
use mathlib.Core.Path.{◌≡◌, refl, sym, ap, ap₂, subst, ◌∙◌}
use mathlib.Core.Bool.{Bool, true, false, cond}
use mathlib.Core.List.{List, [], ◌∷◌, ◌++◌}
use borrow.Author.Tests.{le-leb, lt-leb, eq-eqb, ne_eqb}
use lib.Dec.{eqb, leb}
use lib.IntN.{ℤ, pos, negsuc}
use lib.ListN.{length, get_or, take, drop, length-drop, drop_of_length-le}
use lib.Seq.{drop-cons, drop-drop}
use Rattle.packing.proofs.Cells.{below_is, below_not}
use Rattle.messages.specs.Repeats.{repeated, nowhere}
use Rattle.plans.specs.Plans.{Plan, plan, no_plan, with_message, messages_from, plan_of, often, often_in, first_not_once}
use Rattle.packing.specs.Entries.{below}
use Rattle.plans.specs.Steps.{Twice, CountedAll, Tallied, Tally}

-- ---- messages, taken from cells

pub too_many : (m : ℕ) (cells : List ℤ) → length cells < m → messages_from m cells ≡ no_plan
unfolding messages_from with_message
too_many zero cells h = absurd (omega arith)
too_many (suc m) [] h = refl
too_many (suc m) (negsuc n ∷ cells) h = refl
too_many (suc m) (pos n ∷ cells) h = go (leb n (length cells)) (too_many m (drop n cells) (omega (arith, length-drop n cells)))
  where
    go : (b : Bool) → messages_from m (drop n cells) ≡ no_plan → cond b (with_message (take n cells) (messages_from m (drop n cells))) no_plan ≡ no_plan
    go true e = ap (with_message (take n cells)) e
    go false e = refl

-- these messages, and then others
pub before : List (List ℤ) → Plan → Plan
before [] p = p
before (cells ∷ held) p = with_message cells (before held p)

before_more : (held : List (List ℤ)) (cells : List ℤ) (p : Plan) → before (held ++ cells ∷ []) p ≡ before held (with_message cells p)
unfolding before
before_more [] cells p = refl
before_more (first ∷ held) cells p = ap (with_message first) (before_more held cells p)

before_none : (held : List (List ℤ)) → before held no_plan ≡ no_plan
unfolding before with_message
before_none [] = refl
before_none (first ∷ held) = ap (with_message first) (before_none held)

before_all : (held : List (List ℤ)) → before held (plan []) ≡ plan held
unfolding before with_message
before_all [] = refl
before_all (first ∷ held) = ap (with_message first) (before_all held)

often_more : (i : ℕ) (held : List (List ℤ)) (cells : List ℤ) → often_in i (held ++ cells ∷ []) ≡ often_in i held + often i cells
unfolding often_in
often_more i [] cells = omega arith
often_more i (first ∷ held) cells = omega (arith, often_more i held cells)

-- ---- what is taken so far

module _ (cells : List ℤ) (count : ℕ) where
  pub record Going (left at : ℕ) (times : List ℕ) : Type 0 where
    pub held : List (List ℤ)
    pub goes : before held (messages_from left (drop at cells)) ≡ plan_of cells
    pub counts : (j : ℕ) → j < count → get_or times j 0 ≡ min (often_in j held) 2

  pub goes_small : (left at : ℕ) (times : List ℕ) → Going left at times → Twice count times
  goes_small left at times G j h = omega (arith, G.counts j h)

  -- a plan that is none
  refused_by : (times : List ℕ) → plan_of cells ≡ no_plan → Tallied (plan_of cells) count times false
  refused_by times e = subst (λ (p : Plan). Tallied p count times false) (sym e) refl

  pub no_cells : (times : List ℕ) → length cells ≡ 0 → Tallied (plan_of cells) count times false
  unfolding plan_of
  no_cells times e = refused_by times (go cells e)
    where
      go : (l : List ℤ) → length l ≡ 0 → plan_of l ≡ no_plan
      go [] z = refl
      go (x ∷ xs) z = absurd (omega arith)

  module _ {m : ℕ} (em : m ≡ below (length cells) (get_or cells 0 (pos 0))) (some : ¬ (length cells ≡ 0)) where
    pub begins_not : (times : List ℕ) → length cells ≤ m → Tallied (plan_of cells) count times false
    unfolding plan_of
    begins_not times h = refused_by times (go cells (λ n is. below_not (length cells) (get_or cells 0 (pos 0)) em h n is))
      where
        go : (l : List ℤ) → ((n : ℕ) → get_or l 0 (pos 0) ≡ pos n → length l ≤ n) → plan_of l ≡ no_plan
        go [] far = refl
        go (negsuc n ∷ xs) far = refl
        go (pos n ∷ xs) far = too_many n xs (omega (arith, far n refl))

    pub begins : (times : List ℕ) → ((j : ℕ) → j < count → get_or times j 0 ≡ 0) → m < length cells → Going m 1 times
    unfolding plan_of before often_in
    begins times clear h = record { held = []; goes = go cells (below_is (length cells) (get_or cells 0 (pos 0)) em h) some; counts = λ j l. clear j l }
      where
        go : (l : List ℤ) → get_or l 0 (pos 0) ≡ pos m → ¬ (length l ≡ 0) → messages_from m (drop 1 l) ≡ plan_of l
        go [] is isnt = absurd (isnt refl)
        go (x ∷ xs) is isnt = sym (ap (λ (z : ℤ). plan_of (z ∷ xs)) is)

  -- ---- the next message

  module _ (left at : ℕ) (times : List ℕ) (G : Going left at times) (more : 0 < left) where
    one_more : messages_from left (drop at cells) ≡ messages_from (suc (left - 1)) (drop at cells)
    one_more = let z : left ≡ suc (left - 1) = omega arith in ap (λ (k : ℕ). messages_from k (drop at cells)) z

    none_left : messages_from left (drop at cells) ≡ no_plan → plan_of cells ≡ no_plan
    none_left e = sym G.goes ∙ ap (before G.held) e ∙ before_none G.held

    pub cells_end : length cells ≤ at → Tallied (plan_of cells) count times false
    unfolding messages_from
    cells_end h = refused_by times (none_left (one_more ∙ ap (messages_from (suc (left - 1))) (drop_of_length-le cells h)))

    module _ (inside : at < length cells) {room : ℕ} (er : room ≡ length cells - at) {n : ℕ} (en : n ≡ below room (get_or cells at (pos 0))) where
      rest : List ℤ
      rest = drop (suc at) cells

      rest_long : length rest + 1 ≡ room
      unfolding rest
      rest_long = omega (arith, length-drop (suc at) cells, er)

      this : drop at cells ≡ get_or cells at (pos 0) ∷ rest
      unfolding rest
      this = drop-cons cells at (pos 0) inside

      pub wrong_count : room ≤ n → Tallied (plan_of cells) count times false
      unfolding messages_from
      wrong_count h = refused_by times (none_left (one_more ∙ ap (messages_from (suc (left - 1))) this ∙ go (get_or cells at (pos 0)) (λ k is. below_not room (get_or cells at (pos 0)) en h k is)))
        where
          go : (z : ℤ) → ((k : ℕ) → z ≡ pos k → room ≤ k) → messages_from (suc (left - 1)) (z ∷ rest) ≡ no_plan
          go (negsuc k) far = refl
          go (pos k) far = rw (lt-leb k (length rest) (omega (arith, far k refl, rest_long))) refl

      pub next_message : n < room → {after : List ℕ} → CountedAll (take n (drop (at + 1) cells)) count times after → Going (left - 1) (at + 1 + n) after
      unfolding messages_from rest
      next_message h {after} C =
          let here : at + 1 ≡ suc at = omega arith in
          let own = take n (drop (at + 1) cells) in
          let rests : drop (at + 1 + n) cells ≡ drop n (drop (at + 1) cells) = sym (drop-drop n (at + 1) cells) in
          let split : messages_from left (drop at cells) ≡ with_message own (messages_from (left - 1) (drop (at + 1 + n) cells)) =
          one_more ∙ ap (messages_from (suc (left - 1))) (this ∙ ap (λ (z : ℤ). z ∷ drop (suc at) cells) (below_is room (get_or cells at (pos 0)) en h))
          ∙ rw (le-leb n (length (drop (suc at) cells)) (omega (arith, h, rest_long))) refl
          ∙ ap₂ (λ (a b : List ℤ). with_message (take n a) (messages_from (left - 1) b)) (ap (λ (k : ℕ). drop k cells) (sym here)) (ap (λ (k : ℕ). drop n (drop k cells)) (sym here) ∙ sym rests) in
          record {
            held = G.held ++ own ∷ [];
            goes = before_more G.held own (messages_from (left - 1) (drop (at + 1 + n) cells)) ∙ sym (ap (before G.held) split) ∙ G.goes;
            counts = λ j l. omega (arith, C.all j l, G.counts j l, often_more j G.held own);
          }

  -- ---- behind the last one

  pub ends : (left at : ℕ) (times : List ℕ) → Going left at times → left ≡ 0 → at ≤ length cells → (r : Bool) → r ≡ eqb at (length cells) → Tallied (plan_of cells) count times r
  unfolding messages_from
  ends left at times G z inside r e = go (eqb at (length cells)) refl e (drop at cells) refl
    where
      go : (b : Bool) → eqb at (length cells) ≡ b → r ≡ b → (l : List ℤ) → drop at cells ≡ l → Tallied (plan_of cells) count times r
      go b u v [] d =
          let all : plan G.held ≡ plan_of cells = sym (ap₂ (λ (n : ℕ) (k : List ℤ). before G.held (messages_from n k)) z d ∙ before_all G.held) ∙ G.goes in
          let full : at ≡ length cells = omega (arith, length-drop at cells, ap length d) in
          subst (λ (p : Plan). Tallied p count times r) all (v ∙ sym u ∙ eq-eqb at (length cells) full, G.counts)
      go b u v (x ∷ xs) d =
          let none : no_plan ≡ plan_of cells = sym (ap₂ (λ (n : ℕ) (k : List ℤ). before G.held (messages_from n k)) z d ∙ before_none G.held) ∙ G.goes in
          subst (λ (p : Plan). Tallied p count times r) none (v ∙ sym u ∙ ne_eqb at (length cells) (λ y. omega (arith, y, length-drop at cells, ap length d)))

-- ---- the first entry that does not stand once

module _ (messages : List (List ℤ)) (count : ℕ) (times : List ℕ) (tally : Tally messages count times) (i : ℕ) (h : i < count) where
  step : first_not_once i (count - i) messages ≡ cond (eqb (often_in i messages) 1) (first_not_once (suc i) (count - (i + 1)) messages) (repeated i)
  unfolding first_not_once
  step = let z : count - i ≡ suc (count - (i + 1)) = omega arith in ap (λ (n : ℕ). first_not_once i n messages) z

  pub not_once : ¬ (get_or times i 0 ≡ 1) → first_not_once i (count - i) messages ≡ repeated i
  not_once isnt = step ∙ rw (ne_eqb (often_in i messages) 1 (λ z. isnt (omega (arith, tally i h, z)))) refl

  pub once : get_or times i 0 ≡ 1 → first_not_once (i + 1) (count - (i + 1)) messages ≡ first_not_once i (count - i) messages
  once is =
      let z : i + 1 ≡ suc i = omega arith in
      ap (λ (n : ℕ). first_not_once n (count - (i + 1)) messages) z ∙ sym (step ∙ rw (eq-eqb (often_in i messages) 1 (omega (arith, tally i h, is))) refl)

pub all_once : (messages : List (List ℤ)) (count i : ℕ) → count ≤ i → first_not_once i (count - i) messages ≡ nowhere
unfolding first_not_once
all_once messages count i h = let z : count - i ≡ 0 = omega arith in ap (λ (n : ℕ). first_not_once i n messages) z
