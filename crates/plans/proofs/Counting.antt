-- An entry stands exactly once where it is counted once, and the other way round.
-- Assumes nothing.
use Prim.Native.Nat.{ℕ, zero, suc, ◌+◌}
use native.Mathlib.Omega.{arith}
use mathlib.Core.Path.{◌≡◌, refl, sym, ap, subst, ◌∙◌}
use mathlib.Core.Bool.{Bool, true, false, cond}
use mathlib.Core.List.{List, [], ◌∷◌}
use borrow.Author.Tests.{eqb-true, eq-eqb}
use lib.IntN.{ℤ, pos, negsuc}
use Rattle.messages.specs.Places.{At}
use Rattle.plans.specs.Plans.{is_entry, often, often_in}
use Rattle.plans.specs.Sentences.{Stands, Once}
use Rattle.packing.proofs.Tests.{apart}

-- ---- one cell

is_entry_lem : (i : ℕ) (cell : ℤ) → is_entry i cell ≡ true → pos i ≡ cell
unfolding is_entry
is_entry_lem i (pos n) e = ap pos (sym (eqb-true n i e))
is_entry_lem i (negsuc n) e = apart e

entry_is : (i : ℕ) → is_entry i (pos i) ≡ true
unfolding is_entry
entry_is i = eq-eqb i i refl

-- ---- the numbers of one message

module _ (i : ℕ) where
  pub never : (cells : List ℤ) → often i cells ≡ 0 → (p : ℕ) → At p (pos i) cells → ⊥
  unfolding often
  never [] e p s = s
  never (cell ∷ cells) e p s = go (is_entry i cell) refl e p s (never cells)
    where
      go : (b : Bool) → is_entry i cell ≡ b → cond b (suc (often i cells)) (often i cells) ≡ 0 → (p : ℕ) → At p (pos i) (cell ∷ cells) → (often i cells ≡ 0 → (p : ℕ) → At p (pos i) cells → ⊥) → ⊥
      go true u v p s later = omega arith
      go false u v zero s later = apart (sym u ∙ ap (is_entry i) (sym s) ∙ entry_is i)
      go false u v (suc p) s later = later v p s

  pub not_at_all : (cells : List ℤ) → ((p : ℕ) → At p (pos i) cells → ⊥) → often i cells ≡ 0
  unfolding often
  not_at_all [] none = refl
  not_at_all (cell ∷ cells) none = go (is_entry i cell) refl (not_at_all cells (λ p. none (suc p)))
    where
      go : (b : Bool) → is_entry i cell ≡ b → often i cells ≡ 0 → cond b (suc (often i cells)) (often i cells) ≡ 0
      go true u z = absurd (none 0 (is_entry_lem i cell u))
      go false u z = z

  abbrev pub OnceAmong : List ℤ → Type 0
  OnceAmong cells = (p : ℕ) × At p (pos i) cells × ((q : ℕ) → At q (pos i) cells → q ≡ p)

  pub once_among : (cells : List ℤ) → often i cells ≡ 1 → OnceAmong cells
  unfolding often
  once_among [] e = absurd (omega arith)
  once_among (cell ∷ cells) e = go (is_entry i cell) refl e (once_among cells)
    where
      go : (b : Bool) → is_entry i cell ≡ b → cond b (suc (often i cells)) (often i cells) ≡ 1 → (often i cells ≡ 1 → OnceAmong cells) → OnceAmong (cell ∷ cells)
      go true u v later = (0, is_entry_lem i cell u, only)
        where
          only : (q : ℕ) → At q (pos i) (cell ∷ cells) → q ≡ 0
          only zero s = refl
          only (suc q) s = absurd (never cells (omega arith) q s)
      go false u v later = let (p, s, only) = later v in (suc p, s, further (later v))
        where
          further : (L : OnceAmong cells) → (q : ℕ) → At q (pos i) (cell ∷ cells) → q ≡ suc L.0
          further L zero s = apart (sym u ∙ ap (is_entry i) (sym s) ∙ entry_is i)
          further L (suc q) s = ap suc (L.2 q s)

  pub among_once : (cells : List ℤ) → OnceAmong cells → often i cells ≡ 1
  unfolding often
  among_once [] O = absurd O.1
  among_once (cell ∷ cells) (zero, s, only) =
      let b : is_entry i cell ≡ true = ap (is_entry i) (sym s) ∙ entry_is i in
      let none = not_at_all cells (λ q t. let z : suc q ≡ 0 = only (suc q) t in omega arith) in
      rw b (ap suc none)
  among_once (cell ∷ cells) (suc p, s, only) = go (is_entry i cell) refl (among_once cells (p, s, λ q t. let z : suc q ≡ suc p = only (suc q) t in omega arith))
    where
      go : (b : Bool) → is_entry i cell ≡ b → often i cells ≡ 1 → cond b (suc (often i cells)) (often i cells) ≡ 1
      go true u v = absurd (let z : 0 ≡ suc p = only 0 (is_entry_lem i cell u) in omega arith)
      go false u v = v

-- ---- all messages

module _ (i : ℕ) where
  pub nowhere_at_all : (messages : List (List ℤ)) → often_in i messages ≡ 0 → (m p : ℕ) → Stands messages i m p → ⊥
  unfolding often_in
  nowhere_at_all [] e m p (cells, s, t) = s
  nowhere_at_all (first ∷ more) e zero p (cells, s, t) = never i first (omega arith) p (subst (At p (pos i)) s t)
  nowhere_at_all (first ∷ more) e (suc m) p (cells, s, t) = nowhere_at_all more (omega arith) m p (cells, s, t)

  in_none : (messages : List (List ℤ)) → ((m p : ℕ) → Stands messages i m p → ⊥) → often_in i messages ≡ 0
  unfolding often_in
  in_none [] none = refl
  in_none (first ∷ more) none =
      let a = not_at_all i first (λ p s. none 0 p (first, refl, s)) in
      let b = in_none more (λ m p S. none (suc m) p S) in
      omega (arith, a, b)

  pub once_in : (messages : List (List ℤ)) → often_in i messages ≡ 1 → Once messages i
  unfolding often_in
  once_in [] e = absurd (omega arith)
  once_in (first ∷ more) e = go (often i first) refl e (once_in more)
    where
      go : (n : ℕ) → often i first ≡ n → n + often_in i more ≡ 1 → (often_in i more ≡ 1 → Once more i) → Once (first ∷ more) i
      go zero u v later = let O = later (omega arith) in (suc O.0, O.1, O.2, others O)
        where
          others : (O : Once more i) → (n q : ℕ) → Stands (first ∷ more) i n q → (n ≡ suc O.0) × (q ≡ O.1)
          others O zero q (cells, s, t) = absurd (never i first u q (subst (At q (pos i)) s t))
          others O (suc n) q S = let r = O.3 n q S in (ap suc r.0, r.1)
      go (suc zero) u v later = let A = once_among i first u in (0, A.0, (first, refl, A.1), others A)
        where
          others : (A : (p : ℕ) × At p (pos i) first × ((q : ℕ) → At q (pos i) first → q ≡ p)) → (n q : ℕ) → Stands (first ∷ more) i n q → (n ≡ 0) × (q ≡ A.0)
          others A zero q (cells, s, t) = (refl, A.2 q (subst (At q (pos i)) s t))
          others A (suc n) q S = absurd (nowhere_at_all more (omega arith) n q S)
      go (suc (suc n)) u v later = absurd (omega arith)

  pub in_once : (messages : List (List ℤ)) → Once messages i → often_in i messages ≡ 1
  unfolding often_in
  in_once [] (m, p, (cells, s, t), only) = absurd s
  in_once (first ∷ more) (zero, p, (cells, s, t), only) =
      let here = among_once i first (p, subst (At p (pos i)) s t, λ q a. (only 0 q (first, refl, a)).1) in
      let none = in_none more (λ n q S. let z : suc n ≡ 0 = (only (suc n) q S).0 in omega arith) in
      omega (arith, here, none)
  in_once (first ∷ more) (suc m, p, S, only) =
      let here = not_at_all i first (λ q a. let z : 0 ≡ suc m = (only 0 q (first, refl, a)).0 in omega arith) in
      let rest = in_once more (m, p, S, λ n q T. (let z : suc n ≡ suc m = (only (suc n) q T).0 in let y : n ≡ m = omega arith in (y, (only (suc n) q T).1))) in
      omega (arith, here, rest)
