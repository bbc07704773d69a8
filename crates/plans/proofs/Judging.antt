-- The messages of a plan, taken one by one: the first one that is not good.
-- Assumes nothing.
use Prim.Native.Nat.{ℕ, suc, ◌+◌, ◌-◌, ◌<◌, ◌≤◌}
use native.Mathlib.Omega.{arith}
use native.Mathlib.Decide.{dec_lt}
use mathlib.Core.Path.{◌≡◌, refl, sym, ap, ap₂, ◌∙◌}
use mathlib.Core.Bool.{Bool, true, false, cond}
use mathlib.Core.List.{List, [], ◌∷◌}
use borrow.Author.Tests.{leb-true, lt-ltb}
use lib.Dec.{leb}
use lib.IntN.{ℤ, pos, negsuc}
use lib.ListN.{length, get_or, take, drop, length-drop}
use lib.Seq.{drop-cons, drop-drop}
use Rattle.answers.specs.GivenBack as given
use Rattle.messages.specs.Repeats.{Repeat, repeated, nowhere, or_else}
use Rattle.rules.specs.Rsi.{ruling, passes}
use Rattle.packing.specs.Entries.{below}
use Rattle.plans.specs.Plans.{Plan, plan, no_plan, with_message, messages_from, plan_of, first_bad}
use Rattle.plans.specs.Steps.{IsPlan}
use Rattle.plans.proofs.Tallying.{too_many}

-- ---- a plan, taken apart

no_plan_is : {messages : List (List ℤ)} {P : Type 0} → no_plan ≡ plan messages → P
no_plan_is e = absurd (let z : ◌≡◌ {A = ℕ} 0 1 = cc in omega arith)

messaged : (cells : List ℤ) (p : Plan) {messages : List (List ℤ)} → with_message cells p ≡ plan messages → (more : List (List ℤ)) × (p ≡ plan more) × (messages ≡ cells ∷ more)
unfolding with_message
messaged cells (plan more) e = (more, refl, cc)
messaged cells no_plan e = no_plan_is e

pub record Split (k : ℕ) (cells : List ℤ) (messages : List (List ℤ)) : Type 0 where
  pub count : ℕ
  pub behind : List ℤ
  pub is : cells ≡ pos count ∷ behind
  pub enough : count ≤ length behind
  pub more : List (List ℤ)
  pub then : messages_from k (drop count behind) ≡ plan more
  pub all : messages ≡ take count behind ∷ more

split : (k : ℕ) (cells : List ℤ) {messages : List (List ℤ)} → messages_from (suc k) cells ≡ plan messages → Split k cells messages
unfolding messages_from
split k [] e = no_plan_is e
split k (negsuc n ∷ xs) e = no_plan_is e
split k (pos n ∷ xs) {messages} e = go (leb n (length xs)) refl e
  where
    go : (b : Bool) → leb n (length xs) ≡ b → cond b (with_message (take n xs) (messages_from k (drop n xs))) no_plan ≡ plan messages → Split k (pos n ∷ xs) messages
    go false u v = no_plan_is v
    go true u v =
        let M = messaged (take n xs) (messages_from k (drop n xs)) v in
        record { count = n; behind = xs; is = refl; enough = leb-true n (length xs) u; more = M.0; then = M.1; all = M.2 }

-- ---- one by one

module _ (cells : List ℤ) (good : List ℤ → Bool) where
  pub record Going (many at m : ℕ) : Type 0 where
    pub rest : List (List ℤ)
    pub left : messages_from (many - m) (drop at cells) ≡ plan rest
    pub goes : (messages : List (List ℤ)) → IsPlan cells messages → first_bad good m rest ≡ first_bad good 0 messages

  pub begins : {messages : List (List ℤ)} → IsPlan cells messages → {many : ℕ} → many ≡ below (length cells) (get_or cells 0 (pos 0)) → Going many 1 0
  unfolding plan_of below
  begins {messages} e {many} em = let R = go cells e em in record { rest = R.0; left = R.1; goes = R.2 }
    where
      same_plan : (l : List ℤ) (other : List (List ℤ)) → plan_of l ≡ plan messages → IsPlan l other → messages ≡ other
      same_plan l other u v = let both : plan messages ≡ plan other = sym u ∙ v in cc both

      go : (l : List ℤ) → plan_of l ≡ plan messages → many ≡ below (length l) (get_or l 0 (pos 0)) → (rest : List (List ℤ)) × (messages_from (many - 0) (drop 1 l) ≡ plan rest) × ((other : List (List ℤ)) → IsPlan l other → first_bad good 0 rest ≡ first_bad good 0 other)
      go [] u v = no_plan_is u
      go (negsuc n ∷ xs) u v = no_plan_is u
      go (pos n ∷ xs) u v = by (dec_lt (length xs) n)
        where
          by : Dec (length xs < n) → (rest : List (List ℤ)) × (messages_from (many - 0) (drop 1 (pos n ∷ xs)) ≡ plan rest) × ((other : List (List ℤ)) → IsPlan (pos n ∷ xs) other → first_bad good 0 rest ≡ first_bad good 0 other)
          by (yes h) = no_plan_is (sym (too_many n xs h) ∙ u)
          by (no h) =
              let is : many ≡ n = v ∙ rw (lt-ltb n (length (pos n ∷ xs)) (omega arith)) refl in
              let z : many - 0 ≡ n = omega (arith, is) in
              (messages, ap (λ (k : ℕ). messages_from k xs) z ∙ u, λ other w. ap (first_bad good 0) (same_plan (pos n ∷ xs) other u w))

  module _ (many at m : ℕ) (G : Going many at m) (some : m < many) {n : ℕ} (en : n ≡ below (length cells) (get_or cells at (pos 0))) where
    S : Split (many - (m + 1)) (drop at cells) G.rest
    S = let z : suc (many - (m + 1)) ≡ many - m = omega arith in split (many - (m + 1)) (drop at cells) (ap (λ (k : ℕ). messages_from k (drop at cells)) z ∙ G.left)

    inside : at < length cells
    inside = omega (arith, length-drop at cells, ap length S.is)

    parts : get_or cells at (pos 0) ∷ drop (suc at) cells ≡ pos S.count ∷ S.behind
    parts = sym (drop-cons cells at (pos 0) inside) ∙ S.is

    behind_is : drop (at + 1) cells ≡ S.behind
    behind_is = let z : at + 1 ≡ suc at = omega arith in ap (λ (k : ℕ). drop k cells) z ∙ (cc parts)

    count_is : n ≡ S.count
    unfolding below
    count_is =
        let cell : get_or cells at (pos 0) ≡ pos S.count = cc parts in
        en ∙ ap (below (length cells)) cell ∙ rw (lt-ltb S.count (length cells) (omega (arith, length-drop at cells, ap length S.is, S.enough))) refl

    pub within : at + 1 + n ≤ length cells
    within = omega (arith, length-drop at cells, ap length S.is, S.enough, count_is)

    rest_is : take n (drop (at + 1) cells) ∷ S.more ≡ G.rest
    rest_is = ap₂ (λ (k : ℕ) (l : List ℤ). take k l ∷ S.more) count_is behind_is ∙ sym S.all

    pub stops : good (take n (drop (at + 1) cells)) ≡ false → (messages : List (List ℤ)) → IsPlan cells messages → ruling given.wrong_message m ≡ or_else (ruling given.wrong_message) (first_bad good 0 messages) passes
    unfolding first_bad or_else
    stops e messages p =
        let found : first_bad good 0 messages ≡ repeated m = sym (G.goes messages p) ∙ ap (first_bad good m) (sym rest_is) ∙ rw e refl in
        sym (ap (λ (x : Repeat). or_else (ruling given.wrong_message) x passes) found)

    pub goes_on : good (take n (drop (at + 1) cells)) ≡ true → Going many (at + 1 + n) (m + 1)
    unfolding first_bad
    goes_on e =
        let onward : drop (at + 1 + n) cells ≡ drop S.count S.behind = sym (drop-drop n (at + 1) cells) ∙ ap₂ (λ (k : ℕ) (l : List ℤ). drop k l) count_is behind_is in
        let z : m + 1 ≡ suc m = omega arith in
        record {
          rest = S.more;
          left = ap (messages_from (many - (m + 1))) onward ∙ S.then;
          goes = λ messages p. ap (λ (k : ℕ). first_bad good k S.more) z ∙ sym (ap (first_bad good m) (sym rest_is) ∙ rw e refl) ∙ G.goes messages p;
        }

  pub ends : (many at m : ℕ) → Going many at m → many ≤ m → (messages : List (List ℤ)) → IsPlan cells messages → passes ≡ or_else (ruling given.wrong_message) (first_bad good 0 messages) passes
  unfolding messages_from first_bad or_else
  ends many at m G h messages p =
      let none : G.rest ≡ [] = last (drop at cells) (ap (λ (k : ℕ). messages_from k (drop at cells)) zero_left ∙ G.left) in
      let found : first_bad good 0 messages ≡ nowhere = sym (G.goes messages p) ∙ ap (first_bad good m) none in
      sym (ap (λ (x : Repeat). or_else (ruling given.wrong_message) x passes) found)
    where
      zero_left : 0 ≡ many - m
      zero_left = omega arith

      last : (l : List ℤ) → messages_from 0 l ≡ plan G.rest → G.rest ≡ []
      last [] e = let both : plan [] ≡ plan G.rest = e in cc both
      last (x ∷ xs) e = no_plan_is e
