-- The first phase that is used and not listed: of one phase, and of several lists one behind the other.
-- Assumes nothing.
use Prim.Native.Nat.{ℕ, suc}
use mathlib.Core.Path.{◌≡◌, refl, sym, ap, subst, ◌∙◌}
use mathlib.Core.Bool.{Bool, true, false, cond, ◌||◌}
use mathlib.Core.List.{List, [], ◌∷◌, ◌++◌}
use borrow.Author.Tests.{eqb-true, eqb-false}
use lib.Dec.{eqb}
use lib.IntN.{ℤ}
use Rattle.std.proofs.Common.{Option, Some, None}
use Rattle.meaning.specs.Values.{Value, Parts, Values, no_items, item}
use Rattle.sheet.specs.Values.{has, part, parts_of}
use Rattle.sheet.specs.declared.Listing.{Listing}
use Rattle.messages.specs.Message.{number_of}
use Rattle.messages.specs.Seeking.{Sought}
use Rattle.messages.specs.Seeking.Sought.{at_end, told_here, told_later}
use Rattle.messages.proofs.Figures.{part_absent}
use Rattle.signals.specs.Phases.{gathered, phase_at}
use Rattle.signals.specs.Signal.{first_unlisted}
use Rattle.signals.specs.Steps.{Found, Finds}

module _ (listed : ℕ → Bool) where
  -- ---- one phase

  one_listed : (a b : Bool) (p : ℕ) → b ≡ true → cond (a || b) 0 p ≡ 0
  one_listed true b p e = refl
  one_listed false b p e = rw e refl

  pub listed_one : (p : ℕ) → listed p ≡ true → first_unlisted listed (p ∷ []) ≡ 0
  unfolding first_unlisted
  listed_one p e = one_listed (eqb p 0) (listed p) p e

  pub unlisted_one : (p : ℕ) → listed p ≡ false → first_unlisted listed (p ∷ []) ≡ p
  unfolding first_unlisted
  unlisted_one p e = go (eqb p 0) refl
    where
      go : (a : Bool) → eqb p 0 ≡ a → cond (a || listed p) 0 p ≡ p
      go true z = sym (eqb-true p 0 z)
      go false z = rw e refl

  pub none_one : (p : ℕ) → p ≡ 0 → first_unlisted listed (p ∷ []) ≡ 0
  unfolding first_unlisted
  none_one p e = rw e refl

  -- the phase of a movement or a connection; an absent one is told as 0, which is none
  pub phase_one : (k : ℕ) (turn : Parts) → first_unlisted listed (phase_at k turn) ≡ first_unlisted listed (number_of (part k turn) ∷ [])
  unfolding phase_at first_unlisted number_of
  phase_one k turn = go (has k turn) refl
    where
      go : (a : Bool) → has k turn ≡ a → first_unlisted listed (cond a (number_of (part k turn) ∷ []) []) ≡ first_unlisted listed (number_of (part k turn) ∷ [])
      go true e = refl
      go false e = sym (ap (λ (n : ℕ). first_unlisted listed (n ∷ [])) (ap number_of (part_absent k turn e)))

  -- ---- several lists, one behind the other

  pub unlisted_on : (a b : List ℕ) → first_unlisted listed a ≡ 0 → first_unlisted listed (a ++ b) ≡ first_unlisted listed b
  unfolding first_unlisted
  unlisted_on [] b e = refl
  unlisted_on (p ∷ more) b e = go (eqb p 0) refl (listed p) (unlisted_on more b) e
    where
      go : (z : Bool) → eqb p 0 ≡ z → (t : Bool) → (first_unlisted listed more ≡ 0 → first_unlisted listed (more ++ b) ≡ first_unlisted listed b) → cond (z || t) (first_unlisted listed more) p ≡ 0 → cond (z || t) (first_unlisted listed (more ++ b)) p ≡ first_unlisted listed b
      go true ez t further d = further d
      go false ez true further d = further d
      go false ez false further d = absurd (eqb-false p 0 ez d)

  pub unlisted_stops : (a b : List ℕ) → ¬ (first_unlisted listed a ≡ 0) → first_unlisted listed (a ++ b) ≡ first_unlisted listed a
  unfolding first_unlisted
  unlisted_stops [] b isnt = absurd (isnt refl)
  unlisted_stops (p ∷ more) b isnt = go (eqb p 0 || listed p) (unlisted_stops more b) isnt
    where
      go : (t : Bool) → (¬ (first_unlisted listed more ≡ 0) → first_unlisted listed (more ++ b) ≡ first_unlisted listed more) → ¬ (cond t (first_unlisted listed more) p ≡ 0) → cond t (first_unlisted listed (more ++ b)) p ≡ cond t (first_unlisted listed more) p
      go true further d = further d
      go false further d = refl

  pub found_first : (a b : List ℕ) {p : ℕ} → Found (Some p) (first_unlisted listed a) → Found (Some p) (first_unlisted listed (a ++ b))
  found_first a b F = (unlisted_stops a b (λ z. F.1 (sym F.0 ∙ z)) ∙ F.0, F.1)

-- ---- entry by entry

module _ (listed : ℕ → Bool) (f : Parts → List ℕ) {vs : Values} {v : Value} {rest : Values} (is : vs ≡ item v rest) {n : ℕ} (en : n ≡ first_unlisted listed (f (parts_of v))) where
  pub entry_stops : ¬ (n ≡ 0) → n ≡ first_unlisted listed (gathered f vs)
  unfolding gathered
  entry_stops isnt = rw is (en ∙ sym (unlisted_stops listed (f (parts_of v)) (gathered f rest) (λ z. isnt (en ∙ z))))

  pub entry_on : n ≡ 0 → first_unlisted listed (gathered f rest) ≡ first_unlisted listed (gathered f vs)
  unfolding gathered
  entry_on z = rw is (sym (unlisted_on listed (f (parts_of v)) (gathered f rest) (sym en ∙ z)))

entries_end : (listed : ℕ → Bool) (f : Parts → List ℕ) → first_unlisted listed (gathered f no_items) ≡ 0
unfolding gathered first_unlisted
entries_end listed f = refl

-- the phase alone
unfoldable pub phase_of : Option (ℕ × ℕ) → Option ℕ
phase_of (Some (i, phase)) = Some phase
phase_of None = None

pub found_as : {n m : ℕ} → n ≡ m → (phase : Option ℕ) → Found phase n → Found phase m
found_as e phase F = subst (Found phase) e F

module _ (answers : ℕ → Option ℕ → Type 0) (cells : List ℤ) (list : Listing) (row : ℕ) (listed : ℕ → Bool) (uses : Parts → List ℕ) (finds : Finds answers cells list row listed uses) where
  pub sought_phase : (i : ℕ) (vs : Values) (first : Option (ℕ × ℕ)) → Sought answers cells list row i vs first → Found (phase_of first) (first_unlisted listed (gathered uses vs))
  unfolding phase_of
  sought_phase i vs first at_end = entries_end listed uses
  sought_phase i vs first (told_here {place = place} {v = v} {said = said} er S e) =
      let F : Found (Some said) (first_unlisted listed (uses (parts_of v))) = finds place v (Some said) er S e in
      (sym (entry_stops listed uses refl (sym F.0) F.1), F.1)
  sought_phase i vs first (told_later {place = place} {v = v} {more = more} er S e later) =
      let F : Found None (first_unlisted listed (uses (parts_of v))) = finds place v None er S e in
      found_as (entry_on listed uses refl refl F) (phase_of first) (sought_phase (suc i) more first later)
