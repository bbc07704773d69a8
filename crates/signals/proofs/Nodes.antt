-- The nodes of a map, one by one: which entry is a node's, what it does not list, and the first node that fails.
-- Assumes nothing.
use Prim.Native.Nat.{ℕ, suc, ◌+◌, ◌*◌, ◌<◌, ◌≤◌}
use native.Mathlib.Decide.{ℕ_discrete}
use native.Mathlib.Omega.{arith}
use mathlib.Core.Path.{◌≡◌, refl, sym, ap, subst, ◌∙◌}
use mathlib.Core.Bool.{Bool, true, false, cond}
use mathlib.Core.List.{List}
use borrow.Author.Tests.{ne_eqb}
use lib.IntN.{ℤ}
use Rattle.std.proofs.Common.{Option, Some, None}
use lib.ListN.{get_or}
use Rattle.answers.specs.GivenBack as given
use Rattle.meaning.specs.Values.{Value, Values, no_items, item}
use Rattle.sheet.specs.Values.{parts_of}
use Rattle.sheet.specs.Standing.{Stands}
use Rattle.sheet.specs.declared.Listing.{Listing}
use Rattle.messages.specs.Taking.{many}
use Rattle.messages.specs.Seeking.{Sought}
use Rattle.messages.specs.Seeking.Sought.{at_end, told_here, told_later}
use Rattle.messages.proofs.Keys.{Position}
use Rattle.signals.specs.Components.{intersection_id}
use Rattle.signals.specs.References.{Reference, same, reference_at}
use Rattle.signals.specs.Signal.{verdict, agrees, first_unlisted, listed_in, unlisted_in, node_unlisted, first_node}
use Rattle.signals.specs.Steps.{key_of, Small, flags_each, Flagged, Filed, Found, node_row}
use Rattle.signals.proofs.Keys.{same_is, is_same, key_is}
use Rattle.signals.specs.Verdict.{Verdict}

-- ---- the entry of a node

module _ (keys : List ℕ) (flags : List Bool) (node : Reference) (small : Small node) {key : ℕ} (is : key ≡ key_of node) (used : List ℕ) where
  -- the phases that entry p lists are those that decide
  pub record Decides (p : ℕ) (vs : Values) : Type 0 where
    pub listed : ℕ → Bool
    pub flagged : Flagged flags (flags_each * p) listed
    pub decides : unlisted_in node used vs ≡ first_unlisted listed used

  -- entry i and those behind it; p is the first of them that has the key, or behind them all
  record From (i p : ℕ) (vs : Values) : Type 0 where
    past : i ≤ p
    before : (j : ℕ) → i ≤ j → j < p → get_or keys j 0 ≡ key → ⊥
    found : p < i + many vs → get_or keys p 0 ≡ key

  module _ (i p : ℕ) (v : Value) (more : Values) (own : get_or keys i 0 ≡ key_of (reference_at intersection_id (parts_of v))) (mine : Small (reference_at intersection_id (parts_of v))) (F : From i p (item v more)) where
    here : same node (reference_at intersection_id (parts_of v)) ≡ true → p ≡ i
    here e = go (ℕ_discrete p i)
      where
        go : Dec (p ≡ i) → p ≡ i
        go (yes z) = z
        go (no z) = absurd (F.before i (omega arith) (omega (arith, F.past, z)) (own ∙ sym (ap key_of (same_is node (reference_at intersection_id (parts_of v)) e)) ∙ sym is))

    further : same node (reference_at intersection_id (parts_of v)) ≡ false → From (suc i) p more
    unfolding many
    further e = record { past = go (ℕ_discrete p i); before = λ j h. F.before j (omega arith); found = λ h. F.found (omega arith) }
      where
        go : Dec (p ≡ i) → suc i ≤ p
        go (no z) = omega (arith, F.past, z)
        go (yes z) =
            let k : key_of node ≡ key_of (reference_at intersection_id (parts_of v)) = sym is ∙ sym (F.found (omega arith)) ∙ ap (λ (n : ℕ). get_or keys n 0) z ∙ own in
            let b : ◌≡◌ true false = sym (is_same node) ∙ ap (same node) (key_is node (reference_at intersection_id (parts_of v)) small mine k) ∙ e in
            absurd (let y : ◌≡◌ {A = ℕ} 0 1 = cc in omega arith)

  decided : (i p : ℕ) (vs : Values) → Filed keys flags i vs → From i p vs → p < i + many vs → Decides p vs
  unfolding many unlisted_in
  decided i p no_items filed F h = absurd (omega (arith, F.past))
  decided i p (item v more) filed F h = go (same node (reference_at intersection_id (parts_of v))) refl (λ G. decided (suc i) p more filed.3 G (omega arith))
    where
      go : (b : Bool) → same node (reference_at intersection_id (parts_of v)) ≡ b → (From (suc i) p more → Decides p more) → Decides p (item v more)
      go true e later =
          let z = here i p v more filed.0 filed.1 F e in
          record { listed = listed_in (parts_of v); flagged = subst (λ (n : ℕ). Flagged flags (flags_each * n) (listed_in (parts_of v))) (sym z) filed.2; decides = rw e refl }
      go false e later = let D = later (further i p v more filed.0 filed.1 F e) in record { listed = D.listed; flagged = D.flagged; decides = rw e D.decides }

  none : (i p : ℕ) (vs : Values) → Filed keys flags i vs → From i p vs → i + many vs ≤ p → unlisted_in node used vs ≡ 0
  unfolding many unlisted_in
  none i p no_items filed F h = refl
  none i p (item v more) filed F h = go (same node (reference_at intersection_id (parts_of v))) refl (λ G. none (suc i) p more filed.3 G (omega arith))
    where
      go : (b : Bool) → same node (reference_at intersection_id (parts_of v)) ≡ b → (From (suc i) p more → unlisted_in node used more ≡ 0) → cond b (first_unlisted (listed_in (parts_of v)) used) (unlisted_in node used more) ≡ 0
      go true e later = absurd (omega (arith, here i p v more filed.0 filed.1 F e))
      go false e later = later (further i p v more filed.0 filed.1 F e)

  module _ (vs : Values) {count p : ℕ} (all : many vs ≡ count) (filed : Filed keys flags 0 vs) (P : Position key keys count p) where
    from : From 0 p vs
    from = record { past = omega arith; before = λ j h. P.before j; found = λ h. P.found (omega arith) }

    pub node_decided : p < count → Decides p vs
    node_decided h = decided 0 p vs filed from (omega arith)

    pub node_none : count ≤ p → unlisted_in node used vs ≡ 0
    node_none h = none 0 p vs filed from (omega arith)

-- ---- node by node

module _ (signal : Values) (i : ℕ) {vs : Values} {v : Value} {rest : Values} (is : vs ≡ item v rest) {n : ℕ} (en : n ≡ node_unlisted signal (parts_of v)) where
  pub node_fails : ¬ (n ≡ 0) → verdict given.phase_not_listed i n ≡ first_node signal i vs
  unfolding first_node
  node_fails isnt = rw (is, ← en, ne_eqb n 0 isnt) refl

  pub node_passes : n ≡ 0 → first_node signal (i + 1) rest ≡ first_node signal i vs
  unfolding first_node
  node_passes z = let e : i + 1 ≡ suc i = omega arith in rw (is, ← en, z) (ap (λ (k : ℕ). first_node signal k rest) e)

-- the verdict on the first node that fails
unfoldable pub failed : Option (ℕ × ℕ) → Verdict
failed (Some (i, phase)) = verdict given.phase_not_listed i phase
failed None = agrees

module _ (answers : ℕ → Option ℕ → Type 0) (cells : List ℤ) (list : Listing) (signal : Values) (finds : (place : ℕ) (v : Value) (phase : Option ℕ) → list.row ≡ node_row → Stands cells node_row place v → answers place phase → Found phase (node_unlisted signal (parts_of v))) where
  pub sought_node : (i : ℕ) (vs : Values) (first : Option (ℕ × ℕ)) → Sought answers cells list node_row i vs first → failed first ≡ first_node signal i vs
  unfolding failed first_node
  sought_node i vs first at_end = refl
  sought_node i vs first (told_here {place = place} {v = v} {said = said} er S e) =
      let F : Found (Some said) (node_unlisted signal (parts_of v)) = finds place v (Some said) er S e in
      node_fails signal i refl (sym F.0) F.1
  sought_node i vs first (told_later {place = place} {v = v} {more = more} er S e later) =
      let F : Found None (node_unlisted signal (parts_of v)) = finds place v None er S e in
      let one : suc i ≡ i + 1 = omega arith in
      sought_node (suc i) more first later ∙ ap (λ (k : ℕ). first_node signal k more) one ∙ node_passes signal i refl refl F
