-- What the search for the first phase that is not listed finds, of a list of phases, of a node, and of the nodes of a map.
-- Assumes nothing.
use Prim.Native.Nat.{ℕ, zero, suc, ◌+◌, ◌<◌}
use native.Mathlib.Omega.{arith}
use mathlib.Core.Path.{◌≡◌, refl, sym, ap, subst, ◌∙◌}
use mathlib.Core.Bool.{Bool, true, false, cond, ◌||◌}
use mathlib.Core.Logic.{◌⊎◌, inl, inr}
use mathlib.Core.List.{List, [], ◌∷◌}
use borrow.Author.Tests.{eqb-true, eqb-false}
use lib.Dec.{eqb}
use Rattle.answers.specs.GivenBack as given
use Rattle.meaning.specs.Values.{Value, Values, no_items, item}
use Rattle.sheet.specs.Values.{parts_of}
use Rattle.messages.specs.Message.{each}
use Rattle.messages.specs.Places.{At, Entry}
use Rattle.messages.proofs.Places.{entry_at}
use Rattle.signals.specs.Components.{intersection_id}
use Rattle.signals.specs.References.{Reference, same, reference_at}
use Rattle.signals.specs.Signal.{verdict, agrees, first_unlisted, listed_in, unlisted_in, node_unlisted, first_node}
use Rattle.signals.specs.Sentences.{Differ}
use Rattle.signals.proofs.Keys.{same_is, is_same}

apart : {P : Type 0} → ◌≡◌ true false → P
apart e = absurd (let z : ◌≡◌ {A = ℕ} 0 1 = cc in omega arith)

-- ---- a list of phases

module _ (listed : ℕ → Bool) where
  -- those at the first places are 0 or listed
  abbrev pub ListedTo : ℕ → List ℕ → Type 0
  ListedTo n ps = (k q : ℕ) → k < n → At k q ps → ¬ (q ≡ 0) → listed q ≡ true

  pub record Unlisted (ps : List ℕ) (p : ℕ) : Type 0 where
    pub place : ℕ
    pub there : At place p ps
    pub some : ¬ (p ≡ 0)
    pub unlisted : listed p ≡ false
    pub first : ListedTo place ps

  one_more : (p n : ℕ) (ps : List ℕ) → (eqb p 0 || listed p) ≡ true → ListedTo n ps → ListedTo (suc n) (p ∷ ps)
  one_more p n ps e all zero q h there some = go (eqb p 0) refl e
    where
      go : (z : Bool) → eqb p 0 ≡ z → (z || listed p) ≡ true → listed q ≡ true
      go true u v = absurd (some (there ∙ eqb-true p 0 u))
      go false u v = ap listed there ∙ v
  one_more p n ps e all (suc k) q h there some = all k q (omega arith) there some

  pub none_unlisted : (ps : List ℕ) → first_unlisted listed ps ≡ 0 → (k q : ℕ) → At k q ps → ¬ (q ≡ 0) → listed q ≡ true
  unfolding first_unlisted
  none_unlisted [] e k q there some = absurd there
  none_unlisted (p ∷ more) e k q there some = go (eqb p 0) refl (listed p) refl e (none_unlisted more)
    where
      go : (z : Bool) → eqb p 0 ≡ z → (t : Bool) → listed p ≡ t → cond (z || t) (first_unlisted listed more) p ≡ 0 → (first_unlisted listed more ≡ 0 → (k q : ℕ) → At k q more → ¬ (q ≡ 0) → listed q ≡ true) → listed q ≡ true
      go true u t v d later = one_more p k more (rw u refl) (λ j r h. later d j r) k q (omega arith) there some
      go false u true v d later = one_more p k more (rw (u, v) refl) (λ j r h. later d j r) k q (omega arith) there some
      go false u false v d later = absurd (eqb-false p 0 u d)

  pub first_unlisted_lem : (ps : List ℕ) → ¬ (first_unlisted listed ps ≡ 0) → Unlisted ps (first_unlisted listed ps)
  unfolding first_unlisted
  first_unlisted_lem [] isnt = absurd (isnt refl)
  first_unlisted_lem (p ∷ more) isnt = go (eqb p 0) refl (listed p) refl isnt (first_unlisted_lem more)
    where
      skip : (eqb p 0 || listed p) ≡ true → Unlisted more (first_unlisted listed more) → Unlisted (p ∷ more) (first_unlisted listed more)
      skip e R = record { place = suc R.place; there = R.there; some = R.some; unlisted = R.unlisted; first = one_more p R.place more e R.first }

      go : (z : Bool) → eqb p 0 ≡ z → (t : Bool) → listed p ≡ t → ¬ (cond (z || t) (first_unlisted listed more) p ≡ 0) → (¬ (first_unlisted listed more ≡ 0) → Unlisted more (first_unlisted listed more)) → Unlisted (p ∷ more) (cond (z || t) (first_unlisted listed more) p)
      go true u t v d later = skip (rw u refl) (later d)
      go false u true v d later = skip (rw (u, v) refl) (later d)
      go false u false v d later = record { place = 0; there = refl; some = eqb-false p 0 u; unlisted = v; first = λ k q h. absurd (omega arith) }

  -- it is the only one
  pub only_unlisted : (ps : List ℕ) (p : ℕ) → Unlisted ps p → first_unlisted listed ps ≡ p
  unfolding first_unlisted
  only_unlisted [] p R = absurd R.there
  only_unlisted (q ∷ more) p R = go R.place R.there R.first (eqb q 0) refl (listed q) refl (λ k there first. only_unlisted more p (record { place = k; there = there; some = R.some; unlisted = R.unlisted; first = first }))
    where
      go : (n : ℕ) → At n p (q ∷ more) → ListedTo n (q ∷ more) → (z : Bool) → eqb q 0 ≡ z → (t : Bool) → listed q ≡ t → ((k : ℕ) → At k p more → ListedTo k more → first_unlisted listed more ≡ p) → cond (z || t) (first_unlisted listed more) q ≡ p
      go zero there first true u t v later = absurd (R.some (there ∙ eqb-true q 0 u))
      go zero there first false u true v later = apart (sym v ∙ ap listed (sym there) ∙ R.unlisted)
      go zero there first false u false v later = sym there
      go (suc n) there first true u t v later = later n there (λ k r h. first (suc k) r (omega arith))
      go (suc n) there first false u true v later = later n there (λ k r h. first (suc k) r (omega arith))
      go (suc n) there first false u false v later = apart (sym (first 0 q (omega arith) refl (eqb-false q 0 u)) ∙ v)

-- ---- a node, by its entry

module _ (node : Reference) (used : List ℕ) where
  abbrev own : Value → Reference
  own v = reference_at intersection_id (parts_of v)

  -- the one entry that has the node's reference decides
  pub entry_decides : (signal : Values) → Differ signal → (j : ℕ) (entry : Value) → Entry j entry signal → node ≡ own entry → unlisted_in node used signal ≡ first_unlisted (listed_in (parts_of entry)) used
  unfolding unlisted_in each
  entry_decides no_items differ j entry e is = absurd e
  entry_decides (item v more) differ j entry e is = go (same node (own v)) refl j e (λ i f. entry_decides more (λ k R. differ (suc k) (R.0, R.1, suc R.2, omega (arith, R.3), R.4)) i entry f is)
    where
      go : (b : Bool) → same node (own v) ≡ b → (j : ℕ) → Entry j entry (item v more) → ((i : ℕ) → Entry i entry more → unlisted_in node used more ≡ first_unlisted (listed_in (parts_of entry)) used) → cond b (first_unlisted (listed_in (parts_of v)) used) (unlisted_in node used more) ≡ first_unlisted (listed_in (parts_of entry)) used
      go true u zero f later = ap (λ (x : Value). first_unlisted (listed_in (parts_of x)) used) (sym f)
      go true u (suc i) f later = absurd (differ (suc i) (own entry, entry_at (reference_at intersection_id) i entry more f, 0, omega arith, sym is ∙ same_is node (own v) u))
      go false u zero f later = apart (sym (is_same node) ∙ ap (same node) (is ∙ ap own f) ∙ u)
      go false u (suc i) f later = later i f

  pub record Entered (signal : Values) : Type 0 where
    pub place : ℕ
    pub entry : Value
    pub there : Entry place entry signal
    pub belongs : node ≡ own entry

  pub some_entry : (signal : Values) → ¬ (unlisted_in node used signal ≡ 0) → Entered signal
  unfolding unlisted_in
  some_entry no_items isnt = absurd (isnt refl)
  some_entry (item v more) isnt = go (same node (own v)) refl isnt (some_entry more)
    where
      go : (b : Bool) → same node (own v) ≡ b → ¬ (cond b (first_unlisted (listed_in (parts_of v)) used) (unlisted_in node used more) ≡ 0) → (¬ (unlisted_in node used more ≡ 0) → Entered more) → Entered (item v more)
      go true u d later = record { place = 0; entry = v; there = refl; belongs = same_is node (own v) u }
      go false u d later = let E = later d in record { place = suc E.place; entry = E.entry; there = E.there; belongs = E.belongs }

-- ---- the nodes of a map

module _ (signal : Values) where
  pub record Failing (map : Values) (m p : ℕ) : Type 0 where
    pub node : Value
    pub there : Entry m node map
    pub is : node_unlisted signal (parts_of node) ≡ p
    pub some : ¬ (p ≡ 0)
    pub first : (k : ℕ) (other : Value) → k < m → Entry k other map → node_unlisted signal (parts_of other) ≡ 0

  abbrev pub AllListed : Values → Type 0
  AllListed map = (k : ℕ) (node : Value) → Entry k node map → node_unlisted signal (parts_of node) ≡ 0

  pub record FailsFrom (i : ℕ) (map : Values) : Type 0 where
    pub place : ℕ
    pub phase : ℕ
    pub is : first_node signal i map ≡ verdict given.phase_not_listed (i + place) phase
    pub failing : Failing map place phase

  -- all nodes pass, or one is the first that fails
  pub first_node_lem : (i : ℕ) (map : Values) → ((first_node signal i map ≡ agrees) × AllListed map) ⊎ FailsFrom i map
  unfolding first_node
  first_node_lem i no_items = inl (refl, λ k node e. absurd e)
  first_node_lem i (item v more) = go (eqb (node_unlisted signal (parts_of v)) 0) refl (first_node_lem (suc i) more)
    where
      n : ℕ
      n = node_unlisted signal (parts_of v)

      both : (P : ℕ → Value → Type 0) → P 0 v → ((k : ℕ) (node : Value) → Entry k node more → P (suc k) node) → (k : ℕ) (node : Value) → Entry k node (item v more) → P k node
      both P one all zero node e = subst (P 0) (sym e) one
      both P one all (suc k) node e = all k node e

      passed : eqb n 0 ≡ true → first_node signal i (item v more) ≡ first_node signal (suc i) more
      passed e = rw e refl

      on : eqb n 0 ≡ true → FailsFrom (suc i) more → FailsFrom i (item v more)
      on e F =
          let z : n ≡ 0 = eqb-true n 0 e in
          let at : suc i + F.place ≡ i + suc F.place = omega arith in
          record {
            place = suc F.place;
            phase = F.phase;
            is = passed e ∙ F.is ∙ ap (λ (m : ℕ). verdict given.phase_not_listed m F.phase) at;
            failing = record {
              node = F.failing.node;
              there = F.failing.there;
              is = F.failing.is;
              some = F.failing.some;
              first = λ k other l there. both (λ (k : ℕ) (w : Value). k < suc F.place → node_unlisted signal (parts_of w) ≡ 0) (λ h. z) (λ j w f h. F.failing.first j w (omega arith) f) k other there l;
            };
          }

      go : (b : Bool) → eqb n 0 ≡ b → ((first_node signal (suc i) more ≡ agrees) × AllListed more) ⊎ FailsFrom (suc i) more → ((first_node signal i (item v more) ≡ agrees) × AllListed (item v more)) ⊎ FailsFrom i (item v more)
      go true e (inl (pass, all)) = inl (passed e ∙ pass, both (λ (k : ℕ) (w : Value). node_unlisted signal (parts_of w) ≡ 0) (eqb-true n 0 e) all)
      go true e (inr F) = inr (on e F)
      go false e later = inr (record {
        place = 0;
        phase = n;
        is = let at : i ≡ i + 0 = omega arith in rw e (ap (λ (m : ℕ). verdict given.phase_not_listed m n) at);
        failing = record { node = v; there = refl; is = refl; some = eqb-false n 0 e; first = λ k other l. absurd (omega arith) };
      })
