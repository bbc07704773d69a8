-- The planner is what the sentences say of it (document 02, A9): its every plan is good and full, the check accepts it, and there is no plan exactly where some
-- single entry alone is over the limit.
-- Assumes nothing.
use Prim.Native.Nat.{ℕ, zero, suc, ◌+◌, ◌<◌, ◌≤◌}
use native.Mathlib.Decide.{dec_lt}
use native.Mathlib.Omega.{arith}
use mathlib.Core.Path.{◌≡◌, refl, sym, ap, ap₂, subst, ◌∙◌}
use mathlib.Core.Bool.{Bool, true, false, cond, ◌&&◌}
use mathlib.Core.Logic.{◌⊎◌, inl, inr}
use mathlib.Core.List.{List, [], ◌∷◌, ◌++◌}
use borrow.Author.Tests.{eq-eqb, ne_eqb, ltb-true, lt-ltb, leb-false, le-leb, lt-leb}
use lib.Dec.{eqb, leb, ltb}
use lib.IntN.{ℤ, pos}
use lib.ListN.{length, get_or, take, drop, length-append}
use lib.Seq.{take-append_seam, drop-append_seam}
use Rattle.answers.specs.Answers.{done, no_room, lent_after}
use Rattle.answers.specs.GivenBack as given
use Rattle.answers.specs.Refusals.{refusal}
use Rattle.answers.specs.declared.Refusal.{Refusal}
use Rattle.answers.proofs.Lent.{lent_filled}
use Rattle.messages.specs.Message.{message_in}
use Rattle.messages.specs.Places.{At}
use Rattle.messages.specs.Repeats.{repeated, nowhere, or_else}
use Rattle.rules.specs.Rsi.{passes}
use Rattle.packing.specs.Entries.{header_in, Pieces, pieces, no_pieces, entries_of, most_in}
use Rattle.packing.specs.Message.{joined, message_octets}
use Rattle.plans.specs.Plans.{plan, with_message, messages_from, plan_of, is_entry, often, often_in, is_in_order, is_empty, named, good_message, is_limit, plan_checked}
use Rattle.plans.specs.Planner.{numbers_from, packed, first_too_long, Made, made, not_made, no_plan, planned_by, planned, message_cells, plan_cells, cells_of, made_answer, plan_answer, plan_after}
use Rattle.plans.specs.Sentences.{Formed, Limit, TooLong, Given, Filled, PlannerSays}
use Rattle.plans.specs.Sentences.PlannerSays.{no_input, no_limit, too_long, plans}
use Rattle.plans.specs.Sentences.PlanSays.{good as good-plan}
use Rattle.plans.specs.Steps.{Alone}
use Rattle.plans.proofs.Counting.{once_in}
use Rattle.plans.proofs.Fitting.{good_fits, fits_good}
use Rattle.plans.proofs.Packed.{numbers_more, numbers_joined, Long, first_long}
use Rattle.plans.proofs.Theorems.{is_limit_lem, limit_is, plan_only}
use Rattle.packing.proofs.Tests.{apart}
use Rattle.answers.specs.declared.reasons.Reason.{Reason}
use Rattle.answers.specs.declared.reasons.Reason.TheVariants as reason
use Rattle.answers.specs.Reasons.{reason_number}

-- ---- entries one behind the other stand once each

often_joined : (i : ℕ) (a b : List ℤ) → often i (a ++ b) ≡ often i a + often i b
unfolding often
often_joined i [] b = omega arith
often_joined i (cell ∷ a) b = go (is_entry i cell) (often_joined i a b)
  where
    go : (t : Bool) → often i (a ++ b) ≡ often i a + often i b → cond t (suc (often i (a ++ b))) (often i (a ++ b)) ≡ cond t (suc (often i a)) (often i a) + often i b
    go true e = omega arith
    go false e = e

often_in_lem : (i : ℕ) (messages : List (List ℤ)) → often_in i messages ≡ often i (joined messages)
unfolding often_in joined often
often_in_lem i [] = refl
often_in_lem i (cells ∷ more) = omega (arith, often_in_lem i more, often_joined i cells (joined more))

often_before : (i j n : ℕ) → i < j → often i (numbers_from j n) ≡ 0
unfolding often numbers_from is_entry
often_before i j zero h = refl
often_before i j (suc n) h = rw (ne_eqb j i (λ z. omega (arith, z))) (often_before i (suc j) n (omega arith))

often_among : (i j n : ℕ) → j ≤ i → i < j + n → often i (numbers_from j n) ≡ 1
unfolding often numbers_from is_entry
often_among i j zero a b = absurd (omega arith)
often_among i j (suc n) a b = go (dec_lt j i) (often_among i (suc j) n)
  where
    go : Dec (j < i) → (suc j ≤ i → i < suc j + n → often i (numbers_from (suc j) n) ≡ 1) → cond (eqb j i) (suc (often i (numbers_from (suc j) n))) (often i (numbers_from (suc j) n)) ≡ 1
    go (yes l) later = rw (ne_eqb j i (λ z. omega (arith, z))) (later (omega arith) (omega arith))
    go (no l) later = let same : j ≡ i = omega arith in rw (eq-eqb j i same) (ap suc (often_before i (suc j) n (omega arith)))

-- ---- the messages that are packed, over any test of a message

module _ (good : List ℤ → Bool) where
  pub packed_good : (from held left : ℕ) → (1 ≤ held → good (numbers_from from held) ≡ true) → ((i : ℕ) → from ≤ i → i < from + held + left → good (numbers_from i 1) ≡ true)
      → (m : ℕ) (cells : List ℤ) → At m cells (packed good from held left) → good cells ≡ true
  unfolding packed
  packed_good from held zero own each m cells s = go (eqb held 0) refl m s
    where
      go : (b : Bool) → eqb held 0 ≡ b → (k : ℕ) → At k cells (cond b [] (numbers_from from held ∷ [])) → good cells ≡ true
      go true e k t = absurd t
      go false e zero t = ap good t ∙ own (by held e)
        where
          by : (n : ℕ) → eqb n 0 ≡ false → 1 ≤ n
          by zero u = apart (sym u)
          by (suc n) u = omega arith
      go false e (suc k) t = absurd t
  packed_good from held (suc left) own each m cells s =
      go (good (numbers_from from (suc held))) refl m s (packed_good from (suc held) left) (packed_good (from + held) 1 left)
    where
      go : (b : Bool) → good (numbers_from from (suc held)) ≡ b → (k : ℕ) → At k cells (cond b (packed good from (suc held) left) (numbers_from from held ∷ packed good (from + held) 1 left))
          → ((1 ≤ suc held → good (numbers_from from (suc held)) ≡ true) → ((i : ℕ) → from ≤ i → i < from + suc held + left → good (numbers_from i 1) ≡ true) → (j : ℕ) (c : List ℤ) → At j c (packed good from (suc held) left) → good c ≡ true)
          → ((1 ≤ 1 → good (numbers_from (from + held) 1) ≡ true) → ((i : ℕ) → from + held ≤ i → i < from + held + 1 + left → good (numbers_from i 1) ≡ true) → (j : ℕ) (c : List ℤ) → At j c (packed good (from + held) 1 left) → good c ≡ true)
          → good cells ≡ true
      go true e k t more other = more (λ _. e) (λ i a b. each i a (omega arith)) k cells t
      go false e zero t more other = ap good t ∙ own (by held e)
        where
          by : (n : ℕ) → good (numbers_from from (suc n)) ≡ false → 1 ≤ n
          by zero u = apart (sym u ∙ each from (omega arith) (omega arith))
          by (suc n) u = omega arith
      go false e (suc k) t more other = other (λ _. each (from + held) (omega arith) (omega arith)) (λ i a b. each i (omega arith) (omega arith)) k cells t

  pub packed_joined : (from held left : ℕ) → joined (packed good from held left) ≡ numbers_from from (held + left)
  unfolding packed joined numbers_from
  packed_joined from held zero = go held
    where
      go : (n : ℕ) → joined (cond (eqb n 0) [] (numbers_from from n ∷ [])) ≡ numbers_from from (n + 0)
      go zero = let z : 0 ≡ 0 + 0 = omega arith in ap (numbers_from from) z
      go (suc n) = rw (ne_eqb (suc n) 0 (λ z. omega (arith, z))) (numbers_joined from (suc n) 0)
  packed_joined from held (suc left) = go (good (numbers_from from (suc held))) (packed_joined from (suc held) left) (packed_joined (from + held) 1 left)
    where
      go : (b : Bool) → joined (packed good from (suc held) left) ≡ numbers_from from (suc held + left) → joined (packed good (from + held) 1 left) ≡ numbers_from (from + held) (1 + left)
          → joined (cond b (packed good from (suc held) left) (numbers_from from held ∷ packed good (from + held) 1 left)) ≡ numbers_from from (held + suc left)
      go true e f = let z : suc held + left ≡ held + suc left = omega arith in e ∙ ap (numbers_from from) z
      go false e f = let z : held + (1 + left) ≡ held + suc left = omega arith in ap (λ (l : List ℤ). numbers_from from held ++ l) f ∙ numbers_joined from held (1 + left) ∙ ap (numbers_from from) z

  -- the first entry of a plan whose open message has some
  numbers_first : (from held i : ℕ) (rest : List ℤ) → 1 ≤ held → pos i ∷ rest ≡ numbers_from from held → i ≡ from
  unfolding numbers_from
  numbers_first from zero i rest h e = absurd (omega arith)
  numbers_first from (suc held) i rest h e = cc e

  packed_first : (from held left : ℕ) → 1 ≤ held → (i : ℕ) (rest : List ℤ) → At 0 (pos i ∷ rest) (packed good from held left) → i ≡ from
  unfolding packed
  packed_first from held zero h i rest s = numbers_first from held i rest h (rw (ne_eqb held 0 (λ z. omega (arith, z))) at s)
  packed_first from held (suc left) h i rest s = go (good (numbers_from from (suc held))) s (packed_first from (suc held) left (omega arith) i rest)
    where
      go : (b : Bool) → At 0 (pos i ∷ rest) (cond b (packed good from (suc held) left) (numbers_from from held ∷ packed good (from + held) 1 left))
          → (At 0 (pos i ∷ rest) (packed good from (suc held) left) → i ≡ from) → i ≡ from
      go true t later = later t
      go false t later = numbers_first from held i rest h t

  pub packed_full : (from held left m i : ℕ) (cells rest : List ℤ) → At m cells (packed good from held left) → At (suc m) (pos i ∷ rest) (packed good from held left) → good (cells ++ pos i ∷ []) ≡ false
  unfolding packed
  packed_full from held zero m i cells rest s t = go (eqb held 0) m s t
    where
      go : (b : Bool) (k : ℕ) → At k cells (cond b [] (numbers_from from held ∷ [])) → At (suc k) (pos i ∷ rest) (cond b [] (numbers_from from held ∷ [])) → good (cells ++ pos i ∷ []) ≡ false
      go true k u v = absurd u
      go false k u v = absurd v
  packed_full from held (suc left) m i cells rest s t =
      go (good (numbers_from from (suc held))) refl m s t (λ k. packed_full from (suc held) left k i cells rest) (λ k. packed_full (from + held) 1 left k i cells rest)
    where
      go : (b : Bool) → good (numbers_from from (suc held)) ≡ b → (k : ℕ) → At k cells (cond b (packed good from (suc held) left) (numbers_from from held ∷ packed good (from + held) 1 left))
          → At (suc k) (pos i ∷ rest) (cond b (packed good from (suc held) left) (numbers_from from held ∷ packed good (from + held) 1 left))
          → ((j : ℕ) → At j cells (packed good from (suc held) left) → At (suc j) (pos i ∷ rest) (packed good from (suc held) left) → good (cells ++ pos i ∷ []) ≡ false)
          → ((j : ℕ) → At j cells (packed good (from + held) 1 left) → At (suc j) (pos i ∷ rest) (packed good (from + held) 1 left) → good (cells ++ pos i ∷ []) ≡ false)
          → good (cells ++ pos i ∷ []) ≡ false
      go true e k u v more other = more k u v
      go false e zero u v more other =
          let first : i ≡ from + held = packed_first (from + held) 1 left (omega arith) i rest v in
          ap₂ (λ (l : List ℤ) (j : ℕ). good (l ++ pos j ∷ [])) u first ∙ ap good (sym (numbers_more from held)) ∙ e
      go false e (suc k) u v more other = other k u v

-- ---- an entry alone

module _ (signs : Bool) (header : List ℤ) (held : List (List ℤ)) (limit : ℕ) where
  abbrev right : List ℤ → Bool
  right = good_message signs header held limit

  alone : (i : ℕ) → i < length held → right (numbers_from i 1) ≡ leb (message_octets signs header (get_or held i [] ∷ [])) limit
  unfolding good_message numbers_from is_empty is_in_order named
  alone i h = rw (lt-ltb i (length held) h, le-leb 0 i (omega arith), le-leb 1 (most_in signs) (some signs)) refl
    where
      some : (s : Bool) → 1 ≤ most_in s
      some false = omega arith
      some true = omega arith

  pub fits_alone : (i : ℕ) → i < length held → right (numbers_from i 1) ≡ true → ¬ (TooLong signs header held limit i)
  fits_alone i h e over = apart (sym (lt-leb (message_octets signs header (get_or held i [] ∷ [])) limit over) ∙ sym (alone i h) ∙ e)

  pub alone_fits : (i : ℕ) → i < length held → message_octets signs header (get_or held i [] ∷ []) ≤ limit → right (numbers_from i 1) ≡ true
  alone_fits i h l = alone i h ∙ le-leb (message_octets signs header (get_or held i [] ∷ [])) limit l

  over_alone : (i : ℕ) → i < length held → right (numbers_from i 1) ≡ false → TooLong signs header held limit i
  over_alone i h e = leb-false (message_octets signs header (get_or held i [] ∷ [])) limit (sym (alone i h) ∙ e)

  -- ---- all of them packed

  pub packed_fills : Alone right (length held) → Filled signs header held (packed right 0 0 (length held)) limit
  packed_fills each =
      record {
        good = record {
          once = λ i h. once_in i (packed right 0 0 (length held)) (often_in_lem i (packed right 0 0 (length held)) ∙ ap (often i) all ∙ often_among i 0 (length held) (omega arith) (omega arith));
          fit = λ m cells s. good_fits signs header held limit cells (packed_good right 0 0 (length held) (λ z. absurd (omega arith)) (λ i a b. each i (omega arith)) m cells s);
        };
        in_order = all;
        full = λ m i cells rest s t F. apart (sym (packed_full right 0 0 (length held) m i cells rest s t) ∙ fits_good signs header held limit (cells ++ pos i ∷ []) F);
      }
    where
      all : joined (packed right 0 0 (length held)) ≡ numbers_from 0 (length held)
      all = let z : 0 + length held ≡ length held = omega arith in packed_joined right 0 0 (length held) ∙ ap (numbers_from 0) z

-- ---- any input

module _ (kind : ℕ) (header entries : List ℤ) (limit : ℕ) where
  given_planned : {signs : Bool} {held : List (List ℤ)} → Given kind header entries signs held → planned kind header entries limit ≡ planned_by signs header limit (pieces held)
  unfolding planned
  given_planned {signs} {held} G = rw (lt-ltb kind 2 G.known, G.headed, G.is) (ap (planned_by signs header limit) G.listed)

  by_given : {signs : Bool} {held : List (List ℤ)} → Given kind header entries signs held → PlannerSays kind header entries limit (planned_by signs header limit (pieces held))
  unfolding planned_by or_else
  by_given {signs} {held} G = go (is_limit limit) refl (first_long (good_message signs header held limit) 0 (length held))
    where
      go : (b : Bool) → is_limit limit ≡ b
          → ((first_too_long (good_message signs header held limit) 0 (length held) ≡ nowhere) × ((j : ℕ) → 0 ≤ j → j < 0 + length held → good_message signs header held limit (numbers_from j 1) ≡ true))
          ⊎ ((at : ℕ) × (first_too_long (good_message signs header held limit) 0 (length held) ≡ repeated at) × Long (good_message signs header held limit) 0 (length held) at)
          → PlannerSays kind header entries limit (cond b (or_else no_plan (first_too_long (good_message signs header held limit) 0 (length held)) (made (packed (good_message signs header held limit) 0 0 (length held)))) (not_made (refusal reason.Outside 0)))
      go false e f = no_limit G (λ L. apart (sym e ∙ limit_is limit L))
      go true e (inl (z, all)) =
          rw z (plans G (is_limit_lem limit e) (λ i h. fits_alone signs header held limit i h (all i (omega arith) (omega arith))) (packed_fills signs header held limit (λ i h. all i (omega arith) (omega arith))))
      go true e (inr (at, z, F)) =
          let inside : at < length held = omega (arith, F.below) in
          rw z (too_long G (is_limit_lem limit e) inside (over_alone signs header held limit at inside F.isnt) (λ j l. fits_alone signs header held limit j (omega (arith, inside)) (F.earlier j (omega arith) l)))

  -- where none is too long
  pub makes_packed : {signs : Bool} {held : List (List ℤ)} → Given kind header entries signs held → Limit limit → Alone (good_message signs header held limit) (length held)
      → planned kind header entries limit ≡ made (packed (good_message signs header held limit) 0 0 (length held))
  unfolding planned_by or_else
  makes_packed {signs} {held} G L each = given_planned G ∙ rw (limit_is limit L) (go (first_long (good_message signs header held limit) 0 (length held)))
    where
      go : ((first_too_long (good_message signs header held limit) 0 (length held) ≡ nowhere) × ((j : ℕ) → 0 ≤ j → j < 0 + length held → good_message signs header held limit (numbers_from j 1) ≡ true))
          ⊎ ((at : ℕ) × (first_too_long (good_message signs header held limit) 0 (length held) ≡ repeated at) × Long (good_message signs header held limit) 0 (length held) at)
          → or_else no_plan (first_too_long (good_message signs header held limit) 0 (length held)) (made (packed (good_message signs header held limit) 0 0 (length held))) ≡ made (packed (good_message signs header held limit) 0 0 (length held))
      go (inl (z, all)) = rw z refl
      go (inr (at, z, F)) = apart (sym F.isnt ∙ each at (omega (arith, F.below)))

  form : ((signs : Bool) × (held : List (List ℤ)) × Given kind header entries signs held)
      ⊎ (((signs : Bool) (held : List (List ℤ)) → Given kind header entries signs held → ⊥) × (planned kind header entries limit ≡ not_made (refusal reason.NoValue 0)))
  unfolding planned planned_by
  form = go (ltb kind 2) refl (header_in (message_in header)) refl (entries_of (eqb kind 1) entries) refl
    where
      go : (a : Bool) → ltb kind 2 ≡ a → (b : Bool) → header_in (message_in header) ≡ b → (p : Pieces) → entries_of (eqb kind 1) entries ≡ p
          → ((signs : Bool) × (held : List (List ℤ)) × Given kind header entries signs held)
          ⊎ (((signs : Bool) (held : List (List ℤ)) → Given kind header entries signs held → ⊥) × (cond (a && b) (planned_by (eqb kind 1) header limit p) (not_made (refusal reason.NoValue 0)) ≡ not_made (refusal reason.NoValue 0)))
      go false ea b eb p ep = inr ((λ s h G. apart (sym ea ∙ lt-ltb kind 2 G.known)), refl)
      go true ea false eb p ep = inr ((λ s h G. apart (sym eb ∙ G.headed)), refl)
      go true ea true eb no_pieces ep =
          inr ((λ s h G. let both : no_pieces ≡ pieces h = sym ep ∙ ap (λ (x : Bool). entries_of x entries) G.is ∙ G.listed in absurd (let z : ◌≡◌ {A = ℕ} 0 1 = cc in omega arith)), refl)
      go true ea true eb (pieces held) ep = inl (eqb kind 1, held, record { known = ltb-true kind 2 ea; is = refl; headed = eb; listed = ep })

  -- each answer of the planner has what it says
  pub planner_says : PlannerSays kind header entries limit (planned kind header entries limit)
  planner_says = go form
    where
      go : ((signs : Bool) × (held : List (List ℤ)) × Given kind header entries signs held)
          ⊎ (((signs : Bool) (held : List (List ℤ)) → Given kind header entries signs held → ⊥) × (planned kind header entries limit ≡ not_made (refusal reason.NoValue 0))) → PlannerSays kind header entries limit (planned kind header entries limit)
      go (inl (signs, held, G)) = rw (given_planned G) (by_given G)
      go (inr (none, e)) = rw e (no_input none)

  same_held : {signs other : Bool} {held others : List (List ℤ)} → Given kind header entries signs held → Given kind header entries other others → (signs ≡ other) × (held ≡ others)
  same_held {signs} {other} {held} {others} G H =
      let s : signs ≡ other = sym G.is ∙ H.is in
      let p : pieces held ≡ pieces others = sym G.listed ∙ ap (λ (x : Bool). entries_of x entries) s ∙ H.listed in
      (s, cc p)

  -- "With good input and limit, it says "no plan" exactly when some single entry alone is over the limit."
  pub no_plan_when : {signs : Bool} {held : List (List ℤ)} → Given kind header entries signs held → Limit limit → (i : ℕ) → i < length held → TooLong signs header held limit i
      → (j : ℕ) × (planned kind header entries limit ≡ not_made (refusal reason.EntryTooLong j))
  no_plan_when {signs} {held} G L i h over = go (planned kind header entries limit) refl planner_says
    where
      go : (m : Made) → planned kind header entries limit ≡ m → PlannerSays kind header entries limit m → (j : ℕ) × (planned kind header entries limit ≡ not_made (refusal reason.EntryTooLong j))
      go m e (no_input none) = absurd (none signs held G)
      go m e (no_limit H isnt) = absurd (isnt L)
      go m e (too_long {i = j} H K below o earlier) = (j, e)
      go m e (plans {signs = other} {held = others} H K none F) =
          let S = same_held G H in
          absurd (none i (omega (arith, h, ap length S.1)) (subst (λ (s : Bool). TooLong s header others limit i) S.0 (subst (λ (l : List (List ℤ)). TooLong signs header l limit i) S.1 over)))

  pub no_plan_only_when : (j : ℕ) → planned kind header entries limit ≡ not_made (refusal reason.EntryTooLong j)
      → (signs : Bool) × (held : List (List ℤ)) × Given kind header entries signs held × Limit limit × (j < length held) × TooLong signs header held limit j × ((i : ℕ) → i < j → ¬ (TooLong signs header held limit i))
  no_plan_only_when j e = go (planned kind header entries limit) e planner_says
    where
      other : {n : Reason} {k : ℕ} {P : Type 0} → not_made (refusal n k) ≡ not_made (refusal reason.EntryTooLong j) → ¬ (reason_number n ≡ 72) → P
      other {n} {k} u isnt = let v : refusal n k ≡ refusal reason.EntryTooLong j = cc u in absurd (isnt (ap (λ (r : Refusal). reason_number r.reason) v))

      go : (m : Made) → m ≡ not_made (refusal reason.EntryTooLong j) → PlannerSays kind header entries limit m
          → (signs : Bool) × (held : List (List ℤ)) × Given kind header entries signs held × Limit limit × (j < length held) × TooLong signs header held limit j × ((i : ℕ) → i < j → ¬ (TooLong signs header held limit i))
      go m u (no_input none) = other u (λ z. omega (arith, z))
      go m u (no_limit H isnt) = other u (λ z. omega (arith, z))
      go m u (too_long {signs} {held} {i = k} H K below o earlier) =
          let v : refusal reason.EntryTooLong k ≡ refusal reason.EntryTooLong j = cc u in
          let same : k ≡ j = ap (λ (r : Refusal). r.place) v in
          (signs, held, H, K, omega (arith, below, same), subst (λ (x : ℕ). TooLong signs header held limit x) same o, λ i l. earlier i (omega (arith, l, same)))
      go m u (plans H K none F) = absurd (let z : ◌≡◌ {A = ℕ} 0 1 = cc in omega arith)

  -- "no entries means the plan of no messages"
  pub no_entries : {signs : Bool} → Given kind header entries signs [] → Limit limit → planned kind header entries limit ≡ made []
  unfolding planned_by or_else first_too_long packed
  no_entries G L = given_planned G ∙ rw (limit_is limit L) refl

  -- ---- the check accepts it

  -- the cells of a plan are the plan of its messages
  cells_back : (messages : List (List ℤ)) → messages_from (length messages) (message_cells messages) ≡ plan messages
  unfolding messages_from message_cells with_message
  cells_back [] = refl
  cells_back (cells ∷ more) =
      rw (le-leb (length cells) (length (cells ++ message_cells more)) (omega (arith, length-append cells (message_cells more))))
      (ap₂ (λ (a b : List ℤ). with_message a (messages_from (length more) b)) (take-append_seam cells (message_cells more)) (drop-append_seam cells (message_cells more)) ∙ ap (with_message cells) (cells_back more))

  pub accepts_every_plan : {messages : List (List ℤ)} → planned kind header entries limit ≡ made messages → plan_checked kind header entries (plan_cells messages) limit ≡ passes
  unfolding plan_of plan_cells
  accepts_every_plan {messages} e = go (planned kind header entries limit) e planner_says
    where
      go : (m : Made) → m ≡ made messages → PlannerSays kind header entries limit m → plan_checked kind header entries (plan_cells messages) limit ≡ passes
      go m u (no_input none) = absurd (let z : ◌≡◌ {A = ℕ} 0 1 = cc in omega arith)
      go m u (no_limit H isnt) = absurd (let z : ◌≡◌ {A = ℕ} 0 1 = cc in omega arith)
      go m u (too_long H K below o earlier) = absurd (let z : ◌≡◌ {A = ℕ} 0 1 = cc in omega arith)
      go m u (plans {signs} {held} {messages = own} H K none F) =
          let same : own ≡ messages = cc u in
          let formed : Formed kind header entries (plan_cells messages) signs held own =
          record { input = H; planned = cells_back messages ∙ ap plan (sym same) } in
          sym (plan_only kind header entries (plan_cells messages) limit passes (good-plan formed K F.good))

  -- the same of the lent cells
  pub made_plan_passes : (lent : List ℤ) → (plan_answer kind header entries limit lent).number ≡ given.done → plan_checked kind header entries (take (plan_answer kind header entries limit lent).count (plan_after kind header entries limit lent)) limit ≡ passes
  unfolding plan_answer plan_after made_answer cells_of
  made_plan_passes lent z = go (planned kind header entries limit) refl planner_says z
    where
      go : (m : Made) → planned kind header entries limit ≡ m → PlannerSays kind header entries limit m → (made_answer m (length lent)).number ≡ given.done
          → plan_checked kind header entries (take (made_answer m (length lent)).count (lent_after (made_answer m (length lent)) (cells_of m) lent)) limit ≡ passes
      go m e (no_input none) u = absurd (omega arith)
      go m e (no_limit H isnt) u = absurd (omega arith)
      go m e (too_long H K below o earlier) u = absurd (omega arith)
      go m e (plans {messages = messages} H K none F) u = by (leb (length (plan_cells messages)) (length lent)) u
        where
          by : (b : Bool) → (cond b (done 0 (length (plan_cells messages))) (no_room (length (plan_cells messages)))).number ≡ given.done
              → plan_checked kind header entries (take (cond b (done 0 (length (plan_cells messages))) (no_room (length (plan_cells messages)))).count (lent_after (cond b (done 0 (length (plan_cells messages))) (no_room (length (plan_cells messages)))) (plan_cells messages) lent)) limit ≡ passes
          by true v =
              ap (λ (l : List ℤ). plan_checked kind header entries l limit)
              (ap (take (length (plan_cells messages))) (lent_filled (done 0 (length (plan_cells messages))) (plan_cells messages) lent refl) ∙ take-append_seam (plan_cells messages) (drop (length (plan_cells messages)) lent))
              ∙ accepts_every_plan e
          by false v = absurd (omega arith)
