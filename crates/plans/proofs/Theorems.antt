-- The check of a plan is what the sentences say of it (document 02, A9): of any input the ruling is one of which the sentence holds, and no other ruling has
-- one that holds. So it accepts exactly the good plans.
-- Assumes nothing.
use Prim.Native.Nat.{ℕ, zero, suc, ◌+◌, ◌<◌, ◌≤◌}
use native.Mathlib.Decide.{dec_lt}
use native.Mathlib.Omega.{arith}
use mathlib.Core.Path.{◌≡◌, refl, sym, ap, ap₂, subst, ◌∙◌}
use mathlib.Core.Bool.{Bool, true, false, cond, ◌&&◌}
use mathlib.Core.Logic.{◌⊎◌, inl, inr}
use mathlib.Core.List.{List, [], ◌∷◌}
use borrow.Author.Tests.{eqb-true, eqb-false, ltb-true, lt-ltb, leb-true, le-leb}
use lib.Dec.{eqb, leb, ltb}
use lib.IntN.{ℤ}
use lib.ListN.{length}
use Rattle.answers.specs.GivenBack as given
use Rattle.messages.specs.Message.{message_in}
use Rattle.messages.specs.Places.{At}
use Rattle.messages.specs.Repeats.{repeated, nowhere, or_else}
use Rattle.rules.specs.Rsi.{ruling, passes}
use Rattle.rules.specs.Ruling.{Ruling}
use Rattle.packing.specs.Entries.{header_in, Pieces, pieces, no_pieces, entries_of}
use Rattle.plans.specs.Plans.{Plan, plan, no_plan, plan_of, often_in, first_not_once, good_message, first_bad, plan_ruling, is_limit, formed, plan_checked}
use Rattle.plans.specs.Sentences.{Once, Fits, Good, Formed, Limit, PlanSays}
use Rattle.plans.specs.Sentences.PlanSays.{no_input, no_limit, not_once, misfits, good}
use Rattle.plans.proofs.Counting.{once_in, in_once}
use Rattle.plans.proofs.Fitting.{good_fits, fits_good}

-- ---- the first entry that does not stand once

module _ (messages : List (List ℤ)) where
  pub record NotOnce (i n at : ℕ) : Type 0 where
    pub from : i ≤ at
    pub below : at < i + n
    pub isnt : Once messages at → ⊥
    pub earlier : (j : ℕ) → i ≤ j → j < at → Once messages j

  first_not_once_lem : (i n : ℕ) → ((first_not_once i n messages ≡ nowhere) × ((j : ℕ) → i ≤ j → j < i + n → Once messages j)) ⊎ ((at : ℕ) × (first_not_once i n messages ≡ repeated at) × NotOnce i n at)
  unfolding first_not_once
  first_not_once_lem i zero = inl (refl, λ j a b. absurd (omega arith))
  first_not_once_lem i (suc n) = go (eqb (often_in i messages) 1) refl (first_not_once_lem (suc i) n)
    where
      go : (b : Bool) → eqb (often_in i messages) 1 ≡ b → ((first_not_once (suc i) n messages ≡ nowhere) × ((j : ℕ) → suc i ≤ j → j < suc i + n → Once messages j)) ⊎ ((at : ℕ) × (first_not_once (suc i) n messages ≡ repeated at) × NotOnce (suc i) n at)
          → ((cond b (first_not_once (suc i) n messages) (repeated i) ≡ nowhere) × ((j : ℕ) → i ≤ j → j < i + suc n → Once messages j)) ⊎ ((at : ℕ) × (cond b (first_not_once (suc i) n messages) (repeated i) ≡ repeated at) × NotOnce i (suc n) at)
      go false e later = inr (i, refl, record { from = omega arith; below = omega arith; isnt = λ O. eqb-false (often_in i messages) 1 e (in_once i messages O); earlier = λ j a b. absurd (omega arith) })
      go true e (inl (z, all)) = inl (z, others)
        where
          others : (j : ℕ) → i ≤ j → j < i + suc n → Once messages j
          others j a b = by (dec_lt i j)
            where
              by : Dec (i < j) → Once messages j
              by (yes l) = all j (omega arith) (omega arith)
              by (no l) = let same : i ≡ j = omega arith in subst (Once messages) same (once_in i messages (eqb-true (often_in i messages) 1 e))
      go true e (inr (at, z, N)) = inr (at, z, record { from = omega (arith, N.from); below = omega (arith, N.below); isnt = N.isnt; earlier = others })
        where
          others : (j : ℕ) → i ≤ j → j < at → Once messages j
          others j a b = by (dec_lt i j)
            where
              by : Dec (i < j) → Once messages j
              by (yes l) = N.earlier j (omega arith) b
              by (no l) = let same : i ≡ j = omega arith in subst (Once messages) same (once_in i messages (eqb-true (often_in i messages) 1 e))

-- ---- the first message that is not good

module _ (Right : List ℤ → Type 0) (right : List ℤ → Bool) (sound : (cells : List ℤ) → right cells ≡ true → Right cells) (complete : (cells : List ℤ) → Right cells → right cells ≡ true) where
  pub record Wrong (messages : List (List ℤ)) (m : ℕ) : Type 0 where
    pub message : List ℤ
    pub there : At m message messages
    pub isnt : Right message → ⊥
    pub earlier : (k : ℕ) (other : List ℤ) → k < m → At k other messages → Right other

  first_bad_lem : (i : ℕ) (messages : List (List ℤ)) → ((first_bad right i messages ≡ nowhere) × ((m : ℕ) (cells : List ℤ) → At m cells messages → Right cells)) ⊎ ((m : ℕ) × (first_bad right i messages ≡ repeated (i + m)) × Wrong messages m)
  unfolding first_bad
  first_bad_lem i [] = inl (refl, λ m cells s. absurd s)
  first_bad_lem i (first ∷ more) = go (right first) refl (first_bad_lem (suc i) more)
    where
      go : (b : Bool) → right first ≡ b → ((first_bad right (suc i) more ≡ nowhere) × ((m : ℕ) (cells : List ℤ) → At m cells more → Right cells)) ⊎ ((m : ℕ) × (first_bad right (suc i) more ≡ repeated (suc i + m)) × Wrong more m)
          → ((cond b (first_bad right (suc i) more) (repeated i) ≡ nowhere) × ((m : ℕ) (cells : List ℤ) → At m cells (first ∷ more) → Right cells)) ⊎ ((m : ℕ) × (cond b (first_bad right (suc i) more) (repeated i) ≡ repeated (i + m)) × Wrong (first ∷ more) m)
      go false e later =
          let z : i ≡ i + 0 = omega arith in
          inr (0, ap repeated z, record { message = first; there = refl; isnt = λ R. absurd (let y : ◌≡◌ true false = sym (complete first R) ∙ e in let x : ◌≡◌ {A = ℕ} 0 1 = cc in omega arith); earlier = λ k other l. absurd (omega arith) })
      go true e (inl (z, all)) = inl (z, others)
        where
          others : (m : ℕ) (cells : List ℤ) → At m cells (first ∷ more) → Right cells
          others zero cells s = subst Right (sym s) (sound first e)
          others (suc m) cells s = all m cells s
      go true e (inr (m, z, W)) =
          let y : suc i + m ≡ i + suc m = omega arith in
          inr (suc m, z ∙ ap repeated y, record { message = W.message; there = W.there; isnt = W.isnt; earlier = others })
        where
          others : (k : ℕ) (other : List ℤ) → k < suc m → At k other (first ∷ more) → Right other
          others zero other l s = subst Right (sym s) (sound first e)
          others (suc k) other l s = W.earlier k other (omega arith) s

-- ---- the plan of an input of its form

module _ (signs : Bool) (header : List ℤ) (held messages : List (List ℤ)) (limit : ℕ) where
  firsts : ((first_not_once 0 (length held) messages ≡ nowhere) × ((j : ℕ) → 0 ≤ j → j < 0 + length held → Once messages j)) ⊎ ((at : ℕ) × (first_not_once 0 (length held) messages ≡ repeated at) × NotOnce messages 0 (length held) at)
  firsts = first_not_once_lem messages 0 (length held)

  bads : ((first_bad (good_message signs header held limit) 0 messages ≡ nowhere) × ((m : ℕ) (cells : List ℤ) → At m cells messages → Fits signs header held limit cells))
      ⊎ ((m : ℕ) × (first_bad (good_message signs header held limit) 0 messages ≡ repeated (0 + m)) × Wrong (Fits signs header held limit) (good_message signs header held limit) (good_fits signs header held limit) (fits_good signs header held limit) messages m)
  bads = first_bad_lem (Fits signs header held limit) (good_message signs header held limit) (good_fits signs header held limit) (fits_good signs header held limit) 0 messages

  by_entry : {at : ℕ} → first_not_once 0 (length held) messages ≡ repeated at → plan_ruling signs header held messages limit ≡ ruling given.entry_not_once at
  unfolding plan_ruling or_else
  by_entry e = rw e refl

  by_message : {m : ℕ} → first_not_once 0 (length held) messages ≡ nowhere → first_bad (good_message signs header held limit) 0 messages ≡ repeated m → plan_ruling signs header held messages limit ≡ ruling given.wrong_message m
  unfolding plan_ruling or_else
  by_message e f = rw (e, f) refl

  by_none : first_not_once 0 (length held) messages ≡ nowhere → first_bad (good_message signs header held limit) 0 messages ≡ nowhere → plan_ruling signs header held messages limit ≡ passes
  unfolding plan_ruling or_else
  by_none e f = rw (e, f) refl

  -- ---- and the other way round

  only_entry : (i : ℕ) → i < length held → (Once messages i → ⊥) → ((j : ℕ) → j < i → Once messages j) → plan_ruling signs header held messages limit ≡ ruling given.entry_not_once i
  only_entry i below isnt earlier = go firsts
    where
      go : ((first_not_once 0 (length held) messages ≡ nowhere) × ((j : ℕ) → 0 ≤ j → j < 0 + length held → Once messages j)) ⊎ ((at : ℕ) × (first_not_once 0 (length held) messages ≡ repeated at) × NotOnce messages 0 (length held) at) → plan_ruling signs header held messages limit ≡ ruling given.entry_not_once i
      go (inl (z, all)) = absurd (isnt (all i (omega arith) (omega arith)))
      go (inr (at, z, N)) = by (dec_lt at i) (dec_lt i at)
        where
          by : Dec (at < i) → Dec (i < at) → plan_ruling signs header held messages limit ≡ ruling given.entry_not_once i
          by (yes l) d = absurd (N.isnt (earlier at l))
          by (no a) (yes l) = absurd (isnt (N.earlier i (omega arith) l))
          by (no a) (no b) = let same : at ≡ i = omega arith in by_entry z ∙ ap (ruling given.entry_not_once) same

  all_once : ((i : ℕ) → i < length held → Once messages i) → first_not_once 0 (length held) messages ≡ nowhere
  all_once all = go firsts
    where
      go : ((first_not_once 0 (length held) messages ≡ nowhere) × ((j : ℕ) → 0 ≤ j → j < 0 + length held → Once messages j)) ⊎ ((at : ℕ) × (first_not_once 0 (length held) messages ≡ repeated at) × NotOnce messages 0 (length held) at) → first_not_once 0 (length held) messages ≡ nowhere
      go (inl (z, y)) = z
      go (inr (at, z, N)) = absurd (N.isnt (all at (omega (arith, N.below))))

  only_message : ((i : ℕ) → i < length held → Once messages i) → (m : ℕ) (message : List ℤ) → At m message messages → (Fits signs header held limit message → ⊥) → ((k : ℕ) (other : List ℤ) → k < m → At k other messages → Fits signs header held limit other) → plan_ruling signs header held messages limit ≡ ruling given.wrong_message m
  only_message all m message there isnt earlier = go bads
    where
      go : ((first_bad (good_message signs header held limit) 0 messages ≡ nowhere) × ((k : ℕ) (cells : List ℤ) → At k cells messages → Fits signs header held limit cells))
          ⊎ ((k : ℕ) × (first_bad (good_message signs header held limit) 0 messages ≡ repeated (0 + k)) × Wrong (Fits signs header held limit) (good_message signs header held limit) (good_fits signs header held limit) (fits_good signs header held limit) messages k)
          → plan_ruling signs header held messages limit ≡ ruling given.wrong_message m
      go (inl (z, fit)) = absurd (isnt (fit m message there))
      go (inr (k, z, W)) = by (dec_lt k m) (dec_lt m k)
        where
          by : Dec (k < m) → Dec (m < k) → plan_ruling signs header held messages limit ≡ ruling given.wrong_message m
          by (yes l) d = absurd (W.isnt (earlier k W.message l W.there))
          by (no a) (yes l) = absurd (isnt (W.earlier m message l there))
          by (no a) (no b) = let same : 0 + k ≡ m = omega arith in by_message (all_once all) (z ∙ ap repeated same)

  only_good : Good signs header held messages limit → plan_ruling signs header held messages limit ≡ passes
  only_good G = go bads
    where
      go : ((first_bad (good_message signs header held limit) 0 messages ≡ nowhere) × ((k : ℕ) (cells : List ℤ) → At k cells messages → Fits signs header held limit cells))
          ⊎ ((k : ℕ) × (first_bad (good_message signs header held limit) 0 messages ≡ repeated (0 + k)) × Wrong (Fits signs header held limit) (good_message signs header held limit) (good_fits signs header held limit) (fits_good signs header held limit) messages k)
          → plan_ruling signs header held messages limit ≡ passes
      go (inl (z, fit)) = by_none (all_once G.once) z
      go (inr (k, z, W)) = absurd (W.isnt (G.fit k W.message W.there))

-- ---- any input

pub is_limit_lem : (limit : ℕ) → is_limit limit ≡ true → Limit limit
unfolding is_limit
is_limit_lem limit e = go (leb 1 limit) refl (leb limit 2048) refl e
  where
    go : (a : Bool) → leb 1 limit ≡ a → (b : Bool) → leb limit 2048 ≡ b → (a && b) ≡ true → Limit limit
    go true u true v w = (leb-true 1 limit u, leb-true limit 2048 v)
    go true u false v w = absurd (let z : ◌≡◌ {A = ℕ} 0 1 = cc in omega arith)
    go false u b v w = absurd (let z : ◌≡◌ {A = ℕ} 0 1 = cc in omega arith)

pub limit_is : (limit : ℕ) → Limit limit → is_limit limit ≡ true
unfolding is_limit
limit_is limit L = rw (le-leb 1 limit L.0, le-leb limit 2048 L.1) refl

module _ (kind : ℕ) (header entries cells : List ℤ) (limit : ℕ) where
  abbrev of : Bool
  of = eqb kind 1

  no_other : {held : List (List ℤ)} → pieces held ≡ no_pieces → ⊥
  no_other e = let z : ◌≡◌ {A = ℕ} 0 1 = cc in omega arith

  no_other_plan : {messages : List (List ℤ)} → plan messages ≡ no_plan → ⊥
  no_other_plan e = let z : ◌≡◌ {A = ℕ} 0 1 = cc in omega arith

  -- the ruling of an input of its form
  ruled_formed : {signs : Bool} {held messages : List (List ℤ)} → Formed kind header entries cells signs held messages → plan_checked kind header entries cells limit ≡ cond (is_limit limit) (plan_ruling signs header held messages limit) (ruling given.outside 0)
  unfolding plan_checked formed
  ruled_formed {signs} {held} {messages} F =
      rw (lt-ltb kind 2 F.input.known, F.input.headed, F.input.is) (ap₂ (λ (p : Pieces) (q : Plan). formed signs header p q limit) F.input.listed F.planned)

  judged_says : {signs : Bool} {held messages : List (List ℤ)} → Formed kind header entries cells signs held messages → PlanSays kind header entries cells limit (cond (is_limit limit) (plan_ruling signs header held messages limit) (ruling given.outside 0))
  judged_says {signs} {held} {messages} F = go (is_limit limit) refl
    where
      by_bads : Limit limit → first_not_once 0 (length held) messages ≡ nowhere → ((i : ℕ) → i < length held → Once messages i)
          → ((first_bad (good_message signs header held limit) 0 messages ≡ nowhere) × ((k : ℕ) (message : List ℤ) → At k message messages → Fits signs header held limit message))
          ⊎ ((k : ℕ) × (first_bad (good_message signs header held limit) 0 messages ≡ repeated (0 + k)) × Wrong (Fits signs header held limit) (good_message signs header held limit) (good_fits signs header held limit) (fits_good signs header held limit) messages k)
          → PlanSays kind header entries cells limit (plan_ruling signs header held messages limit)
      by_bads L e all (inl (z, fit)) = rw (by_none signs header held messages limit e z) (good F L (record { once = all; fit = fit }))
      by_bads L e all (inr (k, z, W)) =
          let same : 0 + k ≡ k = omega arith in
          rw (by_message signs header held messages limit e (z ∙ ap repeated same)) (misfits F L all W.there W.isnt W.earlier)

      by_firsts : Limit limit → ((first_not_once 0 (length held) messages ≡ nowhere) × ((j : ℕ) → 0 ≤ j → j < 0 + length held → Once messages j)) ⊎ ((at : ℕ) × (first_not_once 0 (length held) messages ≡ repeated at) × NotOnce messages 0 (length held) at)
          → PlanSays kind header entries cells limit (plan_ruling signs header held messages limit)
      by_firsts L (inl (z, all)) = by_bads L z (λ i l. all i (omega arith) (omega arith)) (bads signs header held messages limit)
      by_firsts L (inr (at, z, N)) = rw (by_entry signs header held messages limit z) (not_once {i = at} F L (omega (arith, N.below)) N.isnt (λ j l. N.earlier j (omega arith) l))

      go : (b : Bool) → is_limit limit ≡ b → PlanSays kind header entries cells limit (cond b (plan_ruling signs header held messages limit) (ruling given.outside 0))
      go true e = by_firsts (is_limit_lem limit e) (firsts signs header held messages limit)
      go false e = no_limit F (λ L. let z : ◌≡◌ true false = sym (limit_is limit L) ∙ e in let y : ◌≡◌ {A = ℕ} 0 1 = cc in omega arith)

  -- whether an input is of its form
  form : ((signs : Bool) × (held : List (List ℤ)) × (messages : List (List ℤ)) × Formed kind header entries cells signs held messages)
      ⊎ (((signs : Bool) (held messages : List (List ℤ)) → Formed kind header entries cells signs held messages → ⊥) × (plan_checked kind header entries cells limit ≡ ruling given.no_value 0))
  unfolding plan_checked formed
  form = go (ltb kind 2) refl (header_in (message_in header)) refl (entries_of of entries) refl (plan_of cells) refl
    where
      go : (a : Bool) → ltb kind 2 ≡ a → (b : Bool) → header_in (message_in header) ≡ b → (p : Pieces) → entries_of of entries ≡ p → (q : Plan) → plan_of cells ≡ q
          → ((signs : Bool) × (held : List (List ℤ)) × (messages : List (List ℤ)) × Formed kind header entries cells signs held messages)
          ⊎ (((signs : Bool) (held messages : List (List ℤ)) → Formed kind header entries cells signs held messages → ⊥) × (cond (a && b) (formed of header p q limit) (ruling given.no_value 0) ≡ ruling given.no_value 0))
      go false ea b eb p ep q eq = inr ((λ s h m F. let z : ◌≡◌ true false = sym (lt-ltb kind 2 F.input.known) ∙ ea in let y : ◌≡◌ {A = ℕ} 0 1 = cc in omega arith), refl)
      go true ea false eb p ep q eq = inr ((λ s h m F. let z : ◌≡◌ true false = sym F.input.headed ∙ eb in let y : ◌≡◌ {A = ℕ} 0 1 = cc in omega arith), refl)
      go true ea true eb no_pieces ep q eq = inr ((λ s h m F. no_other (sym F.input.listed ∙ ap (λ (x : Bool). entries_of x entries) (sym F.input.is) ∙ ep)), refl)
      go true ea true eb (pieces held) ep no_plan eq = inr ((λ s h m F. no_other_plan (sym F.planned ∙ eq)), refl)
      go true ea true eb (pieces held) ep (plan messages) eq = inl (of, held, messages, record { input = record { known = ltb-true kind 2 ea; is = refl; headed = eb; listed = ep }; planned = eq })

  -- the ruling has what it says: a failure that is named is one, and no earlier one is
  pub plan_says : PlanSays kind header entries cells limit (plan_checked kind header entries cells limit)
  plan_says = go form
    where
      go : ((signs : Bool) × (held : List (List ℤ)) × (messages : List (List ℤ)) × Formed kind header entries cells signs held messages)
          ⊎ (((signs : Bool) (held messages : List (List ℤ)) → Formed kind header entries cells signs held messages → ⊥) × (plan_checked kind header entries cells limit ≡ ruling given.no_value 0)) → PlanSays kind header entries cells limit (plan_checked kind header entries cells limit)
      go (inl (signs, held, messages, F)) = rw (ruled_formed F) (judged_says F)
      go (inr (none, e)) = rw e (no_input none)

  -- and no other ruling has: so each is given exactly when its sentence holds
  pub plan_only : (r : Ruling) → PlanSays kind header entries cells limit r → r ≡ plan_checked kind header entries cells limit
  plan_only r (no_input none) = go form
    where
      go : ((signs : Bool) × (held : List (List ℤ)) × (messages : List (List ℤ)) × Formed kind header entries cells signs held messages)
          ⊎ (((signs : Bool) (held messages : List (List ℤ)) → Formed kind header entries cells signs held messages → ⊥) × (plan_checked kind header entries cells limit ≡ ruling given.no_value 0)) → ruling given.no_value 0 ≡ plan_checked kind header entries cells limit
      go (inl (signs, held, messages, F)) = absurd (none signs held messages F)
      go (inr (n, e)) = sym e
  plan_only r (no_limit {signs} {held} {messages} F isnt) = sym (ruled_formed F ∙ go (is_limit limit) refl (plan_ruling signs header held messages limit))
    where
      go : (b : Bool) → is_limit limit ≡ b → (x : Ruling) → cond b x (ruling given.outside 0) ≡ ruling given.outside 0
      go true e x = absurd (isnt (is_limit_lem limit e))
      go false e x = refl
  plan_only r (not_once {signs} {held} {messages} {i} F L below isnt earlier) = sym (ruled_formed F ∙ rw (limit_is limit L) (only_entry signs header held messages limit i below isnt earlier))
  plan_only r (misfits {signs} {held} {messages} {m} {message} F L all there isnt earlier) = sym (ruled_formed F ∙ rw (limit_is limit L) (only_message signs header held messages limit all m message there isnt earlier))
  plan_only r (good {signs} {held} {messages} F L G) = sym (ruled_formed F ∙ rw (limit_is limit L) (only_good signs header held messages limit G))
