-- What the planner answers of an input, and the lent cells after it, by what was measured.
-- Assumes nothing.
use Prim.Native.Nat.{ℕ, ◌+◌, ◌<◌, ◌≤◌}
use native.Mathlib.Omega.{arith}
use mathlib.Core.Path.{◌≡◌, refl, sym, ap, ap₂, fun_ext, ◌∙◌}
use mathlib.Core.Bool.{Bool, true, false, cond}
use mathlib.Core.Logic.{◌⊎◌, inl, inr}
use mathlib.Core.List.{List, []}
use borrow.Author.Tests.{le-leb, lt-leb}
use lib.Dec.{eqb}
use Rattle.std.proofs.Common.{Some, None}
use lib.IntN.{ℤ, pos}
use lib.ListN.{length, take, length-replicate}
use lib.Seq.{sets}
use Rattle.basics.specs.Lists.{filled}
use Rattle.answers.specs.Answers.{done, refused_by, no_room, lent_after}
use Rattle.answers.specs.Refusals.{refusal}
use Rattle.answers.specs.declared.Answer.{Answer}
use Rattle.answers.specs.declared.Refusal.{Refusal}
use Rattle.answers.proofs.Lent.{lent_filled, lent_kept}
use Rattle.messages.specs.Repeats.{Repeat, repeated, nowhere, or_else}
use Rattle.packing.specs.Sizes.{lengths_of}
use Rattle.packing.specs.Lengths.{Lengths}
use Rattle.packing.proofs.Formed.{Input, by_held, no_input}
use Rattle.plans.specs.Plans.{good_message, is_limit}
use Rattle.plans.specs.Planner.{numbers_from, packed, first_too_long, Made, made, not_made, no_plan, planned_by, planned, plan_cells, cells_of, made_answer, plan_answer, plan_after}
use Rattle.plans.specs.Steps.{good_by, FirstLong, Alone}
use Rattle.plans.proofs.Packed.{Long, first_long}
use Rattle.plans.proofs.Sized.{good_by_lem}
use Rattle.plans.proofs.Storing.{zeros, stored_front}
use Rattle.plans.proofs.Theorems.{is_limit_lem}
use Rattle.answers.specs.declared.reasons.Reason.TheVariants as reason
use Rattle.answers.specs.Reasons.{reason_number}

-- none is too long: each is a good message alone
pub each_alone : (good : List ℤ → Bool) (count : ℕ) → FirstLong good count None → Alone good count
each_alone good count F = go (first_long good 0 count)
  where
    go : ((first_too_long good 0 count ≡ nowhere) × ((j : ℕ) → 0 ≤ j → j < 0 + count → good (numbers_from j 1) ≡ true)) ⊎ ((at : ℕ) × (first_too_long good 0 count ≡ repeated at) × Long good 0 count at) → Alone good count
    go (inl (z, all)) i l = all i (omega arith) (omega arith)
    go (inr (at, z, L)) i l = absurd (let both : repeated at ≡ nowhere = sym z ∙ F in let y : ◌≡◌ {A = ℕ} 0 1 = cc in omega arith)

module _ (kind : ℕ) (header entries : List ℤ) (limit : ℕ) where
  -- ---- what is planned

  pub not_formed : {L : Lengths} → L ≡ lengths_of kind header entries → L.formed ≡ false → planned kind header entries limit ≡ not_made (refusal reason.NoValue 0)
  unfolding planned planned_by
  not_formed e t = no_input kind header entries e t (planned_by (eqb kind 1) header limit) (not_made (refusal reason.NoValue 0)) refl

  module _ {L : Lengths} (I : Input kind header entries L) where
    by_limit : {b : Bool} → is_limit limit ≡ b → planned kind header entries limit
        ≡ cond b
        (or_else no_plan (first_too_long (good_message (eqb kind 1) header I.held limit) 0 L.count) (made (packed (good_message (eqb kind 1) header I.held limit) 0 0 L.count)))
        (not_made (refusal reason.Outside 0))
    unfolding planned planned_by
    by_limit e = by_held kind header entries I (planned_by (eqb kind 1) header limit) (not_made (refusal reason.NoValue 0)) ∙ rw (e, ← I.many) refl

    pub bad_limit : is_limit limit ≡ false → planned kind header entries limit ≡ not_made (refusal reason.Outside 0)
    bad_limit e = by_limit e

    module _ (good : is_limit limit ≡ true) where
      by_sizes : planned kind header entries limit
          ≡ or_else no_plan (first_too_long (good_by (eqb kind 1) L.count L.sizes L.base limit) 0 L.count) (made (packed (good_by (eqb kind 1) L.count L.sizes L.base limit) 0 0 L.count))
      by_sizes =
          let low : limit ≤ 2048 = (is_limit_lem limit good).1 in
          by_limit good ∙ ap (λ (g : List ℤ → Bool). or_else no_plan (first_too_long g 0 L.count) (made (packed g 0 0 L.count))) (sym (fun_ext (λ l. good_by_lem kind header entries I limit low l)))

      pub too_long : {r : ℕ} → FirstLong (good_by (eqb kind 1) L.count L.sizes L.base limit) L.count (Some r) → planned kind header entries limit ≡ not_made (refusal reason.EntryTooLong r)
      unfolding or_else
      too_long F = by_sizes ∙ ap (λ (x : Repeat). or_else no_plan x (made (packed (good_by (eqb kind 1) L.count L.sizes L.base limit) 0 0 L.count))) F

      pub makes : FirstLong (good_by (eqb kind 1) L.count L.sizes L.base limit) L.count None → planned kind header entries limit ≡ made (packed (good_by (eqb kind 1) L.count L.sizes L.base limit) 0 0 L.count)
      unfolding or_else
      makes F = by_sizes ∙ ap (λ (x : Repeat). or_else no_plan x (made (packed (good_by (eqb kind 1) L.count L.sizes L.base limit) 0 0 L.count))) F

  -- ---- what is answered

  module _ (lent : List ℤ) where
    by_made : {m : Made} → planned kind header entries limit ≡ m → (plan_answer kind header entries limit lent ≡ made_answer m (length lent)) × (plan_after kind header entries limit lent ≡ lent_after (made_answer m (length lent)) (cells_of m) lent)
    unfolding plan_answer plan_after
    by_made e = (ap (λ (m : Made). made_answer m (length lent)) e, ap (λ (m : Made). lent_after (made_answer m (length lent)) (cells_of m) lent) e)

    pub refuses : {why : Refusal} → planned kind header entries limit ≡ not_made why → ¬ (reason_number why.reason ≡ 0) → {a : Answer} → a ≡ refused_by why → {after : List ℤ} → after ≡ lent → (a ≡ plan_answer kind header entries limit lent) × (after ≡ plan_after kind header entries limit lent)
    unfolding made_answer cells_of
    refuses {why} e isnt ea el = let B = by_made e in (ea ∙ sym B.0, el ∙ sym (B.1 ∙ lent_kept (refused_by why) [] lent isnt))

    module _ {messages : List (List ℤ)} (e : planned kind header entries limit ≡ made messages) {n : ℕ} (en : n ≡ length (plan_cells messages)) where
      pub no_room_lem : length lent < n → {a : Answer} → a ≡ no_room n → {after : List ℤ} → after ≡ lent → (a ≡ plan_answer kind header entries limit lent) × (after ≡ plan_after kind header entries limit lent)
      unfolding made_answer cells_of
      no_room_lem h {a} ea el =
          let B = by_made e in
          let is : made_answer (made messages) (length lent) ≡ no_room n = rw (lt-leb (length (plan_cells messages)) (length lent) (omega (arith, en))) (ap no_room (sym en)) in
          (ea ∙ sym (B.0 ∙ is), el ∙ sym (B.1 ∙ ap (λ (x : Answer). lent_after x (plan_cells messages) lent) is ∙ lent_kept (no_room n) (plan_cells messages) lent (λ z. omega (arith, z))))

      pub fills : n ≤ length lent → n ≤ 129 → {a : Answer} → a ≡ done 0 n → {cells : List ℤ} → cells ≡ sets zeros 0 (plan_cells messages) → {after : List ℤ} → after ≡ filled (take n cells) lent
          → (a ≡ plan_answer kind header entries limit lent) × (after ≡ plan_after kind header entries limit lent)
      unfolding made_answer cells_of
      fills h few {a} ea {cells} ec ef =
          let B = by_made e in
          let is : made_answer (made messages) (length lent) ≡ done 0 n = rw (le-leb (length (plan_cells messages)) (length lent) (omega (arith, en))) (ap (done 0) (sym en)) in
          let front : take n cells ≡ plan_cells messages = ap₂ (λ (k : ℕ) (l : List ℤ). take k l) en ec ∙ stored_front zeros (plan_cells messages) (omega (arith, en, length-replicate {A = ℤ} 129 (pos 0))) in
          (ea ∙ sym (B.0 ∙ is), ef ∙ ap (λ (l : List ℤ). filled l lent) front ∙ sym (B.1 ∙ ap (λ (x : Answer). lent_after x (plan_cells messages) lent) is ∙ lent_filled (done 0 n) (plan_cells messages) lent refl))
