-- What the check answers of an input, by what was measured and counted.
-- Assumes nothing.
use Prim.Native.Nat.{ℕ, ◌≤◌}
use native.Mathlib.Omega.{arith}
use mathlib.Core.Path.{◌≡◌, refl, sym, ap, fun_ext, ◌∙◌}
use mathlib.Core.Bool.{Bool, true, false, cond}
use mathlib.Core.List.{List}
use lib.Dec.{eqb}
use Rattle.std.proofs.Common.{Some, None}
use lib.IntN.{ℤ}
use Rattle.answers.specs.GivenBack as given
use Rattle.messages.specs.Repeats.{Repeat, or_else}
use Rattle.rules.specs.Rsi.{ruling, passes}
use Rattle.rules.specs.Ruling.{Ruling}
use Rattle.packing.specs.Entries.{pieces}
use Rattle.packing.specs.Sizes.{lengths_of}
use Rattle.packing.specs.Lengths.{Lengths}
use Rattle.packing.proofs.Formed.{Input, by_held, no_input}
use Rattle.plans.specs.Plans.{Plan, plan, no_plan, plan_of, first_not_once, good_message, first_bad, plan_ruling, is_limit, formed, plan_checked}
use Rattle.plans.specs.Steps.{IsPlan, Tallied, Tally, FirstOf, good_by}
use Rattle.plans.proofs.Sized.{good_by_lem}
use Rattle.plans.proofs.Theorems.{is_limit_lem}

module _ (kind : ℕ) (header entries cells : List ℤ) (limit : ℕ) where
  pub not_formed : {L : Lengths} → L ≡ lengths_of kind header entries → L.formed ≡ false → ruling given.no_value 0 ≡ plan_checked kind header entries cells limit
  unfolding plan_checked formed
  not_formed e t = sym (no_input kind header entries e t (λ p. formed (eqb kind 1) header p (plan_of cells) limit) (ruling given.no_value 0) refl)

  module _ {L : Lengths} (I : Input kind header entries L) where
    by_plan : plan_checked kind header entries cells limit ≡ formed (eqb kind 1) header (pieces I.held) (plan_of cells) limit
    unfolding plan_checked
    by_plan = by_held kind header entries I (λ p. formed (eqb kind 1) header p (plan_of cells) limit) (ruling given.no_value 0)

    pub no_plan_there : (times : List ℕ) (r : Bool) → Tallied (plan_of cells) L.count times r → r ≡ false → ruling given.no_value 0 ≡ plan_checked kind header entries cells limit
    unfolding formed
    no_plan_there times r T z = sym (by_plan ∙ ap (λ (p : Plan). formed (eqb kind 1) header (pieces I.held) p limit) (none (plan_of cells) T))
      where
        none : (p : Plan) → Tallied p L.count times r → p ≡ no_plan
        none (plan messages) U = absurd (let both : ◌≡◌ true false = sym U.0 ∙ z in let y : ◌≡◌ {A = ℕ} 0 1 = cc in omega arith)
        none no_plan U = refl

    pub record Planned (times : List ℕ) : Type 0 where
      pub messages : List (List ℤ)
      pub is : IsPlan cells messages
      pub counts : Tally messages L.count times

    pub planned : (times : List ℕ) (r : Bool) → Tallied (plan_of cells) L.count times r → r ≡ true → Planned times
    planned times r T z = go (plan_of cells) refl T
      where
        go : (p : Plan) → plan_of cells ≡ p → Tallied p L.count times r → Planned times
        go (plan messages) e U = record { messages = messages; is = e; counts = U.1 }
        go no_plan e U = absurd (let both : ◌≡◌ false true = sym U ∙ z in let y : ◌≡◌ {A = ℕ} 0 1 = cc in omega arith)

    module _ {times : List ℕ} (P : Planned times) where
      by_limit : {b : Bool} → is_limit limit ≡ b → plan_checked kind header entries cells limit ≡ cond b (plan_ruling (eqb kind 1) header I.held P.messages limit) (ruling given.outside 0)
      unfolding formed
      by_limit e =
          by_plan ∙ ap (λ (p : Plan). formed (eqb kind 1) header (pieces I.held) p limit) P.is
          ∙ ap (λ (b : Bool). cond b (plan_ruling (eqb kind 1) header I.held P.messages limit) (ruling given.outside 0)) e

      pub bad_limit : is_limit limit ≡ false → ruling given.outside 0 ≡ plan_checked kind header entries cells limit
      bad_limit e = sym (by_limit e)

      module _ (good : is_limit limit ≡ true) where
        by_firsts : plan_checked kind header entries cells limit
            ≡ or_else (ruling given.entry_not_once) (first_not_once 0 L.count P.messages) (or_else (ruling given.wrong_message) (first_bad (good_message (eqb kind 1) header I.held limit) 0 P.messages) passes)
        unfolding plan_ruling
        by_firsts = by_limit good ∙ rw (← I.many) refl

        pub not_once : {i : ℕ} → FirstOf P.messages L.count (Some i) → ruling given.entry_not_once i ≡ plan_checked kind header entries cells limit
        unfolding or_else
        not_once F =
            sym (by_firsts ∙ ap (λ (x : Repeat). or_else (ruling given.entry_not_once) x (or_else (ruling given.wrong_message) (first_bad (good_message (eqb kind 1) header I.held limit) 0 P.messages) passes)) F)

        pub by_messages : FirstOf P.messages L.count None → {r : Ruling}
            → r ≡ or_else (ruling given.wrong_message) (first_bad (good_by (eqb kind 1) L.count L.sizes L.base limit) 0 P.messages) passes → r ≡ plan_checked kind header entries cells limit
        unfolding or_else
        by_messages F e =
            let low : limit ≤ 2048 = (is_limit_lem limit good).1 in
            e
            ∙ ap (λ (g : List ℤ → Bool). or_else (ruling given.wrong_message) (first_bad g 0 P.messages) passes) (fun_ext (λ l. good_by_lem kind header entries I limit low l))
            ∙ sym (by_firsts ∙ ap (λ (x : Repeat). or_else (ruling given.entry_not_once) x (or_else (ruling given.wrong_message) (first_bad (good_message (eqb kind 1) header I.held limit) 0 P.messages) passes)) F)
