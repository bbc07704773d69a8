-- A sheet that is one value: what passing over it answers is what the value decides, and what document 01 says of it.
-- Assumes nothing.
use Prim.Native.Nat.{ℕ, ◌<◌, ◌≤◌}
use native.Mathlib.Omega.{arith}
use mathlib.Core.Path.{◌≡◌, refl, sym, ap, ◌∙◌}
use mathlib.Core.Bool.{Bool, true, false, cond}
use mathlib.Core.List.{List}
use borrow.Author.Tests.{lt-ltb, le-ltb}
use lib.Dec.{ltb}
use lib.IntN.{ℤ, pos}
use lib.ListN.{length}
use Rattle.std.specs.Prelude.{Result, Ok, Err}
use Rattle.answers.specs.declared.Refusal.{Refusal}
use Rattle.answers.specs.Refusals.{refusal}
use Rattle.answers.specs.Said as said
use Rattle.types.specs.Rows.{rows}
use Rattle.types.specs.Table.{numbers}
use Rattle.meaning.specs.Values.{Value}
use Rattle.meaning.specs.Steps.{Got}
use Rattle.meaning.specs.Steps.Got.{ok, refused}
use Rattle.passing.specs.Passing.{passed, passed_by, passed_says}
use Rattle.sheet.specs.Standing.{Stands, value_at}
use Rattle.sheet.specs.Sole.{value, none, sole_by, sole_value, sole_end, sole_at}
use Rattle.sheet.specs.Says.{end_answer, sole_answer}
use Rattle.sheet.proofs.Components.{passed_by_lem}
use Rattle.answers.specs.declared.reasons.Reason.TheVariants as reason

-- ---- what the answer says

says_end : (cells : ℕ) (r : Result ℕ Refusal) → passed_says (sole_end cells r) ≡ end_answer cells r
unfolding passed_says sole_end end_answer
says_end cells (Ok next) = go (ltb next cells)
  where
    go : (b : Bool) → passed_says (cond b (Err (refusal reason.NoValue next)) (Ok next)) ≡ cond b (said.refused reason.NoValue next) (said.done (pos 0) next 0)
    go true = refl
    go false = refl
says_end cells (Err why) = refl

module _ (tb : List ℕ) (row : ℕ) (cells : List ℤ) where
  -- what the function promises of its answer
  abbrev Told : Result ℕ Refusal → Type 0
  Told a = (a ≡ sole_at tb row cells) × (passed_says a ≡ sole_answer tb row cells)

  told : {a : Result ℕ Refusal} → a ≡ sole_at tb row cells → Told a
  told e = (e, ap passed_says e ∙ says_end (length cells) (passed tb row cells 0))

  module _ {r : Result ℕ Refusal} (is : r ≡ passed tb row cells 0) where
    pub sole_refused : {why : Refusal} {a : Result ℕ Refusal} → r ≡ Err why → a ≡ Err why → Told a
    unfolding sole_end
    sole_refused e ea = told (ea ∙ sym (ap (sole_end (length cells)) (sym is ∙ e)))

    module _ {next : ℕ} (e : r ≡ Ok next) where
      pub sole_spare : {why : Refusal} → why ≡ refusal reason.NoValue next → next < length cells → Told (Err why)
      unfolding sole_end
      sole_spare w h = told (ap Err w ∙ sym (ap (sole_end (length cells)) (sym is ∙ e) ∙ rw (lt-ltb next (length cells) h) refl))

      pub sole_ends : length cells ≤ next → Told (Ok next)
      unfolding sole_end
      sole_ends h = told (sym (ap (sole_end (length cells)) (sym is ∙ e) ∙ rw (le-ltb next (length cells) h) refl))

-- ---- what it says of the value

module _ (row : ℕ) (known : row < 414) (cells : List ℤ) {tb : List ℕ} (table : tb ≡ numbers rows) {r : Result ℕ Refusal} (is : r ≡ sole_at tb row cells) where
  by_value : r ≡ sole_end (length cells) (passed_by (value_at cells row 0))
  by_value = is ∙ ap (sole_end (length cells)) (passed_by_lem cells row 0 table known (omega arith))

  pub sole_none : {why : Refusal} → r ≡ Err why → sole_value row cells ≡ none why
  unfolding sole_by sole_end passed_by
  sole_none {why} e = go (value_at cells row 0) (sym by_value ∙ e)
    where
      go : (g : Got ℕ Value) → sole_end (length cells) (passed_by g) ≡ Err why → sole_by (length cells) g ≡ none why
      go (refused w) u = let same : w ≡ why = cc in ap none same
      go (ok v bits next) u = by_end (ltb next (length cells)) u
        where
          by_end : (b : Bool) → cond b (Err (refusal reason.NoValue next)) (Ok next) ≡ Err why → cond b (none (refusal reason.NoValue next)) (value v) ≡ none why
          by_end true u = let same : refusal reason.NoValue next ≡ why = cc in ap none same
          by_end false u = absurd (let z : ◌≡◌ {A = ℕ} 0 1 = cc in omega arith)

  -- a value, which stands at the front of the sheet
  pub record Only : Type 0 where
    pub only : Value
    pub is_value : sole_value row cells ≡ value only
    pub stands : Stands cells row 0 only

  pub sole_value_lem : {next : ℕ} → r ≡ Ok next → Only
  unfolding sole_by sole_end passed_by
  sole_value_lem {next} e = go (value_at cells row 0) refl (sym by_value ∙ e)
    where
      go : (g : Got ℕ Value) → value_at cells row 0 ≡ g → sole_end (length cells) (passed_by g) ≡ Ok next → Only
      go (refused w) eg u = absurd (let z : ◌≡◌ {A = ℕ} 0 1 = cc in omega arith)
      go (ok v bits q) eg u = by_end (ltb q (length cells)) refl u
        where
          by_end : (b : Bool) → ltb q (length cells) ≡ b → cond b (Err (refusal reason.NoValue q)) (Ok q) ≡ Ok next → Only
          by_end true eb u = absurd (let z : ◌≡◌ {A = ℕ} 0 1 = cc in omega arith)
          by_end false eb u = record { only = v; is_value = rw (eg, eb) refl; stands = record { bits = bits; next = q; is = eg; inside = omega arith } }
