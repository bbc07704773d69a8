-- An RSI that stands in a sheet: the entries of its two lists, and which of them decides.
-- Assumes nothing.
use Prim.Native.Nat.{ℕ, ◌<◌}
use native.Mathlib.Omega.{arith}
use mathlib.Core.Path.{◌≡◌, refl, sym, ap, subst, ◌∙◌}
use mathlib.Core.Bool.{Bool, true, false}
use mathlib.Core.List.{List}
use lib.Dec.{T}
use lib.IntN.{ℤ}
use Rattle.types.specs.Rows.{rows}
use Rattle.types.specs.Kinds as kinds
use Rattle.types.specs.Table.{numbers, the_rows}
use Rattle.meaning.specs.Values.{Value, Parts}
use Rattle.sheet.specs.Values.{has, parts_of, entries}
use Rattle.sheet.specs.Standing.{Stands}
use Rattle.sheet.specs.Moving.{has_at}
use Rattle.sheet.proofs.Standing.{has_told}
use Rattle.messages.proofs.Entries.{is_list}
use Rattle.rules.specs.Rsi.{passes, event_rule, sign_rule, first_broken, rsi_ruling}
use Rattle.rules.specs.Lists.{rsi_row, list_at, item_row}
use Rattle.rules.specs.Ruling.{Ruling}
use Rattle.rules.proofs.Broken.{none_broken, some_broken}

-- ---- the rows that the rules speak of

pub is_list_lem : (signs : Bool) → T (is_list rsi_row (list_at signs))
unfolding rows is_list
is_list_lem false = tt
is_list_lem true = tt

item_kind : (signs : Bool) → (the_rows (item_row signs)).kind ≡ kinds.sequence
unfolding rows
item_kind false = refl
item_kind true = refl

-- how many components an entry has
abbrev pub many : Bool → ℕ
many false = 11
many true = 8

item_count : (signs : Bool) → (the_rows (item_row signs)).count ≡ many signs
unfolding rows
item_count false = refl
item_count true = refl

pub item_known : (signs : Bool) → item_row signs < 414
unfolding rows
item_known false = omega arith
item_known true = omega arith

module _ (cells : List ℤ) {tb : List ℕ} (table : tb ≡ numbers rows) where
  -- ---- an entry: which component is there

  pub asked : (signs : Bool) (row p k : ℕ) {v : Value} {b : Bool} → row ≡ item_row signs → Stands cells row p v → k < many signs → b ≡ has_at tb row k cells p → has k (parts_of v) ≡ b
  asked signs row p k er S h e =
      sym (e ∙ has_told cells row p S table (ap (λ (r : ℕ). (the_rows r).kind) er ∙ item_kind signs) k (omega (arith, ap (λ (r : ℕ). (the_rows r).count) er ∙ item_count signs)))

-- ---- the events decide, else the signs

module _ (ps : Parts) {first : Ruling} (e : first ≡ first_broken event_rule 0 (entries (list_at false) ps) passes) where
  pub events_decide : (first.number ≡ 0 → ⊥) → first ≡ rsi_ruling ps
  unfolding rsi_ruling
  events_decide h = e ∙ sym (some_broken event_rule 0 (entries (list_at false) ps) (first_broken sign_rule 0 (entries (list_at true) ps) passes) (subst (λ (r : Ruling). r.number ≡ 0 → ⊥) e h))

  pub signs_decide : {r : Ruling} → first.number ≡ 0 → r ≡ first_broken sign_rule 0 (entries (list_at true) ps) passes → r ≡ rsi_ruling ps
  unfolding rsi_ruling
  signs_decide z er = er ∙ sym (none_broken event_rule 0 (entries (list_at false) ps) (first_broken sign_rule 0 (entries (list_at true) ps) passes) (subst (λ (r : Ruling). r.number ≡ 0) e z))
