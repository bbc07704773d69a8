-- A participant that stands in a sheet: whether it lacks a required field.
-- Assumes nothing.
use Prim.Native.Nat.{ℕ}
use mathlib.Core.Path.{◌≡◌, refl, sym, ap, ◌∙◌}
use mathlib.Core.Bool.{Bool, true, false}
use mathlib.Core.List.{List}
use native.Mathlib.Omega.{arith}
use lib.IntN.{ℤ}
use Rattle.answers.specs.GivenBack as given
use Rattle.types.specs.Rows.{rows}
use Rattle.types.specs.Table.{numbers, the_rows}
use Rattle.meaning.specs.Values.{Value, Parts}
use Rattle.sheet.specs.Values.{has, parts_of}
use Rattle.sheet.specs.Standing.{Stands}
use Rattle.sheet.specs.Moving.{has_at}
use Rattle.sheet.proofs.Standing.{has_told}
use Rattle.participants.specs.Components.{vehicle_class}
use Rattle.participants.specs.Rsm.{field_rule}
use Rattle.participants.specs.Steps.{participant_row}
use Rattle.participants.proofs.Types.{participant_sequence, class_among}

lacking : (participant : Parts) → has vehicle_class participant ≡ false → given.field_missing ≡ field_rule participant
unfolding field_rule
lacking participant e = rw e refl

complete : (participant : Parts) → has vehicle_class participant ≡ true → given.done ≡ field_rule participant
unfolding field_rule
complete participant e = rw e refl

module _ (cells : List ℤ) {tb : List ℕ} (table : tb ≡ numbers rows) (row at : ℕ) {v : Value} (er : row ≡ participant_row) (S : Stands cells row at v) {b : Bool} (asked : b ≡ has_at tb row vehicle_class cells at) where
  class_is : has vehicle_class (parts_of v) ≡ b
  class_is =
      sym (asked ∙ has_told cells row at S table (ap (λ (r : ℕ). (the_rows r).kind) er ∙ participant_sequence) vehicle_class (omega (arith, class_among, ap (λ (r : ℕ). (the_rows r).count) er)))

  pub entry_passes : b ≡ true → given.done ≡ field_rule (parts_of v)
  entry_passes e = complete (parts_of v) (class_is ∙ e)

  pub entry_lacks : b ≡ false → given.field_missing ≡ field_rule (parts_of v)
  entry_lacks e = lacking (parts_of v) (class_is ∙ e)
