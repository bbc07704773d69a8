-- The types that a message of a plan is made of, one level each.
-- Assumes nothing.
use Prim.Native.Nat.{ℕ, ◌-◌, ◌<◌, ◌≤◌}
use native.Mathlib.Omega.{arith}
use mathlib.Core.Path.{◌≡◌, refl}
use mathlib.Core.Bool.{Bool, true, false}
use Rattle.bits.specs.Numbers.{width, halvings}
use Rattle.types.specs.Shape.{Ty}
use Rattle.types.specs.Shape.Ty.{seq, choice, list, ext}
use Rattle.types.specs.Shape.Fields.{none, must, may}
use Rattle.types.specs.Shape.Alts.{one, or}
use Rattle.types.specs.Rows.{rows}
use Rattle.std.specs.Prelude.{Some}
use Rattle.types.specs.Table.{type_of, the_rows, type_by, body_of, fields_of, alts_of}
use Rattle.types.proofs.Depth.{type_by_rows}
use Rattle.meaning.specs.Messages.{row_named}
use Rattle.rules.specs.Lists.{item_row}
use Rattle.packing.specs.Entries.{most_in}

abbrev pub ty : ℕ → Ty
ty = type_of the_rows

pub frame_type : ty 413 ≡ ext (choice 413 (or (ty 383) (or (ty 387) (or (ty 401) (or (ty 407) (one (ty 395)))))))
unfolding rows type_by body_of alts_of
frame_type = type_by_rows 413

pub rsi_type : ty 395 ≡ ext (seq (must (ty 47) (may (ty 46) (must (ty 388) (must (ty 137) (may (ty 343) (may (ty 354) none)))))))
unfolding rows type_by body_of fields_of
rsi_type = type_by_rows 395

pub events_type : ty 343 ≡ list 343 1 7 (ty 342)
unfolding rows type_by body_of
events_type = type_by_rows 343

pub signs_type : ty 354 ≡ list 354 1 15 (ty 353)
unfolding rows type_by body_of
signs_type = type_by_rows 354

-- ---- the rows of entries

pub item_known : (signs : Bool) → item_row signs < 414
unfolding rows
item_known false = omega arith
item_known true = omega arith

pub item_named : (signs : Bool) → row_named (item_row signs) ≡ Some (item_row signs)
unfolding rows row_named
item_named false = refl
item_named true = refl

pub known_row : (signs : Bool) {row : ℕ} → row ≡ item_row signs → row < 414
known_row signs e = omega (arith, e, item_known signs)

pub frame_named : row_named 413 ≡ Some 413
unfolding rows row_named
frame_named = refl

-- the size of a list has few bits
pub few_bits : (signs : Bool) {n : ℕ} → n ≡ width (most_in signs - 1) → n ≤ 4
unfolding halvings
few_bits false e = omega arith
few_bits true e = omega arith
