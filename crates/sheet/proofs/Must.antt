-- A component that is not OPTIONAL, of a sequence that stands in a sheet: it stands there, and no question about it is refused.
-- Assumes nothing.
use Prim.Native.Nat.{ℕ, ◌+◌, ◌<◌}
use native.Mathlib.Omega.{arith}
use mathlib.Core.Path.{◌≡◌, sym, subst, ◌∙◌}
use mathlib.Core.Bool.{true, false}
use mathlib.Core.List.{List}
use lib.IntN.{ℤ}
use Rattle.std.specs.Prelude.{Result, Ok, Err, Option, Some, None}
use Rattle.answers.specs.declared.Refusal.{Refusal}
use Rattle.types.specs.Rows.{rows}
use Rattle.types.specs.Kinds as kinds
use Rattle.types.specs.Table.{numbers, the_rows}
use Rattle.meaning.specs.Values.{Value}
use Rattle.sheet.specs.Values as values
use Rattle.sheet.specs.Values.{parts_of}
use Rattle.sheet.specs.Standing.{Stands, part_row, Holds}
use Rattle.sheet.specs.Moving.{component_at}
use Rattle.sheet.specs.declared.Part.{Part}
use Rattle.sheet.proofs.Standing.{component_holds, always_there}

-- what the type table says of it: row is a sequence, and its component k has no presence cell
pub record Must (row k : ℕ) : Type 0 where
  pub sequence : (the_rows row).kind ≡ kinds.sequence
  pub among : k < (the_rows row).count
  pub always : (the_rows ((the_rows row).first + k)).mark ≡ 0

module _ (cells : List ℤ) (row k place : ℕ) (must : Must row k) {v : Value} (S : Stands cells row place v) {tb : List ℕ} (table : tb ≡ numbers rows) {r : Result (Option Part) Refusal} (e : r ≡ component_at tb row k cells place) where
  holds : Holds cells row k (parts_of v) r
  holds = subst (λ (x : Result (Option Part) Refusal). Holds cells row k (parts_of v) x) (sym e) (component_holds cells row place S table must.sequence k must.among)

  pub must_stand : {p : Part} → r ≡ Ok (Some p) → (p.row ≡ part_row row k) × Stands cells p.row p.place (values.part k (parts_of v))
  must_stand u = let H = subst (λ (x : Result (Option Part) Refusal). Holds cells row k (parts_of v) x) u holds in (H.0, H.2)

  pub must_be_there : r ≡ Ok None → ⊥
  must_be_there u =
      let there : ◌≡◌ true false = sym (always_there cells row place S table must.sequence k must.among must.always) ∙ subst (λ (x : Result (Option Part) Refusal). Holds cells row k (parts_of v) x) u holds in
      let z : ◌≡◌ {A = ℕ} 0 1 = cc in
      omega arith

  pub must_be_given : {why : Refusal} → r ≡ Err why → ⊥
  must_be_given u = subst (λ (x : Result (Option Part) Refusal). Holds cells row k (parts_of v) x) u holds
