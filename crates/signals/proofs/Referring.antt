-- A reference that stands in a sheet, and its key.
-- Assumes nothing.
use Prim.Native.Nat.{ℕ, ◌+◌, ◌*◌, ◌%◌, ◌≤◌}
use native.Mathlib.Omega.{arith}
use mathlib.Core.Path.{◌≡◌, refl, sym, ap, subst, ◌∙◌}
use mathlib.Core.Bool.{Bool, true, false}
use mathlib.Core.List.{List}
use lib.Dec.{T}
use lib.IntN.{ℤ}
use Rattle.answers.specs.declared.Refusal.{Refusal}
use Rattle.types.specs.Rows.{rows}
use Rattle.types.specs.Table.{numbers}
use Rattle.meaning.specs.Values.{Value, Parts}
use Rattle.sheet.specs.Values as values
use Rattle.std.proofs.Common.{Result, Ok, Err, Option, Some, None}
use Rattle.sheet.specs.Values.{has, parts_of}
use Rattle.sheet.specs.Standing.{Stands, Holds}
use Rattle.sheet.specs.Moving.{component_at, has_at}
use Rattle.sheet.specs.declared.Part.{Part}
use Rattle.sheet.proofs.Standing.{component_holds, has_told}
use Rattle.messages.specs.Message.{number_of}
use Rattle.messages.specs.Taking.{number_at}
use Rattle.messages.proofs.Figures.{is_figure, Figure, figure_stands, part_absent}
use Rattle.signals.specs.Components.{region, local_id}
use Rattle.signals.specs.References.{alone, within, reference_of, reference_at}
use Rattle.signals.specs.Steps.{reference_row, key_of, Refers, Keyed}
use Rattle.signals.proofs.Types.{region_figure, id_figure}

-- ---- a reference by what is there of it

module _ (k : ℕ) (parts : Parts) {id : ℕ} (ei : id ≡ number_of (values.part local_id (parts_of (values.part k parts)))) (few : id ≤ 65535) where
  pub keyed_alone : has region (parts_of (values.part k parts)) ≡ false → Keyed k parts (id % 65536)
  unfolding reference_at reference_of
  keyed_alone e =
      let is : reference_at k parts ≡ alone id = rw (e, ← ei) refl in
      let same : id % 65536 ≡ id = omega arith in
      rw (same) (record { is = sym (ap key_of is); small = rw is (omega arith) })

  pub keyed_within : {q : ℕ} → has region (parts_of (values.part k parts)) ≡ true → q ≡ number_of (values.part region (parts_of (values.part k parts))) → q ≤ 65535 → Keyed k parts ((q % 65536 + 1) * 65536 + id % 65536)
  unfolding reference_at reference_of
  keyed_within {q} e eq small =
      let is : reference_at k parts ≡ within q id = rw (e, ← ei, ← eq) refl in
      let same : id % 65536 ≡ id = omega arith in
      let this : q % 65536 ≡ q = omega arith in
      rw (same, this) (record { is = sym (ap key_of is); small = rw is (omega arith, omega arith) })

module _ (cells : List ℤ) {tb : List ℕ} (table : tb ≡ numbers rows) (row k place : ℕ) {v : Value} (refers : Refers row k) (S : Stands cells row place v) {r : Result (Option Part) Refusal} (e : r ≡ component_at tb row k cells place) where
  holds : Holds cells row k (parts_of v) r
  holds = subst (λ (x : Result (Option Part) Refusal). Holds cells row k (parts_of v) x) (sym e) (component_holds cells row place S table refers.sequence k refers.holds)

  pub reference_given : {why : Refusal} → r ≡ Err why → ⊥
  reference_given u = subst (λ (x : Result (Option Part) Refusal). Holds cells row k (parts_of v) x) u holds

  -- one that is absent is told as that of id 0 without a region
  pub reference_absent : r ≡ Ok None → Keyed k (parts_of v) 0
  unfolding parts_of has values.part number_of
  reference_absent u =
      let none = part_absent k (parts_of v) (subst (λ (x : Result (Option Part) Refusal). Holds cells row k (parts_of v) x) u holds) in
      keyed_alone k (parts_of v) {id = 0} (sym (ap (λ (w : Value). number_of (values.part local_id (parts_of w))) none)) (omega arith) (ap (λ (w : Value). has region (parts_of w)) none)

  module _ {found : Part} (u : r ≡ Ok (Some found)) where
    abbrev t : ℕ
    t = found.row

    abbrev q : ℕ
    q = found.place

    abbrev node : Value
    node = values.part k (parts_of v)

    abbrev H : Holds cells row k (parts_of v) (Ok (Some found))
    H = subst (λ (x : Result (Option Part) Refusal). Holds cells row k (parts_of v) x) u holds

    row_is : t ≡ reference_row
    row_is = H.0 ∙ refers.refers

    stands : Stands cells reference_row q node
    stands = subst (λ (x : ℕ). Stands cells x q node) row_is H.2

    figure : (j n : ℕ) (f : T (is_figure 65535 reference_row j)) → n ≡ number_at tb t j cells q → Figure 65535 cells reference_row j q stands table f n
    figure j n f en = figure_stands 65535 cells reference_row j q stands table f (en ∙ ap (λ (x : ℕ). number_at tb x j cells q) row_is)

    told : {b : Bool} → b ≡ has_at tb t region cells q → has region (parts_of node) ≡ b
    unfolding rows
    told eb = sym (eb ∙ ap (λ (x : ℕ). has_at tb x region cells q) row_is ∙ has_told cells reference_row q stands table refl region (omega arith))

    module _ {n : ℕ} (en : n ≡ number_at tb t local_id cells q) {b : Bool} (eb : b ≡ has_at tb t region cells q) where
      pub reference_alone : b ≡ false → Keyed k (parts_of v) (n % 65536)
      reference_alone z = let F = figure local_id n id_figure en in keyed_alone k (parts_of v) F.is F.few (told eb ∙ z)

      pub reference_within : b ≡ true → {m : ℕ} → m ≡ number_at tb t region cells q → Keyed k (parts_of v) ((m % 65536 + 1) * 65536 + n % 65536)
      reference_within z {m} em =
          let F = figure local_id n id_figure en in
          let G = figure region m region_figure em in
          keyed_within k (parts_of v) F.is F.few (told eb ∙ z) G.is G.few
