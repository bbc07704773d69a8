-- A component that is a whole number from 0 on, of a sequence that stands in a sheet: the number that is taken is that of the value.
-- Assumes nothing.
use Prim.Native.Nat.{ℕ, zero, suc, ◌+◌, ◌<◌, ◌≤◌}
use native.Mathlib.Nat.{zero-add}
use native.Mathlib.Omega.{arith}
use mathlib.Core.Path.{◌≡◌, refl, sym, ap, subst, ◌∙◌}
use mathlib.Core.Bool.{Bool, true, false}
use mathlib.Core.List.{List}
use lib.Dec.{T, eqb, ltb, leb, eqb→eq, ltb→lt, leb→le}
use lib.IntN.{ℤ, pos, negsuc, ◌+ℤ◌}
use lib.ListN.{length, get_or}
use Rattle.std.specs.Prelude.{Result, Ok, Err, Option, Some, None}
use Rattle.answers.specs.declared.Refusal.{Refusal}
use Rattle.basics.specs.Lists.{natural, cell_at}
use Rattle.types.specs.Row.{span_of}
use Rattle.types.specs.Rows.{rows}
use Rattle.types.specs.Rule.{◌&◌}
use Rattle.types.specs.Kinds as kinds
use Rattle.types.specs.Table.{numbers, the_rows}
use Rattle.types.proofs.Depth.{first_part, more_parts}
use Rattle.meaning.specs.Values.{Value, Parts, finished, absent, there, sequence}
use Rattle.sheet.specs.Values.{has, part, parts_of}
use Rattle.sheet.specs.Standing.{Stands, part_row, Holds}
use Rattle.sheet.specs.Moving.{component_at}
use Rattle.sheet.specs.declared.Part.{Part}
use Rattle.sheet.proofs.Standing.{component_holds, numbered}
use Rattle.messages.specs.Message.{number_of}
use Rattle.messages.specs.Taking.{number_from, number_at}

-- ---- what the type table says, as tests: a row is a whole number from 0 to at most so many, and so is component k of a row

abbrev from_zero : ℤ → Bool
from_zero (pos zero) = true
from_zero (pos (suc n)) = false
from_zero (negsuc n) = false

abbrev pub is_number : ℕ → ℕ → Bool
is_number most row = ltb (the_rows row).kind kinds.sequence & from_zero (the_rows row).lowest & leb (span_of (the_rows row)) most

unfoldable pub is_figure : ℕ → ℕ → ℕ → Bool
is_figure most row k = eqb (the_rows row).kind kinds.sequence & ltb k (the_rows row).count & is_number most (part_row row k)

zero_lowest : (z : ℤ) → T (from_zero z) → z ≡ pos 0
zero_lowest (pos zero) t = refl
zero_lowest (pos (suc n)) t = absurd t
zero_lowest (negsuc n) t = absurd t

-- ---- a number's one cell is its value

module _ (most : ℕ) (cells : List ℤ) (row place : ℕ) {v : Value} (S : Stands cells row place v) (t : T (is_number most row)) where
  abbrev Plain : Bool
  Plain = ltb (the_rows row).kind kinds.sequence

  abbrev Lowest : Bool
  Lowest = from_zero (the_rows row).lowest

  abbrev Span : Bool
  Span = leb (span_of (the_rows row)) most

  lowest : (the_rows row).lowest ≡ pos 0
  lowest = zero_lowest (the_rows row).lowest (first_part Lowest Span (more_parts Plain (Lowest & Span) t))

  span : span_of (the_rows row) ≤ most
  span = leb→le (span_of (the_rows row)) most (more_parts Lowest Span (more_parts Plain (Lowest & Span) t))

  pub record OneCell : Type 0 where
    pub is : cell_at cells place ≡ number_of v
    pub few : cell_at cells place ≤ most
    pub enough : place < length cells
    pub next : place + 1 ≡ S.next

  pub one_cell : OneCell
  unfolding number_of
  one_cell =
      let N = numbered cells row place S (ltb→lt (the_rows row).kind kinds.sequence (first_part Plain (Lowest & Span) t)) in
      let cell : get_or cells place (pos 0) ≡ pos N.above = sym N.cell ∙ ap (λ (z : ℤ). z +ℤ pos N.above) lowest ∙ ap pos (zero-add N.above) in
      let value : cell_at cells place ≡ N.above = ap natural cell in
      record { is = sym (ap number_of N.is); few = omega (arith, N.within, span); enough = N.enough; next = N.next }

-- a component that is absent is no number
pub part_absent : (k : ℕ) (ps : Parts) → has k ps ≡ false → part k ps ≡ sequence finished
unfolding has part
part_absent k finished e = refl
part_absent zero (absent more) e = refl
part_absent zero (there v more) e = absurd (let z : ◌≡◌ {A = ℕ} 0 1 = cc in omega arith)
part_absent (suc k) (absent more) e = part_absent k more e
part_absent (suc k) (there v more) e = part_absent k more e

-- ---- the number in component k

module _ (most : ℕ) (cells : List ℤ) (row k place : ℕ) {v : Value} (S : Stands cells row place v) {tb : List ℕ} (table : tb ≡ numbers rows) (t : T (is_figure most row k)) where
  abbrev Kind : Bool
  Kind = eqb (the_rows row).kind kinds.sequence

  abbrev Among : Bool
  Among = ltb k (the_rows row).count

  abbrev Number : Bool
  Number = is_number most (part_row row k)

  told : T (Kind & Among & Number)
  unfolding is_figure
  told = t

  kind_so : (the_rows row).kind ≡ kinds.sequence
  kind_so = eqb→eq (the_rows row).kind kinds.sequence (first_part Kind (Among & Number) told)

  among : k < (the_rows row).count
  among = ltb→lt k (the_rows row).count (first_part Among Number (more_parts Kind (Among & Number) told))

  number_so : T Number
  number_so = more_parts Among Number (more_parts Kind (Among & Number) told)

  pub record Figure (n : ℕ) : Type 0 where
    pub is : n ≡ number_of (part k (parts_of v))
    pub few : n ≤ most

  by_part : (r : Result (Option Part) Refusal) → Holds cells row k (parts_of v) r → Figure (number_from cells r)
  unfolding number_from number_of
  by_part (Ok (Some p)) H = let C = one_cell most cells p.row p.place H.2 (subst (λ (y : ℕ). T (is_number most y)) (sym H.0) number_so) in record { is = C.is; few = C.few }
  by_part (Ok None) H = record { is = sym (ap number_of (part_absent k (parts_of v) H)); few = omega arith }
  by_part (Err why) H = absurd H

  pub figure_stands : {n : ℕ} → n ≡ number_at tb row k cells place → Figure n
  figure_stands e = rw e (by_part (component_at tb row k cells place) (component_holds cells row place S table kind_so k among))
