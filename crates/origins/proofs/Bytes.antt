-- Octets that stand in a sheet, one behind the other, are the cells' numbers.
-- Assumes nothing.
use Prim.Native.Nat.{ℕ, zero, suc, ◌+◌, ◌-◌, ◌%◌, ◌<◌, ◌^◌}
use native.Mathlib.Omega.{arith}
use mathlib.Core.Path.{◌≡◌, refl, sym, ap, ap₂, subst, ◌∙◌}
use mathlib.Core.List.{List, [], ◌∷◌}
use lib.Dec.{T}
use lib.IntN.{ℤ}
use lib.ListN.{length}
use Rattle.basics.specs.Counts.{capped}
use Rattle.basics.specs.Lists.{cell_at}
use Rattle.types.specs.Rows.{rows}
use Rattle.meaning.specs.Values.{Value, Values}
use Rattle.sheet.specs.Standing.{Stands, Entries}
use Rattle.sheet.proofs.Standing.{entry, entries_none}
use Rattle.messages.specs.Message.{number_of}
use Rattle.messages.proofs.Figures.{is_number, one_cell}
use Rattle.origins.specs.Frame.{octets_of}
use Rattle.origins.specs.Octets.{octet_at, eight_at}

-- the row of the octet in the type table
abbrev pub octet_row : ℕ
octet_row = 1

octet_number : T (is_number 255 octet_row)
unfolding rows
octet_number = tt

module _ (cells : List ℤ) (few : length cells < 2 ^ 64) (place : ℕ) where
  -- ---- one octet

  octet_cell : (i : ℕ) {v : Value} → Stands cells octet_row (place + i) v → number_of v ≡ octet_at cells place i
  octet_cell i S =
      let C = one_cell 255 cells octet_row (place + i) S octet_number in
      let at : capped (place + i) ≡ place + i = omega (arith, C.enough, few) in
      let low : cell_at cells (place + i) % 256 ≡ cell_at cells (place + i) = omega (arith, C.few) in
      sym (ap (λ (q : ℕ). cell_at cells q % 256) at ∙ low ∙ C.is)

  -- ---- so many, one behind the other

  unfoldable octets_from : ℕ → ℕ → List ℕ
  octets_from zero i = []
  octets_from (suc n) i = octet_at cells place i ∷ octets_from n (i + 1)

  next_entries : {p q n m : ℕ} {vs : Values} → q ≡ p → n ≡ m → Entries cells octet_row p n vs → Entries cells octet_row q m vs
  next_entries ep en E = rw (ep, ← en) E

  octets_stand : (n i : ℕ) {vs : Values} → Entries cells octet_row (place + i) n vs → octets_of vs ≡ octets_from n i
  unfolding octets_of octets_from
  octets_stand zero i E = ap octets_of (entries_none cells octet_row (place + i) zero refl E)
  octets_stand (suc n) i E =
      let F = entry cells octet_row (place + i) (suc n) (omega arith) E in
      let C = one_cell 255 cells octet_row (place + i) F.stands octet_number in
      let next : place + (i + 1) ≡ F.stands.next = omega (arith, C.next) in
      let left : suc n - 1 ≡ n = omega arith in
      ap octets_of F.is ∙ ap₂ (λ (a : ℕ) (more : List ℕ). a ∷ more) (octet_cell i F.stands) (octets_stand n (i + 1) (next_entries next left F.behind))

  pub eight_stand : {vs : Values} → Entries cells octet_row place 8 vs → octets_of vs ≡ eight_at cells place
  unfolding octets_from
  eight_stand {vs} E =
      let here : place ≡ place + 0 = omega arith in
      octets_stand 8 0 (subst (λ (p : ℕ). Entries cells octet_row p 8 vs) here E)
