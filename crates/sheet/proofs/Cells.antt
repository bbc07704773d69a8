-- A cell that is a number of a range, as the code judges it.
-- Assumes nothing.
use Prim.Native.Nat.{ℕ, ◌+◌, ◌<◌, ◌≤◌}
use native.Mathlib.Omega.{arith}
use mathlib.Core.Path.{◌≡◌, refl, sym, ap, ◌∙◌}
use mathlib.Core.List.{List}
use lib.IntN.{ℤ, pos}
use lib.ListN.{length}
use Rattle.std.specs.Prelude.{Result, Ok, Err}
use Rattle.basics.specs.Lists.{cell_at}
use Rattle.answers.specs.declared.Refusal.{Refusal}
use Rattle.types.specs.Shape.{field}
use Rattle.meaning.specs.Steps.{Got}
use Rattle.meaning.specs.Steps.Got.{ok, refused}
use Rattle.meaning.specs.Writing.{write_whole}
use Rattle.meaning.proofs.Sides.{WriteWhole, write_whole_lem}
use Rattle.passing.specs.Ended.{Ended, EndedBy}
use Rattle.passing.proofs.Laws.{went}
use Rattle.passing.proofs.Cells.{cell_seen}
use Rattle.sheet.specs.Moving.{number_by}

-- ---- what `counted` answers, by where the cell ends

module _ (cells : List ℤ) (place least span : ℕ) where
  abbrev judged : Got ℕ ℕ
  judged = write_whole (field (pos least) span) cells place

  module _ {r : Result ℕ Refusal} (t : Ended (length cells) judged r) where
    pub counted_refused : {why : Refusal} → r ≡ Err why → Err why ≡ number_by least judged
    unfolding EndedBy number_by
    counted_refused {why} e = go judged t.told
      where
        go : (g : Got ℕ ℕ) → EndedBy (length cells) g r → Err why ≡ number_by least g
        go (ok more bits next) u = absurd (let both : Ok next ≡ Err why = sym u.0 ∙ e in let z : ◌≡◌ {A = ℕ} 0 1 = cc in omega arith)
        go (refused w) u = sym e ∙ u

    pub counted_is : {q n : ℕ} → r ≡ Ok q → n ≡ cell_at cells place → Ok n ≡ number_by least judged
    unfolding number_by
    counted_is e en = let W = went e t in rw W.is (ap Ok (en ∙ (cell_seen cells least span place W.is).0))

  -- ---- what its answer says

  pub record Counted (n : ℕ) : Type 0 where
    pub more : ℕ
    pub bits : List ℕ
    pub is : judged ≡ ok more bits (place + 1)
    pub sum : n ≡ least + more
    pub within : more ≤ span
    pub enough : place < length cells

  module _ {r : Result ℕ Refusal} (er : r ≡ number_by least judged) where
    pub counted_ok : {n : ℕ} → r ≡ Ok n → Counted n
    unfolding number_by
    counted_ok {n} e = go judged refl er
      where
        go : (g : Got ℕ ℕ) → judged ≡ g → r ≡ number_by least g → Counted n
        go (ok more bits next) eg u =
            let W : WriteWhole cells (field (pos least) span) place next more bits = write_whole_lem cells (field (pos least) span) place eg in
            let both : Ok (least + more) ≡ Ok n = sym u ∙ e in
            let same : least + more ≡ n = cc in
            record { more = more; bits = bits; is = eg ∙ ap (ok more bits) (sym W.next); sum = sym same; within = W.within; enough = W.enough }
        go (refused why) eg u = absurd (let both : Err why ≡ Ok n = sym u ∙ e in let z : ◌≡◌ {A = ℕ} 0 1 = cc in omega arith)

    pub counted_no : {why : Refusal} → r ≡ Err why → judged ≡ refused why
    unfolding number_by
    counted_no {why} e = go judged refl er
      where
        go : (g : Got ℕ ℕ) → judged ≡ g → r ≡ number_by least g → judged ≡ refused why
        go (ok more bits next) eg u = absurd (let both : Ok (least + more) ≡ Err why = sym u ∙ e in let z : ◌≡◌ {A = ℕ} 0 1 = cc in omega arith)
        go (refused w) eg u = let both : Err w ≡ Err why = sym u ∙ e in let same : w ≡ why = cc in eg ∙ ap refused same
