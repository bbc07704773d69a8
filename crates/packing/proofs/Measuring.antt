-- The entries, taken one by one: their cells so far, and their sizes.
-- Assumes nothing.
use Prim.Native.Nat.{ℕ, suc, ◌+◌, ◌-◌, ◌<◌, ◌≤◌}
use native.Mathlib.Omega.{arith}
use mathlib.Core.Path.{◌≡◌, refl, sym, ap, ap₂, subst, ◌∙◌}
use mathlib.Core.Bool.{Bool, true, false, cond}
use mathlib.Core.List.{List, [], ◌∷◌, ◌++◌}
use lib.Dec.{eqb}
use Rattle.std.proofs.Common.{Result, Ok, Err}
use lib.IntN.{ℤ}
use lib.ListN.{length, set, take, drop, length-append}
use Rattle.basics.specs.Lists.{filled}
use Rattle.answers.specs.declared.Refusal.{Refusal}
use Rattle.types.specs.Rows.{rows}
use Rattle.types.specs.Table.{numbers, type_of, the_rows}
use Rattle.meaning.specs.Values.{Value}
use Rattle.meaning.specs.Steps.{Got, ok, refused}
use Rattle.meaning.specs.Writing.{Codes}
use Rattle.meaning.proofs.Bound.{write_inside}
use Rattle.passing.specs.Passing.{passed, passed_by}
use Rattle.sheet.specs.Standing.{value_at}
use Rattle.sheet.proofs.Components.{passed_by_lem}
use Rattle.rules.specs.Lists.{item_row}
use Rattle.packing.specs.Entries.{Pieces, pieces, no_pieces, with_piece, pieces_by, pieces_from}
use Rattle.packing.specs.Sizes.{size_of, sizes_of}
use Rattle.packing.specs.Steps.{SizeOf, Measured}
use Rattle.packing.proofs.Held.{piece_codes, size_is}

-- ---- more at the end

-- one item more in front of what is left of the old ones
pub filled_more : {A : Type 0} (new old : List A) (x : A) → length new < length old → set (filled new old) (length new) x ≡ filled (new ++ x ∷ []) old
filled_more [] [] x h = absurd (omega arith)
filled_more [] (o ∷ old) x h = refl
filled_more (n ∷ new) [] x h = absurd (omega arith)
filled_more (n ∷ new) (o ∷ old) x h = ap (λ (l : List _). n ∷ l) (filled_more new old x (omega arith))

sizes_long : (row : ℕ) (held : List (List ℤ)) → length (sizes_of row held) ≡ length held
unfolding sizes_of
sizes_long row [] = refl
sizes_long row (cells ∷ held) = ap suc (sizes_long row held)

sizes_more : (row : ℕ) (held : List (List ℤ)) (cells : List ℤ) → sizes_of row (held ++ cells ∷ []) ≡ sizes_of row held ++ size_of row cells ∷ []
unfolding sizes_of
sizes_more row [] cells = refl
sizes_more row (first ∷ held) cells = ap (λ (l : List ℕ). size_of row first ∷ l) (sizes_more row held cells)

-- these pieces, and then others
pub before : List (List ℤ) → Pieces → Pieces
before [] p = p
before (cells ∷ held) p = with_piece cells (before held p)

before_more : (held : List (List ℤ)) (cells : List ℤ) (p : Pieces) → before (held ++ cells ∷ []) p ≡ before held (with_piece cells p)
unfolding before
before_more [] cells p = refl
before_more (first ∷ held) cells p = ap (with_piece first) (before_more held cells p)

before_none : (held : List (List ℤ)) → before held no_pieces ≡ no_pieces
unfolding before with_piece
before_none [] = refl
before_none (first ∷ held) = ap (with_piece first) (before_none held)

before_all : (held : List (List ℤ)) → before held (pieces []) ≡ pieces held
unfolding before with_piece
before_all [] = refl
before_all (first ∷ held) = ap (with_piece first) (before_all held)

-- ---- what is taken so far

module _ (signs : Bool) (entries : List ℤ) (row count : ℕ) (er : row ≡ item_row signs) (old : List ℕ) where
  pub record Going (at i : ℕ) (sizes : List ℕ) : Type 0 where
    pub held : List (List ℤ)
    pub many : length held ≡ i
    pub goes : before held (pieces_from (item_row signs) (count - i) entries at) ≡ pieces_from (item_row signs) count entries 1
    pub fills : sizes ≡ filled (sizes_of (item_row signs) held) old

  pub begins : Going 1 0 old
  unfolding before sizes_of
  begins = let z : count - 0 ≡ count = omega arith in record { held = []; many = refl; goes = ap (λ (n : ℕ). pieces_from (item_row signs) n entries 1) z; fills = refl }

  module _ {tb : List ℕ} (table : tb ≡ numbers rows) (known : row < 414) (at i : ℕ) (sizes : List ℕ) (G : Going at i sizes) (left : i < count) (inside : at ≤ length entries) {p : Result ℕ Refusal} (ep : p ≡ passed tb row entries at) where
    by_value : passed_by (value_at entries (item_row signs) at) ≡ p
    by_value = sym (ep ∙ passed_by_lem entries row at table known inside ∙ ap (λ (r : ℕ). passed_by (value_at entries r at)) er)

    next_piece : pieces_from (item_row signs) (count - i) entries at ≡ pieces_by entries at (value_at entries (item_row signs) at) (pieces_from (item_row signs) (count - (i + 1)) entries)
    unfolding pieces_from
    next_piece = let z : count - i ≡ suc (count - (i + 1)) = omega arith in ap (λ (n : ℕ). pieces_from (item_row signs) n entries at) z

    -- no value stands there
    none_there : (g : Got ℕ Value) → passed_by g ≡ p → {why : Refusal} → p ≡ Err why → pieces_by entries at g (pieces_from (item_row signs) (count - (i + 1)) entries) ≡ no_pieces
    unfolding passed_by pieces_by
    none_there (ok v bits next) e u = absurd (let both = e ∙ u in let z : ◌≡◌ {A = ℕ} 0 1 = cc in omega arith)
    none_there (refused why) e u = refl

    pub refuses : {why : Refusal} → p ≡ Err why → Measured signs (pieces_from (item_row signs) count entries 1) count old sizes false
    refuses u =
        let none : no_pieces ≡ pieces_from (item_row signs) count entries 1 = sym (ap (before G.held) (next_piece ∙ none_there (value_at entries (item_row signs) at) by_value u) ∙ before_none G.held) ∙ G.goes in
        subst (λ (q : Pieces). Measured signs q count old sizes false) none refl

    -- a value stands there
    pub record Stood (next : ℕ) : Type 0 where
      pub value : Value
      pub bits : List ℕ
      pub is : value_at entries (item_row signs) at ≡ ok value bits next
      pub onward : at ≤ next
      pub ends : next ≤ length entries

    stood_by : (g : Got ℕ Value) → value_at entries (item_row signs) at ≡ g → passed_by g ≡ p → {next : ℕ} → p ≡ Ok next → Stood next
    unfolding passed_by
    stood_by (ok v bits m) eg e {next} u =
        let same : m ≡ next = cc (e ∙ u) in
        let I = write_inside (type_of the_rows (item_row signs)) entries at m v bits eg in
        record { value = v; bits = bits; is = eg ∙ ap (ok v bits) same; onward = omega (arith, I.onward, same); ends = omega (arith, I.within, same, inside) }
    stood_by (refused why) eg e u = absurd (let both = e ∙ u in let z : ◌≡◌ {A = ℕ} 0 1 = cc in omega arith)

    pub stood : {next : ℕ} → p ≡ Ok next → Stood next
    stood u = stood_by (value_at entries (item_row signs) at) refl by_value u

    pub goes_on : {next : ℕ} → p ≡ Ok next → i < length old → {size : ℕ} → SizeOf row (take (next - at) (drop at entries)) size → Going next (i + 1) (set sizes i size)
    unfolding pieces_by
    goes_on {next} u room {size} sized =
        let S = stood u in
        let cut = take (next - at) (drop at entries) in
        let c : Codes (type_of the_rows (item_row signs)) S.value cut S.bits = piece_codes (type_of the_rows (item_row signs)) entries at inside S.is in
        let is : size ≡ size_of (item_row signs) cut =
        sized S.value S.bits (subst (λ (r : ℕ). Codes (type_of the_rows r) S.value cut S.bits) (sym er) c) ∙ sym (size_is (item_row signs) cut c) in
        let long : length (sizes_of (item_row signs) G.held) ≡ i = sizes_long (item_row signs) G.held ∙ G.many in
        record {
          held = G.held ++ cut ∷ [];
          many = omega (arith, length-append G.held (cut ∷ []), G.many);
          goes =
              before_more G.held cut (pieces_from (item_row signs) (count - (i + 1)) entries next)
              ∙ sym (ap (before G.held) (next_piece ∙ ap (λ (g : Got ℕ Value). pieces_by entries at g (pieces_from (item_row signs) (count - (i + 1)) entries)) S.is))
              ∙ G.goes;
          fills =
              ap₂ (λ (l : List ℕ) (k : ℕ). set l k size) G.fills (sym long) ∙ filled_more (sizes_of (item_row signs) G.held) old size (omega (arith, long))
              ∙ ap (λ (l : List ℕ). filled l old) (ap (λ (n : ℕ). sizes_of (item_row signs) G.held ++ n ∷ []) is ∙ sym (sizes_more (item_row signs) G.held cut));
        }

  -- ---- behind the last one

  pub ends : (at i : ℕ) (sizes : List ℕ) → Going at i sizes → i ≡ count → (r : Bool) → r ≡ eqb at (length entries) → Measured signs (pieces_from (item_row signs) count entries 1) count old sizes r
  unfolding pieces_from
  ends at i sizes G all r e = go (eqb at (length entries)) refl e
    where
      left : before G.held (cond (eqb at (length entries)) (pieces []) no_pieces) ≡ pieces_from (item_row signs) count entries 1
      left = let z : 0 ≡ count - i = omega arith in ap (λ (n : ℕ). before G.held (pieces_from (item_row signs) n entries at)) z ∙ G.goes

      go : (b : Bool) → eqb at (length entries) ≡ b → r ≡ b → Measured signs (pieces_from (item_row signs) count entries 1) count old sizes r
      go true u v =
          let is : pieces G.held ≡ pieces_from (item_row signs) count entries 1 = sym (ap (λ (b : Bool). before G.held (cond b (pieces []) no_pieces)) u ∙ before_all G.held) ∙ left in
          subst (λ (q : Pieces). Measured signs q count old sizes r) is (v, G.many ∙ all, G.fills)
      go false u v =
          let is : no_pieces ≡ pieces_from (item_row signs) count entries 1 = sym (ap (λ (b : Bool). before G.held (cond b (pieces []) no_pieces)) u ∙ before_none G.held) ∙ left in
          subst (λ (q : Pieces). Measured signs q count old sizes r) is v
