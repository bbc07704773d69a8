-- The entries of an input are values, each with its size.
-- Assumes nothing.
use Prim.Native.Nat.{ℕ, zero, suc, ◌+◌, ◌-◌, ◌<◌, ◌≤◌, min}
use native.Mathlib.Omega.{arith}
use mathlib.Core.Path.{◌≡◌, refl, sym, ap, ap₂, subst, ◌∙◌}
use mathlib.Core.Bool.{Bool, true, false, cond}
use mathlib.Core.List.{List, [], ◌∷◌}
use borrow.Author.Tests.{leb-true}
use lib.Dec.{eqb, leb}
use lib.IntN.{ℤ, pos, negsuc}
use lib.ListN.{length, get_or, take, drop, length-drop}
use lib.Seq.{get_or-take, get_or-drop, length-take-le}
use Rattle.types.specs.Shape.{Ty}
use Rattle.types.specs.Table.{type_of, the_rows}
use Rattle.meaning.specs.Values.{Value}
use Rattle.meaning.specs.Steps.{Got, ok, refused, out_of}
use Rattle.meaning.specs.Writing.{write, Codes}
use Rattle.meaning.proofs.Bound.{write_inside}
use Rattle.sheet.specs.Standing.{value_at}
use Rattle.rules.specs.Lists.{item_row}
use Rattle.packing.specs.Entries.{Pieces, pieces, no_pieces, with_piece, pieces_by, pieces_from, most_entries, entries_of}
use Rattle.packing.specs.Sizes.{stop, size_of, sizes_of}
use Rattle.packing.specs.Steps.{Sized, none_sized, and_sized}
use Rattle.packing.proofs.Capped.{capped}
use Rattle.packing.proofs.Moved.{write_moved}

-- ---- a value, cut out of a sheet

pub piece_codes : (t : Ty) (cells : List ℤ) (p : ℕ) {v : Value} {bits : List ℕ} {next : ℕ} → p ≤ length cells → write t cells p ≡ ok v bits next → Codes t v (take (next - p) (drop p cells)) bits
piece_codes t cells p {v} {bits} {next} inside e =
    let I = write_inside t cells p next v bits e in
    let long : length (take (next - p) (drop p cells)) ≡ next - p = length-take-le (next - p) (drop p cells) (omega (arith, length-drop p cells, I.within)) in
    write_moved t e (take (next - p) (drop p cells)) 0 (record { same = same; enough = omega (arith, long) }) ∙ ap (ok v bits) (omega (arith, long))
  where
    same : (k : ℕ) → k < next - p → get_or (take (next - p) (drop p cells)) (0 + k) (pos 0) ≡ get_or cells (p + k) (pos 0)
    same k h = let z : 0 + k ≡ k = omega arith in ap (λ (i : ℕ). get_or (take (next - p) (drop p cells)) i (pos 0)) z ∙ get_or-take (next - p) (drop p cells) k (pos 0) h ∙ get_or-drop p cells k (pos 0)

-- ---- its size

pub size_is : (row : ℕ) (cells : List ℤ) {v : Value} {bits : List ℕ} → Codes (type_of the_rows row) v cells bits → size_of row cells ≡ min (length bits) stop
unfolding size_of out_of
size_is row cells c = ap (λ (g : Got ℕ Value). min (length (out_of g)) stop) c

pub sizes_are : (row : ℕ) {held : List (List ℤ)} {lengths : List ℕ} → Sized (type_of the_rows row) held lengths → sizes_of row held ≡ capped lengths
unfolding sizes_of
sizes_are row none_sized = refl
sizes_are row (and_sized {cells = cells} c S) = ap₂ (λ (n : ℕ) (l : List ℕ). n ∷ l) (size_is row cells c) (sizes_are row S)

-- ---- all of them

pub record Held (row : ℕ) (held : List (List ℤ)) : Type 0 where
  pub lengths : List ℕ
  pub are : Sized (type_of the_rows row) held lengths

-- what one more piece comes to
pieced : (cells : List ℤ) (p : Pieces) {held : List (List ℤ)} → with_piece cells p ≡ pieces held → (more : List (List ℤ)) × (p ≡ pieces more) × (held ≡ cells ∷ more)
unfolding with_piece
pieced cells (pieces more) {held} e = (more, refl, cc)
pieced cells no_pieces e = absurd (let z : ◌≡◌ {A = ℕ} 0 1 = cc in omega arith)

held_from : (row n : ℕ) (cells : List ℤ) (p : ℕ) {held : List (List ℤ)} → p ≤ length cells → pieces_from row n cells p ≡ pieces held → Held row held × (length held ≡ n)
unfolding pieces_from pieces_by
held_from row zero cells p {held} inside e = go (eqb p (length cells)) e
  where
    go : (b : Bool) → cond b (pieces []) no_pieces ≡ pieces held → Held row held × (length held ≡ 0)
    go true u = let z : [] ≡ held = cc in subst (λ (l : List (List ℤ)). Held row l × (length l ≡ 0)) z (record { lengths = []; are = none_sized }, refl)
    go false u = absurd (let z : ◌≡◌ {A = ℕ} 0 1 = cc in omega arith)
held_from row (suc n) cells p {held} inside e = go (value_at cells row p) refl e (λ next more l u. held_from row n cells next {held = more} l u)
  where
    go : (g : Got ℕ Value) → value_at cells row p ≡ g → pieces_by cells p g (pieces_from row n cells) ≡ pieces held
        → ((next : ℕ) (more : List (List ℤ)) → next ≤ length cells → pieces_from row n cells next ≡ pieces more → Held row more × (length more ≡ n)) → Held row held × (length held ≡ suc n)
    go (refused why) eg u later = absurd (let z : ◌≡◌ {A = ℕ} 0 1 = cc in omega arith)
    go (ok v bits next) eg u later =
        let I = write_inside (type_of the_rows row) cells p next v bits eg in
        let cut = take (next - p) (drop p cells) in
        let P = pieced cut (pieces_from row n cells next) u in
        let R = later next P.0 (omega (arith, I.within, inside)) P.1 in
        let c = piece_codes (type_of the_rows row) cells p inside eg in
        subst (λ (l : List (List ℤ)). Held row l × (length l ≡ suc n)) (sym P.2) (record { lengths = length bits ∷ R.0.lengths; are = and_sized c R.0.are }, ap suc R.1)

-- the entries of an input: values of their type, at most 64 of them
pub entries_held : (signs : Bool) (entries : List ℤ) {held : List (List ℤ)} → entries_of signs entries ≡ pieces held → Held (item_row signs) held × (length held ≤ most_entries)
unfolding entries_of
entries_held signs [] e = absurd (let z : ◌≡◌ {A = ℕ} 0 1 = cc in omega arith)
entries_held signs (negsuc n ∷ cells) e = absurd (let z : ◌≡◌ {A = ℕ} 0 1 = cc in omega arith)
entries_held signs (pos n ∷ cells) {held} e = go (leb n most_entries) refl e
  where
    go : (b : Bool) → leb n most_entries ≡ b → cond b (pieces_from (item_row signs) n (pos n ∷ cells) 1) no_pieces ≡ pieces held → Held (item_row signs) held × (length held ≤ most_entries)
    go false u v = absurd (let z : ◌≡◌ {A = ℕ} 0 1 = cc in omega arith)
    go true u v = let R = held_from (item_row signs) n (pos n ∷ cells) 1 (omega arith) v in (R.0, omega (arith, R.1, leb-true n most_entries u))
