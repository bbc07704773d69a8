-- A message is good by the sizes of its entries where it is good by the writer's own length of it.
-- Assumes nothing.
use Prim.Native.Nat.{ℕ, zero, suc, ◌+◌, ◌-◌, ◌<◌, ◌≤◌, min}
use native.Mathlib.Omega.{arith}
use mathlib.Core.Path.{◌≡◌, refl, sym, ap, subst, ◌∙◌}
use mathlib.Core.Bool.{Bool, true, false, not, ◌&&◌}
use mathlib.Core.List.{List, [], ◌∷◌}
use borrow.Author.Tests.{leb-true}
use lib.Dec.{eqb, leb}
use lib.IntN.{ℤ, pos}
use lib.ListN.{length, get_or, drop, replicate, length-append, length-drop, length-replicate, get_or-append}
use Rattle.basics.specs.Lists.{natural, filled}
use Rattle.bits.specs.Bytes.{octets_for}
use Rattle.bits.specs.Numbers.{width}
use Rattle.types.specs.Shape.{Ty}
use Rattle.types.specs.Table.{type_of, the_rows}
use Rattle.meaning.specs.Values.{Value}
use Rattle.meaning.specs.Writing.{Codes}
use Rattle.messages.specs.Places.{At}
use Rattle.rules.specs.Lists.{item_row}
use Rattle.packing.specs.Entries.{most_entries, most_in}
use Rattle.packing.specs.Message.{message_octets}
use Rattle.packing.specs.Sizes.{stop, size_of}
use Rattle.packing.specs.Steps.{Sized, none_sized, and_sized}
use Rattle.packing.specs.Lengths.{Lengths}
use Rattle.packing.proofs.Capped.{capped}
use Rattle.packing.proofs.Formed.{Input}
use Rattle.packing.proofs.Held.{Held, entries_held, sizes_are}
use Rattle.packing.proofs.Pieces.{total}
use Rattle.packing.proofs.Types.{few_bits}
use Rattle.packing.proofs.Within.{within_limit}
use Rattle.plans.specs.Plans.{is_in_order, is_empty, named, good_message}
use Rattle.plans.specs.Steps.{Stopped, summed, good_by}
use Rattle.plans.proofs.Fitting.{ordered_there}

-- ---- the entries that numbers name, and their sizes

-- all are entries that are there
abbrev pub There : ℕ → List ℤ → Type 0
There n cells = (p : ℕ) (cell : ℤ) → At p cell cells → (i : ℕ) × (cell ≡ pos i) × (i < n)

pub picks : List ℕ → List ℤ → List ℕ
picks sizes [] = []
picks sizes (cell ∷ cells) = get_or sizes (natural cell) 0 ∷ picks sizes cells

record One (t : Ty) (cells : List ℤ) (size : ℕ) : Type 0 where
  value : Value
  bits : List ℕ
  codes : Codes t value cells bits
  many : size ≡ length bits

one_of : (t : Ty) {held : List (List ℤ)} {lengths : List ℕ} → Sized t held lengths → (i : ℕ) → i < length held → One t (get_or held i []) (get_or lengths i 0)
one_of t none_sized i h = absurd (omega arith)
one_of t (and_sized {v} {bits = bits} c S) zero h = record { value = v; bits = bits; codes = c; many = refl }
one_of t (and_sized c S) (suc i) h = one_of t S i (omega arith)

pub named_sized : (t : Ty) (held : List (List ℤ)) (lengths : List ℕ) → Sized t held lengths → (cells : List ℤ) → There (length held) cells → Sized t (named held cells) (picks lengths cells)
unfolding named picks
named_sized t held lengths S [] there = none_sized
named_sized t held lengths S (cell ∷ cells) there =
    let T = there 0 cell refl in
    let is : natural cell ≡ T.0 = ap natural T.1 in
    let O : One t (get_or held (natural cell) []) (get_or lengths (natural cell) 0) = one_of t S (natural cell) (omega (arith, is, T.2)) in
    subst (λ (n : ℕ). Sized t (get_or held (natural cell) [] ∷ named held cells) (n ∷ picks lengths cells)) (sym O.many) (and_sized O.codes (named_sized t held lengths S cells (λ p z s. there (suc p) z s)))

capped_at : (lengths : List ℕ) (i : ℕ) → get_or (capped lengths) i 0 ≡ min (get_or lengths i 0) stop
capped_at [] i = refl
capped_at (n ∷ ns) zero = refl
capped_at (n ∷ ns) (suc i) = capped_at ns i

capped_long : (lengths : List ℕ) → length (capped lengths) ≡ length lengths
capped_long [] = refl
capped_long (n ∷ ns) = ap suc (capped_long ns)

sized_long : (t : Ty) {held : List (List ℤ)} {lengths : List ℕ} → Sized t held lengths → length lengths ≡ length held
sized_long t none_sized = refl
sized_long t (and_sized c S) = ap suc (sized_long t S)

pub named_long : (held : List (List ℤ)) (cells : List ℤ) → length (named held cells) ≡ length cells
unfolding named
named_long held [] = refl
named_long held (cell ∷ cells) = ap suc (named_long held cells)

-- ---- what was measured of an input

module _ (kind : ℕ) (header entries : List ℤ) {L : Lengths} (I : Input kind header entries L) where
  abbrev signs : Bool
  signs = eqb kind 1

  E : Held (item_row signs) I.held × (length I.held ≤ most_entries)
  E = entries_held signs entries I.listed

  lengths : List ℕ
  lengths = E.0.lengths

  sizes_list : L.sizes ≡ filled (capped lengths) (replicate most_entries 0)
  unfolding lengths
  sizes_list = I.sizes_are ∙ ap (λ (l : List ℕ). filled l (replicate most_entries 0)) (sizes_are (item_row signs) E.0.are)

  long : length lengths ≡ length I.held
  unfolding lengths
  long = sized_long (type_of the_rows (item_row signs)) E.0.are

  size_at : (i : ℕ) → i < length I.held → get_or L.sizes i 0 ≡ min (get_or lengths i 0) stop
  size_at i h =
      ap (λ (l : List ℕ). get_or l i 0) sizes_list ∙ get_or-append (capped lengths) (drop (length (capped lengths)) (replicate most_entries 0)) 0 i (omega (arith, capped_long lengths, long)) ∙ capped_at lengths i

  pub few_entries : L.count ≤ 64
  few_entries = omega (arith, E.1, I.many)

  pub sizes_long : length L.sizes ≡ 64
  sizes_long =
      let zeros : List ℕ = replicate most_entries 0 in
      let many : length zeros ≡ 64 = length-replicate {A = ℕ} 64 0 in
      omega (arith, ap length sizes_list, length-append (capped lengths) (drop (length (capped lengths)) zeros), length-drop (length (capped lengths)) zeros, many, capped_long lengths, long, E.1)

  pub stopped : Stopped L.count L.sizes
  stopped i h = omega (arith, size_at i (omega (arith, I.many)))

  pub base_small : L.base ≤ 20000
  unfolding size_of
  base_small = omega (arith, I.base_is, few_bits signs {n = width (most_in signs - 1)} refl)

  summed_is : (cells : List ℤ) → There (length I.held) cells → summed L.sizes cells ≡ total (capped (picks lengths cells))
  unfolding summed picks
  summed_is [] there = refl
  summed_is (cell ∷ cells) there =
      let T = there 0 cell refl in
      let is : natural cell ≡ T.0 = ap natural T.1 in
      omega (arith, size_at (natural cell) (omega (arith, is, T.2)), summed_is cells (λ p z s. there (suc p) z s))

  -- ---- a message

  module _ (limit : ℕ) (low : limit ≤ 2048) (cells : List ℤ) where
    by_length : is_in_order (length I.held) 0 cells ≡ true → not (is_empty cells) ≡ true → leb (length cells) (most_in signs) ≡ true
        → leb (octets_for (L.base + summed L.sizes cells)) limit ≡ leb (message_octets signs header (named I.held cells)) limit
    unfolding lengths is_empty
    by_length order some few =
        let there : There (length I.held) cells = λ p cell s. let r = ordered_there (length I.held) 0 cells order p cell s in (r.0, r.1, r.2) in
        let S = named_sized (type_of the_rows (item_row signs)) I.held lengths E.0.are cells there in
        let sum : L.base + summed L.sizes cells ≡ size_of 413 header + width (most_in signs - 1) + total (capped (picks lengths cells)) = omega (arith, I.base_is, summed_is cells there) in
        ap (λ (n : ℕ). leb (octets_for n) limit) sum
        ∙ within_limit signs header I.headed (named I.held cells) (picks lengths cells) S (omega (arith, named_long I.held cells, not_none cells some)) (omega (arith, named_long I.held cells, leb-true (length cells) (most_in signs) few)) limit low
      where
        not_none : (l : List ℤ) → not (is_empty l) ≡ true → 1 ≤ length l
        not_none [] e = absurd (let z : ◌≡◌ {A = ℕ} 0 1 = cc in omega arith)
        not_none (x ∷ xs) e = omega arith

    pub good_by_lem : good_by signs L.count L.sizes L.base limit cells ≡ good_message signs header I.held limit cells
    unfolding good_by good_message
    good_by_lem = rw I.many (go (not (is_empty cells)) refl (is_in_order (length I.held) 0 cells) refl (leb (length cells) (most_in signs)) refl)
      where
        go : (a : Bool) → not (is_empty cells) ≡ a → (b : Bool) → is_in_order (length I.held) 0 cells ≡ b → (c : Bool) → leb (length cells) (most_in signs) ≡ c
            → (a && b && c && leb (octets_for (L.base + summed L.sizes cells)) limit) ≡ (a && b && c && leb (message_octets signs header (named I.held cells)) limit)
        go true ea true eb true ec = by_length eb ea ec
        go true ea true eb false ec = refl
        go true ea false eb c ec = refl
        go false ea b eb c ec = refl
