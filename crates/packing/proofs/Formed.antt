-- An input of its form and one that is not, by what was measured of it.
-- Assumes nothing.
use Prim.Native.Nat.{ℕ, ◌+◌, ◌-◌, ◌<◌}
use native.Mathlib.Omega.{arith}
use mathlib.Core.Path.{◌≡◌, refl, sym, ap, ◌∙◌}
use mathlib.Core.Bool.{Bool, true, false, cond, ◌&&◌}
use mathlib.Core.List.{List}
use borrow.Author.Tests.{ltb-true, lt-ltb}
use lib.Dec.{eqb, ltb}
use lib.IntN.{ℤ}
use lib.ListN.{length, replicate}
use Rattle.basics.specs.Lists.{filled}
use Rattle.bits.specs.Numbers.{width}
use Rattle.messages.specs.Message.{message_frame, message_in}
use Rattle.rules.specs.Lists.{item_row}
use Rattle.packing.specs.Entries.{header_in, Pieces, pieces, no_pieces, most_entries, entries_of, most_in}
use Rattle.packing.specs.Sizes.{size_of, sizes_of, unmeasured, lengths_by, lengths_of}
use Rattle.packing.specs.Lengths.{Lengths}

module _ (kind : ℕ) (header entries : List ℤ) where
  -- ---- an input of its form

  pub record Input (L : Lengths) : Type 0 where
    pub known : kind < 2
    pub headed : header_in (message_in header) ≡ true
    pub held : List (List ℤ)
    pub listed : entries_of (eqb kind 1) entries ≡ pieces held
    pub many : L.count ≡ length held
    pub base_is : L.base ≡ size_of message_frame header + width (most_in (eqb kind 1) - 1)
    pub sizes_are : L.sizes ≡ filled (sizes_of (item_row (eqb kind 1)) held) (replicate most_entries 0)

  -- what goes by the form of an input goes by its entries then
  pub by_held : {L : Lengths} (I : Input L) {X : Type 0} (f : Pieces → X) (x : X) → cond (ltb kind 2 && header_in (message_in header)) (f (entries_of (eqb kind 1) entries)) x ≡ f (pieces I.held)
  by_held I f x = rw (lt-ltb kind 2 I.known, I.headed) (ap f I.listed)

  module _ {L : Lengths} (e : L ≡ lengths_of kind header entries) where
    by_test : L.formed ≡ (cond (ltb kind 2 && header_in (message_in header)) (lengths_by (eqb kind 1) header (entries_of (eqb kind 1) entries)) unmeasured).formed
    unfolding lengths_of
    by_test = ap (λ (x : Lengths). x.formed) e

    other : {P : Type 0} → ◌≡◌ false true → P
    other z = absurd (let y : ◌≡◌ {A = ℕ} 0 1 = cc in omega arith)

    pub input : L.formed ≡ true → Input L
    unfolding lengths_of lengths_by
    input t = go (ltb kind 2) refl (header_in (message_in header)) refl (entries_of (eqb kind 1) entries) refl e t
      where
        go : (a : Bool) → ltb kind 2 ≡ a → (b : Bool) → header_in (message_in header) ≡ b → (p : Pieces) → entries_of (eqb kind 1) entries ≡ p
            → L ≡ cond (a && b) (lengths_by (eqb kind 1) header p) unmeasured → L.formed ≡ true → Input L
        go true ea true eb (pieces held) ep u v =
            record {
              known = ltb-true kind 2 ea;
              headed = eb;
              held = held;
              listed = ep;
              many = ap (λ (x : Lengths). x.count) u;
              base_is = ap (λ (x : Lengths). x.base) u;
              sizes_are = ap (λ (x : Lengths). x.sizes) u;
            }
        go true ea true eb no_pieces ep u v = other (sym (ap (λ (x : Lengths). x.formed) u) ∙ v)
        go true ea false eb p ep u v = other (sym (ap (λ (x : Lengths). x.formed) u) ∙ v)
        go false ea b eb p ep u v = other (sym (ap (λ (x : Lengths). x.formed) u) ∙ v)

    -- ---- one that is not: what goes by its form is what it is where there are no entries
    pub no_input : L.formed ≡ false → {X : Type 0} (f : Pieces → X) (x : X) → f no_pieces ≡ x → cond (ltb kind 2 && header_in (message_in header)) (f (entries_of (eqb kind 1) entries)) x ≡ x
    unfolding lengths_by
    no_input t f x none = go (ltb kind 2 && header_in (message_in header)) (entries_of (eqb kind 1) entries) (sym by_test ∙ t)
      where
        go : (b : Bool) (p : Pieces) → (cond b (lengths_by (eqb kind 1) header p) unmeasured).formed ≡ false → cond b (f p) x ≡ x
        go true (pieces held) u = other (sym u)
        go true no_pieces u = none
        go false p u = refl
