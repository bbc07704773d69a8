-- What is measured of a header and of entries, by the form that they have.
-- Assumes nothing.
use Prim.Native.Nat.{ℕ, ◌+◌, ◌-◌, ◌<◌, ◌≤◌}
use native.Mathlib.Omega.{arith}
use mathlib.Core.Path.{◌≡◌, refl, sym, ap, ◌∙◌}
use mathlib.Core.Bool.{Bool, true, false, cond, not, ◌&&◌}
use mathlib.Core.List.{List, [], ◌∷◌}
use borrow.Author.Tests.{eqb-true, ltb-false, lt-ltb, le-ltb, le-leb, lt-leb}
use lib.Dec.{eqb, ltb}
use lib.IntN.{ℤ, pos, negsuc}
use lib.ListN.{length, get_or, replicate}
use Rattle.bits.specs.Numbers.{width}
use Rattle.types.specs.Table.{type_of, the_rows}
use Rattle.meaning.specs.Values.{Value, whole, sequence, chosen, items, beyond, extended, added, picked, kept}
use Rattle.meaning.specs.Steps.{Got}
use Rattle.meaning.specs.Steps.Got.{ok, refused}
use Rattle.meaning.specs.Writing.{write}
use Rattle.meaning.proofs.Bound.{write_inside}
use Rattle.sheet.specs.Values.{has, parts_of}
use Rattle.sheet.specs.Sole.{none, value, sole_by}
use Rattle.sheet.specs.Standing.{value_at}
use Rattle.answers.specs.Refusals.{refusal}
use Rattle.messages.specs.Message.{message_frame, message_of, sole_message, message_in, rsi_frame}
use Rattle.rules.specs.Components.{rtes, rtss}
use Rattle.rules.specs.Lists.{item_row}
use Rattle.packing.specs.Entries.{below, header_in, Pieces, pieces, no_pieces, most_entries, pieces_from, entries_of, most_in}
use Rattle.packing.specs.Sizes.{stop, size_of, unmeasured, lengths_by, lengths_of}
use Rattle.packing.specs.Steps.{SizeOf, Measured}
use Rattle.packing.proofs.Cells.{below_is, below_not}
use Rattle.packing.proofs.Held.{size_is}
use Rattle.packing.proofs.Tests.{apart}
use Rattle.answers.specs.declared.reasons.Reason.TheVariants as reason

-- ---- the header

-- what is written of a header
pub record Headed (cells : List ℤ) : Type 0 where
  pub rsi : Value
  pub bits : List ℕ
  pub written : write (type_of the_rows message_frame) cells 0 ≡ ok (chosen rsi_frame rsi) bits (length cells)
  pub no_events : has rtes (parts_of rsi) ≡ false
  pub no_signs : has rtss (parts_of rsi) ≡ false

neither : (a b c : Bool) → (a && not b && not c) ≡ true → (a ≡ true) × (b ≡ false) × (c ≡ false)
neither true false false e = (refl, refl, refl)
neither true false true e = apart e
neither true true c e = apart e
neither false b c e = apart e

pub headed : (cells : List ℤ) → header_in (message_in cells) ≡ true → Headed cells
unfolding header_in message_in sole_message message_of sole_by
headed cells e = go (value_at cells message_frame 0) refl e
  where
    of_value : (v : Value) (bits : List ℕ) → write (type_of the_rows message_frame) cells 0 ≡ ok v bits (length cells) → header_in (message_of v) ≡ true → Headed cells
    of_value (chosen kind v) bits w u =
        let N = neither (eqb kind rsi_frame) (has rtes (parts_of v)) (has rtss (parts_of v)) u in
        record { rsi = v; bits = bits; written = w ∙ ap (λ (k : ℕ). ok (chosen k v) bits (length cells)) (eqb-true kind rsi_frame N.0); no_events = N.1; no_signs = N.2 }
    of_value (whole n) bits w u = apart u
    of_value (sequence parts) bits w u = apart u
    of_value (items vs) bits w u = apart u
    of_value (beyond n) bits w u = apart u
    of_value (extended parts more) bits w u = apart u
    of_value (added n v) bits w u = apart u
    of_value (picked n v) bits w u = apart u
    of_value (kept vs) bits w u = apart u

    go : (g : Got ℕ Value) → value_at cells message_frame 0 ≡ g → header_in (sole_message (sole_by (length cells) g)) ≡ true → Headed cells
    go (refused why) eg u = apart u
    go (ok v bits next) eg u = by_end (ltb next (length cells)) refl u
      where
        by_end : (b : Bool) → ltb next (length cells) ≡ b → header_in (sole_message (cond b (none (refusal reason.NoValue next)) (value v))) ≡ true → Headed cells
        by_end true l h = apart h
        by_end false l h =
            let I = write_inside (type_of the_rows message_frame) cells 0 next v bits eg in
            let all : next ≡ length cells = omega (arith, I.within, ltb-false next (length cells) l) in
            of_value v bits (eg ∙ ap (ok v bits) all) h

-- ---- the entries

module _ (signs : Bool) (entries : List ℤ) where
  pub no_cells : length entries ≡ 0 → entries_of signs entries ≡ no_pieces
  unfolding entries_of
  no_cells e = go entries e
    where
      go : (l : List ℤ) → length l ≡ 0 → entries_of signs l ≡ no_pieces
      go [] z = refl
      go (x ∷ xs) z = absurd (omega arith)

  module _ (some : ¬ (length entries ≡ 0)) {n : ℕ} (en : n ≡ below (most_entries + 1) (get_or entries 0 (pos 0))) where
    pub too_many : most_entries < n → entries_of signs entries ≡ no_pieces
    unfolding entries_of
    too_many h = go entries (λ m is. below_not (most_entries + 1) (get_or entries 0 (pos 0)) en (omega arith) m is)
      where
        go : (l : List ℤ) → ((m : ℕ) → get_or l 0 (pos 0) ≡ pos m → most_entries + 1 ≤ m) → entries_of signs l ≡ no_pieces
        go [] far = refl
        go (negsuc m ∷ xs) far = refl
        go (pos m ∷ xs) far = rw (lt-leb m most_entries (omega (arith, far m refl))) refl

    pub few_enough : n ≤ most_entries → entries_of signs entries ≡ pieces_from (item_row signs) n entries 1
    unfolding entries_of
    few_enough h = go entries (below_is (most_entries + 1) (get_or entries 0 (pos 0)) en (omega arith)) some
      where
        go : (l : List ℤ) → get_or l 0 (pos 0) ≡ pos n → ¬ (length l ≡ 0) → entries_of signs l ≡ pieces_from (item_row signs) n l 1
        go [] is isnt = absurd (isnt refl)
        go (x ∷ xs) is isnt = ap (λ (z : ℤ). entries_of signs (z ∷ xs)) is ∙ rw (le-leb n most_entries h) refl ∙ sym (ap (λ (z : ℤ). pieces_from (item_row signs) n (z ∷ xs) 1) is)

-- ---- both

module _ (kind : ℕ) (header entries : List ℤ) where
  pub other_kind : 1 < kind → unmeasured ≡ lengths_of kind header entries
  unfolding lengths_of
  other_kind h = rw (le-ltb kind 2 (omega arith)) refl

  pub no_header : kind ≤ 1 → header_in (message_in header) ≡ false → unmeasured ≡ lengths_of kind header entries
  unfolding lengths_of
  no_header h e = rw (lt-ltb kind 2 (omega arith), e) refl

  module _ (known : kind ≤ 1) (is : header_in (message_in header) ≡ true) where
    pub by_entries : lengths_of kind header entries ≡ lengths_by (eqb kind 1) header (entries_of (eqb kind 1) entries)
    unfolding lengths_of
    by_entries = rw (lt-ltb kind 2 (omega arith), is) refl

    pub no_entries : entries_of (eqb kind 1) entries ≡ no_pieces → unmeasured ≡ lengths_of kind header entries
    unfolding lengths_by
    no_entries e = sym (by_entries ∙ ap (lengths_by (eqb kind 1) header) e)

    module _ (count : ℕ) (are : entries_of (eqb kind 1) entries ≡ pieces_from (item_row (eqb kind 1)) count entries 1) (after : List ℕ) (r : Bool)
        (M : Measured (eqb kind 1) (pieces_from (item_row (eqb kind 1)) count entries 1) count (replicate most_entries 0) after r) where
      pub not_measured : r ≡ false → unmeasured ≡ lengths_of kind header entries
      not_measured z = no_entries (are ∙ go (pieces_from (item_row (eqb kind 1)) count entries 1) M)
        where
          go : (p : Pieces) → Measured (eqb kind 1) p count (replicate most_entries 0) after r → p ≡ no_pieces
          go (pieces held) N = absurd (let both : ◌≡◌ true false = sym N.0 ∙ z in let y : ◌≡◌ {A = ℕ} 0 1 = cc in omega arith)
          go no_pieces N = refl

      pub all_measured : r ≡ true → {size bits : ℕ} → SizeOf message_frame header size → bits ≡ width (most_in (eqb kind 1) - 1)
          → record { formed = true; count = count; base = size + bits; sizes = after } ≡ lengths_of kind header entries
      unfolding lengths_by
      all_measured z {size} {bits} sized eb = sym (by_entries ∙ ap (lengths_by (eqb kind 1) header) are ∙ go (pieces_from (item_row (eqb kind 1)) count entries 1) M)
        where
          H : Headed header
          H = headed header is

          size_of_header : size_of message_frame header ≡ size
          size_of_header = size_is message_frame header H.written ∙ sym (sized (chosen rsi_frame H.rsi) H.bits H.written)

          go : (p : Pieces) → Measured (eqb kind 1) p count (replicate most_entries 0) after r → lengths_by (eqb kind 1) header p ≡ record { formed = true; count = count; base = size + bits; sizes = after }
          go (pieces held) N = rw (N.1, N.2, size_of_header, eb) refl
          go no_pieces N = absurd (let both : ◌≡◌ false true = sym N ∙ z in let y : ◌≡◌ {A = ℕ} 0 1 = cc in omega arith)

    -- the size of a header stops
    pub header_small : {size : ℕ} → SizeOf message_frame header size → size ≤ stop
    header_small sized = let H = headed header is in omega (arith, sized (chosen rsi_frame H.rsi) H.bits H.written)
