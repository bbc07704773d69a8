-- A message is within a limit where the sum of what was measured of its parts is: no message has to be written to learn its length.
-- Assumes nothing.
use Prim.Native.Nat.{ℕ, ◌+◌, ◌-◌, ◌<◌, ◌≤◌, min}
use native.Mathlib.Omega.{arith}
use native.Mathlib.Decide.{dec_le}
use mathlib.Core.Path.{◌≡◌, refl, sym, ap, ◌∙◌}
use mathlib.Core.Bool.{Bool, true, false}
use mathlib.Core.List.{List}
use borrow.Author.Tests.{le-leb, lt-leb}
use lib.Dec.{leb}
use lib.IntN.{ℤ}
use lib.ListN.{length}
use Rattle.bits.specs.Bytes.{octets_for}
use Rattle.bits.specs.Numbers.{width}
use Rattle.types.specs.Table.{type_of, the_rows}
use Rattle.messages.specs.Message.{message_frame, message_in}
use Rattle.rules.specs.Lists.{item_row}
use Rattle.packing.specs.Entries.{header_in, most_in}
use Rattle.packing.specs.Message.{message_octets}
use Rattle.packing.specs.Sizes.{stop, size_of}
use Rattle.packing.specs.Steps.{Sized}
use Rattle.packing.proofs.Capped.{capped, fits_so, so_fits}
use Rattle.packing.proofs.Header.{header_apart}
use Rattle.packing.proofs.Held.{size_is}
use Rattle.packing.proofs.Input.{headed}
use Rattle.packing.proofs.Length.{others, Written, message_written, message_length}
use Rattle.packing.proofs.Pieces.{total}

-- two tests that agree
same_test : (a b limit : ℕ) → (a ≤ limit → b ≤ limit) → (b ≤ limit → a ≤ limit) → leb a limit ≡ leb b limit
same_test a b limit to from = go (dec_le a limit)
  where
    go : Dec (a ≤ limit) → leb a limit ≡ leb b limit
    go (yes l) = le-leb a limit l ∙ sym (le-leb b limit (to l))
    go (no l) = lt-leb a limit (omega arith) ∙ sym (lt-leb b limit (beyond (dec_le b limit)))
      where
        beyond : Dec (b ≤ limit) → limit < b
        beyond (yes h) = absurd (l (from h))
        beyond (no h) = omega arith

others_are : (signs : Bool) → most_in signs - 1 ≡ others signs
others_are false = refl
others_are true = refl

module _ (signs : Bool) (header : List ℤ) (is : header_in (message_in header) ≡ true) (pieces : List (List ℤ)) (lengths : List ℕ) (S : Sized (type_of the_rows (item_row signs)) pieces lengths) where
  pub within_limit : 1 ≤ length pieces → length pieces ≤ most_in signs → (limit : ℕ) → limit ≤ 2048
      → leb (octets_for (size_of message_frame header + width (most_in signs - 1) + total (capped lengths))) limit ≡ leb (message_octets signs header pieces) limit
  within_limit some few limit low =
      let H = headed header is in
      let one_more : length pieces ≡ 1 + (length pieces - 1) = omega arith in
      let small : length pieces - 1 ≤ others signs = omega (arith, others_are signs) in
      let whole = message_length signs header (header_apart header H.written H.no_events H.no_signs) pieces lengths S (length pieces - 1) one_more small in
      let base = length H.bits in
      let more = width (others signs) in
      let measured : size_of message_frame header + width (most_in signs - 1) + total (capped lengths) ≡ min base stop + (more + total (capped lengths)) =
      omega (arith, size_is message_frame header H.written, ap width (others_are signs)) in
      ap (λ (n : ℕ). leb (octets_for n) limit) measured
      ∙ same_test (octets_for (min base stop + (more + total (capped lengths)))) (octets_for (base + (more + total lengths))) limit (fits_so base more lengths limit low) (so_fits base more lengths limit low)
      ∙ ap (λ (n : ℕ). leb n limit) (sym whole)

  -- it can be written
  pub writes : 1 ≤ length pieces → length pieces ≤ most_in signs → Written signs header pieces
  writes some few =
      let H = headed header is in
      let one_more : length pieces ≡ 1 + (length pieces - 1) = omega arith in
      let small : length pieces - 1 ≤ others signs = omega (arith, others_are signs) in
      message_written signs header (header_apart header H.written H.no_events H.no_signs) pieces lengths S (length pieces - 1) one_more small
