-- What the reading program prints for a message leads back to it by the writing program, with the type number in place of the second line.
-- Assumes nothing.
use Prim.Native.Nat.{ℕ, suc, ◌+◌, ◌*◌, ◌<◌, ◌≤◌, ◌^◌}
use mathlib.Core.List.{List, [], ◌∷◌, ◌++◌, append_assoc}
use mathlib.Core.Path.{◌≡◌, refl, sym, ap, ap₂, subst, ◌∙◌}
use native.Mathlib.Omega.{arith}
use borrow.Author.Tests.{ne_eqb}
use lib.IntN.{ℤ, pos}
use lib.ListN.{length, take, drop, replicate, length-append, length-replicate}
use lib.Seq.{take-append_seam, drop_at}
use Rattle.types.specs.Named.{first_edition}
use Rattle.types.proofs.NamedTypes.{named_number}
use Rattle.meaning.specs.Messages.{Encodes}
use Rattle.meaning.proofs.DemandTwo.{write_makes, write_fills}
use Rattle.meaning.proofs.Small.{Small, encoded_small}
use Rattle.printing.specs.Characters.{line_end}
use Rattle.printing.specs.Digits.{digits, decimal}
use Rattle.printing.specs.Texts.{ascii, each, cell_line, cell_lines, edition_line, hexadecimal, written_text}
use Rattle.printing.proofs.Digits.{decimal_digits}
use Rattle.printing.proofs.Lengths.{decimal_short, line_short}
use Rattle.parsing.specs.Lines.{line_length}
use Rattle.parsing.specs.Numbers.{edition_word}
use Rattle.parsing.specs.Sheets as sheets
use Rattle.parsing.proofs.RoundTrip.{OneLine, one_line, one_both, words_line, word_line, sheet_back}
use Rattle.programs.specs.Inputs.{read_cells, program_text}
use Rattle.programs_writing.specs.Sheets.{written_bytes, written_cells, most_text, message_of, parsed_text, write_text}
use Rattle.programs_writing.proofs.Sheets.{short_text}
use Rattle.programs_theorems.proofs.Theorems.{accepted, encoding_text}

-- a text without its first line
abbrev pub behind_line : List ℕ → List ℕ
behind_line text = drop (suc (line_length text)) text

-- a text with another second line
abbrev pub second_line : List ℕ → List ℕ → List ℕ
second_line line text = take (suc (line_length text)) text ++ line ++ ascii "\n" ++ behind_line (behind_line text)

-- ---- the lines of a text

module _ (line text : List ℕ) (one : OneLine line) where
  ends : (l : List ℕ) → OneLine l → suc (line_length (l ++ ascii "\n" ++ text)) ≡ length (l ++ ascii "\n")
  unfolding line_length ascii
  ends [] h = refl
  ends (b ∷ l) h = rw (ne_eqb b line_end h.0) (ap suc (ends l h.1))

  the_line : take (suc (line_length (line ++ ascii "\n" ++ text))) (line ++ ascii "\n" ++ text) ≡ line ++ ascii "\n"
  the_line = rw (ends line one) (take-append_seam (line ++ ascii "\n") text)

  the_rest : behind_line (line ++ ascii "\n" ++ text) ≡ text
  the_rest = drop_at (line ++ ascii "\n") text (suc (line_length (line ++ ascii "\n" ++ text))) (sym (ends line one))

module _ (first second line rest : List ℕ) (one : OneLine first) (two : OneLine second) where
  swapped : second_line line (first ++ ascii "\n" ++ (second ++ ascii "\n" ++ rest)) ≡ first ++ ascii "\n" ++ line ++ ascii "\n" ++ rest
  swapped =
      ap₂ (λ (front behind : List ℕ). front ++ line ++ ascii "\n" ++ behind)
      (the_line first (second ++ ascii "\n" ++ rest) one)
      (ap behind_line (the_rest first (second ++ ascii "\n" ++ rest) one) ∙ the_rest second rest two)

-- ---- what the reading program prints

module _ (bits number : ℕ) (cells : List ℤ) where
  abbrev edition : List ℕ
  edition = edition_word ++ decimal first_edition

  abbrev counts : List ℕ
  counts = ascii "accepted " ++ decimal bits ++ ascii " bits " ++ decimal (length cells) ++ ascii " cells"

  counts_line : OneLine counts
  unfolding ascii
  counts_line =
      one_both (ascii "accepted " ++ decimal bits ++ ascii " bits " ++ decimal (length cells)) (ascii " cells")
      (one_both (ascii "accepted " ++ decimal bits ++ ascii " bits ") (decimal (length cells))
      (one_both (ascii "accepted " ++ decimal bits) (ascii " bits ")
      (one_both (ascii "accepted ") (decimal bits) (words_line (ascii "accepted ") tt) (one_line (decimal bits) (decimal_digits bits)))
      (words_line (ascii " bits ") tt))
      (one_line (decimal (length cells)) (decimal_digits (length cells))))
      (words_line (ascii " cells") tt)

  in_lines : accepted bits cells ≡ edition ++ ascii "\n" ++ (counts ++ ascii "\n" ++ cell_lines cells)
  unfolding ascii digits
  in_lines = simp append_assoc refl

  as_sheet : second_line (decimal number) (accepted bits cells) ≡ sheets.sheet_text first_edition number cells
  as_sheet = ap (second_line (decimal number)) in_lines ∙ swapped edition counts (decimal number) (cell_lines cells) (word_line first_edition) counts_line

-- ---- what the writing program takes

lines_length : (zs : List ℤ) → Small zs → length (cell_lines zs) ≤ 21 * length zs
unfolding each
lines_length [] h = omega arith
lines_length (z ∷ zs) h = omega (arith, length-append (cell_line z) (cell_lines zs), line_short z h.0, lines_length zs h.1)

module _ (number : ℕ) (cells : List ℤ) (few : number < 2 ^ 64) (small : Small cells) (room : length cells ≤ written_cells) where
  text_length : length (sheets.sheet_text first_edition number cells) ≤ most_text
  unfolding ascii
  text_length =
      omega (
        arith,
        length-append (edition_line first_edition ++ decimal number ++ ascii "\n") (cell_lines cells),
        length-append (edition_line first_edition ++ decimal number) (ascii "\n"),
        length-append (edition_line first_edition) (decimal number),
        length-append (ascii "edition " ++ decimal first_edition) (ascii "\n"),
        length-append (ascii "edition ") (decimal first_edition),
        decimal_short first_edition (omega arith),
        decimal_short number few,
        lines_length cells small,
      )

  sheet_written : write_text (sheets.sheet_text first_edition number cells) ≡ message_of first_edition number cells (replicate written_bytes 0)
  unfolding parsed_text
  sheet_written =
      let lent : List ℤ = replicate written_cells (pos 0) in
      let back = sheet_back first_edition number cells lent (omega arith) few small (omega (arith, length-replicate written_cells (pos 0))) in
      short_text (sheets.sheet_text first_edition number cells) text_length
      ∙ ap₂ (λ (p : sheets.Parsed) (zs : List ℤ). parsed_text p zs (replicate written_bytes 0)) back.0 back.1
      ∙ ap (λ (zs : List ℤ). message_of first_edition number zs (replicate written_bytes 0)) (take-append_seam cells (drop (length cells) lent))

-- ---- both

module _ (high low : ℕ) {edition : ℕ} {cells : List ℤ} {bytes : List ℕ} (E : Encodes edition (high * 256 + low) cells bytes) where
  first : Encodes first_edition (high * 256 + low) cells bytes
  first = subst (λ (e : ℕ). Encodes e (high * 256 + low) cells bytes) E.known E

  message_printed : message_of first_edition (high * 256 + low) cells (replicate written_bytes 0) ≡ hexadecimal bytes ++ ascii "\n"
  unfolding written_text
  message_printed =
      let lent : List ℕ = replicate written_bytes 0 in
      let room : length bytes ≤ length lent = omega (arith, E.few, length-replicate {A = ℕ} written_bytes 0) in
      ap₂ written_text (write_makes first lent room) (write_fills first lent room)
      ∙ ap (λ (bs : List ℕ). hexadecimal bs ++ ascii "\n") (take-append_seam bytes (drop (length bytes) lent))

  -- of a message that the reading program prints, the writing program prints the bytes
  pub leads_back : length cells ≤ read_cells → write_text (second_line (decimal (high * 256 + low)) (program_text (high ∷ low ∷ bytes))) ≡ hexadecimal bytes ++ ascii "\n"
  leads_back h =
      let number = high * 256 + low in
      let few : number < 2 ^ 64 = omega (arith, named_number number E.row E.named) in
      ap (λ (text : List ℕ). write_text (second_line (decimal number) text)) (encoding_text edition high low cells bytes E h)
      ∙ ap write_text (as_sheet (length E.bits) number cells)
      ∙ sheet_written number cells few (encoded_small E) (omega arith)
      ∙ message_printed
