-- Texts at the edges of the format, computed.
-- Assumes nothing.
use mathlib.Core.List.{[], ◌∷◌}
use mathlib.Core.Path.{◌≡◌, refl}
use lib.IntN.{pos, negsuc}
use Rattle.std.specs.Prelude.{Ok, Err}
use Rattle.printing.specs.Digits.{value_from}
use Rattle.printing.specs.Texts.{ascii}
use Rattle.parsing.specs.Lines.{begun, lines}
use Rattle.parsing.specs.Numbers.{all_digits, some_digits, is_number, number_of, cell_of, unsigned, whole_of, begins, edition_of}
use Rattle.parsing.specs.Sheets.{answer_for, before, cell_then, cells_of, placed, label, typed, typed_lines, edited, parsed_lines, parsed, listed, behind_first, after_parsing, cells_after}
use Rattle.parsing.specs.declared.ParseError.TheVariants.{NoEdition, NoNumber, OutOfRange, NoRoom}

pub record Examples : Type 0 where
  pub description : parsed (ascii "edition 1\n1\n0\n1\n65\n") 3 ≡ Ok ((label 1 1), 3)
  pub its_cells : cells_after (ascii "edition 1\n1\n0\n1\n65\n") (pos 7 ∷ pos 7 ∷ pos 7 ∷ pos 7 ∷ []) ≡ pos 0 ∷ pos 1 ∷ pos 65 ∷ pos 7 ∷ []
  pub no_last_end : parsed (ascii "edition 1\n1\n0\n1\n65") 3 ≡ Ok ((label 1 1), 3)
  pub too_few_lent : parsed (ascii "edition 1\n1\n0\n1\n65\n") 2 ≡ Err (NoRoom 3)
  pub wrong_before_room : parsed (ascii "edition 1\n1\n0\nx\n65\n") 0 ≡ Err (NoNumber 4)
  pub nothing : parsed [] 3 ≡ Err NoEdition
  pub no_edition : parsed (ascii "1\n0\n1\n65\n") 3 ≡ Err NoEdition
  pub another_word : parsed (ascii "editions 1\n1\n") 3 ≡ Err NoEdition
  pub no_type : parsed (ascii "edition 1\n") 3 ≡ Err (NoNumber 2)
  pub second_edition : parsed (ascii "edition 2\n1\n") 3 ≡ Ok ((label 2 1), 0)
  pub above_highest_edition : parsed (ascii "edition 18446744073709551616\n1\n") 3 ≡ Err (OutOfRange 1)
  pub no_cells : parsed (ascii "edition 1\n0") 0 ≡ Ok ((label 1 0), 0)
  pub empty_line : parsed (ascii "edition 1\n1\n\n") 3 ≡ Err (NoNumber 3)
  pub sign_alone : parsed (ascii "edition 1\n1\n-\n") 3 ≡ Err (NoNumber 3)
  pub plus_sign : parsed (ascii "edition 1\n1\n+5\n") 3 ≡ Err (NoNumber 3)
  pub blank : parsed (ascii "edition 1\n1\n5 \n") 3 ≡ Err (NoNumber 3)
  pub carriage_return : parsed (ascii "edition 1\n1\r\n") 3 ≡ Err (NoNumber 2)
  pub zeros : parsed (ascii "edition 1\n-0\n-007\n") 3 ≡ Ok ((label 1 0), 1)
  pub zeros_cells : cells_after (ascii "edition 1\n-0\n-007\n") (pos 1 ∷ []) ≡ negsuc 6 ∷ []
  pub lowest : cells_after (ascii "edition 1\n0\n-9223372036854775808\n") (pos 1 ∷ []) ≡ negsuc 9223372036854775807 ∷ []
  pub below_lowest : parsed (ascii "edition 1\n0\n-9223372036854775809\n") 3 ≡ Err (OutOfRange 3)
  pub highest : cells_after (ascii "edition 1\n0\n9223372036854775807\n") (pos 1 ∷ []) ≡ pos 9223372036854775807 ∷ []
  pub above_highest : parsed (ascii "edition 1\n0\n9223372036854775808\n") 3 ≡ Err (OutOfRange 3)
  pub highest_type : parsed (ascii "edition 1\n18446744073709551615\n") 3 ≡ Ok ((label 1 18446744073709551615), 0)
  pub above_highest_type : parsed (ascii "edition 1\n18446744073709551616\n") 3 ≡ Err (OutOfRange 2)
  pub type_below_zero : parsed (ascii "edition 1\n-1\n") 3 ≡ Err (OutOfRange 2)

pub examples : Examples
unfolding value_from ascii begun lines all_digits some_digits is_number number_of cell_of unsigned whole_of begins edition_of answer_for before cell_then cells_of placed typed typed_lines edited parsed_lines listed behind_first after_parsing
examples = record { description = refl; its_cells = refl; no_last_end = refl; too_few_lent = refl; wrong_before_room = refl; nothing = refl; no_edition = refl; another_word = refl; no_type = refl; second_edition = refl; above_highest_edition = refl; no_cells = refl; empty_line = refl; sign_alone = refl; plus_sign = refl; blank = refl; carriage_return = refl; zeros = refl; zeros_cells = refl; lowest = refl; below_lowest = refl; highest = refl; above_highest = refl; highest_type = refl; above_highest_type = refl; type_below_zero = refl }
