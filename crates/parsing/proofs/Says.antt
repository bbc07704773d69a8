-- What a text gives as a sheet says what document 01 says of it, for every text and every room: by its lines.
-- Assumes nothing.
use Prim.Native.Nat.{ℕ}
use mathlib.Core.Bool.{Bool, true, false, cond}
use mathlib.Core.List.{List, [], ◌∷◌}
use mathlib.Core.Path.{◌≡◌, refl, ap, ◌∙◌}
use lib.Dec.{leb}
use lib.IntN.{pos}
use lib.ListN.{length}
use Rattle.std.specs.Prelude.{Ok, Err}
use Rattle.answers.specs.Said as said
use Rattle.parsing.specs.Lines.{lines}
use Rattle.parsing.specs.Numbers.{Whole, whole_of, edition_of}
use Rattle.parsing.specs.Sheets.{Parsed, cells_at, Cells, cells, wrong, no_number, out_of_range, cells_of, answer_for, placed, typed, typed_lines, edited, parsed_lines, parsed, label}
use Rattle.parsing.specs.declared.Label.{Label}
use Rattle.parsing.specs.Says.{sheet_of, numbered, parsed_says, cells_answer, type_answer, rest_answer, edition_answer, lines_answer, parse_answer}
use Rattle.parsing.specs.declared.NumberError.TheVariants as kind
use Rattle.parsing.specs.declared.ParseError.TheVariants.{NoRoom}

cells_say : (of : Label) (room : ℕ) (rest : Cells) → parsed_says (placed of room rest) ≡ cells_answer of room rest
unfolding placed answer_for parsed_says cells_answer
cells_say of room (cells zs) = by (leb (length zs) room)
  where
    by : (b : Bool) → parsed_says (cond b (Ok (of, length zs)) (Err (NoRoom (length zs)))) ≡ cond b (sheet_of of (said.done (pos 0) 0 (length zs))) (numbered (said.no_room (length zs)))
    by true = refl
    by false = refl
cells_say of room (wrong no_number line) = refl
cells_say of room (wrong out_of_range line) = refl

type_says : (edition : ℕ) (type : Whole) (room : ℕ) (rest : Cells) → parsed_says (typed edition type room rest) ≡ type_answer edition type room rest
unfolding typed parsed_says type_answer
type_says edition (Ok number) room rest = cells_say (label edition number) room rest
type_says edition (Err kind.NoNumber) room rest = refl
type_says edition (Err kind.OutOfRange) room rest = refl

rest_says : (edition : ℕ) (ls : List (List ℕ)) (room : ℕ) → parsed_says (typed_lines edition ls room) ≡ rest_answer edition ls room
unfolding typed_lines parsed_says rest_answer
rest_says edition [] room = refl
rest_says edition (l ∷ ls) room = type_says edition (whole_of l) room (cells_of cells_at ls)

edition_says : (edition : Whole) (ls : List (List ℕ)) (room : ℕ) → parsed_says (edited edition ls room) ≡ edition_answer edition ls room
unfolding edited parsed_says edition_answer
edition_says (Ok edition) ls room = rest_says edition ls room
edition_says (Err kind.NoNumber) ls room = refl
edition_says (Err kind.OutOfRange) ls room = refl

lines_say : (ls : List (List ℕ)) (room : ℕ) → parsed_says (parsed_lines ls room) ≡ lines_answer ls room
unfolding parsed_lines parsed_says lines_answer
lines_say [] room = refl
lines_say (l ∷ ls) room = edition_says (edition_of l) ls room

-- an answer that is the definition's says what document 01 says
pub parse_says : {r : Parsed} (text : List ℕ) (room : ℕ) → r ≡ parsed text room → parsed_says r ≡ parse_answer text room
parse_says text room e = ap parsed_says e ∙ lines_say (lines text) room
