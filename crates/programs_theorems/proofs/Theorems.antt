-- What the reading program prints: the cells of a value for its encoding; it does not depend on what the lent sheet held; and of a long input the first 2,051 bytes are enough.
-- Assumes nothing.
use Prim.Native.Nat.{ℕ, ◌+◌, ◌*◌, ◌<◌, ◌≤◌}
use mathlib.Core.Bool.{Bool, true, false, cond}
use mathlib.Core.List.{List, [], ◌∷◌, ◌++◌}
use mathlib.Core.Path.{◌≡◌, refl, sym, ap, ap₂, ◌∙◌}
use native.Mathlib.Decide.{dec_lt}
use native.Mathlib.Omega.{arith}
use borrow.Author.Tests.{lt-ltb}
use lib.Dec.{ltb, leb}
use lib.IntN.{ℤ, pos}
use lib.ListN.{length, take, drop, replicate, length-drop, length-replicate}
use lib.Seq.{take-append_seam, get_or-take, length-take-le}
use Rattle.answers.specs.declared.Refusal.{Refusal}
use Rattle.answers.specs.Refusals.{too_long, unknown_type, spare_bits}
use Rattle.bits.specs.Limits.{most_bytes}
use Rattle.bits.specs.Bytes.{bits_of}
use Rattle.types.specs.Table.{type_of, the_rows}
use Rattle.types.specs.Named.{first_edition, named_row}
use Rattle.std.specs.Prelude.{Option, Some, None}
use Rattle.meaning.specs.Values.{Value}
use Rattle.meaning.specs.Steps.{Got, out_of}
use Rattle.meaning.specs.Steps.Got.{ok, refused}
use Rattle.meaning.specs.Reading.{read}
use Rattle.answers.specs.Answers.{done, refused_by, no_room, lent_after}
use Rattle.meaning.specs.Messages.{is_padding, read_answer, read_typed, cells_read, read_typed_sheet, Encodes}
use Rattle.basics.specs.Lists.{filled}
use Rattle.answers.specs.declared.Answer.{Answer}
use Rattle.meaning.proofs.DemandTwo.{read_accepts, read_lists}
use Rattle.printing.specs.Digits.{decimal}
use Rattle.printing.specs.Texts.{ascii, edition_line, cell_lines, read_text}
use Rattle.records.specs.Records.{two_bytes}
use Rattle.programs.specs.Inputs.{read_cells, input_text, program_text}
use Rattle.programs.proofs.Inputs as inputs

-- ---- the cells that are printed are those that were read

filled_cells : (cells sheet : List ℤ) → take (length cells) (filled cells sheet) ≡ cells
filled_cells cells sheet = take-append_seam cells (drop (length cells) sheet)

-- what is printed where a message of so many bits with these cells was read
abbrev pub accepted : ℕ → List ℤ → List ℕ
accepted bits cells = edition_line first_edition ++ ascii "accepted " ++ decimal bits ++ ascii " bits " ++ decimal (length cells) ++ ascii " cells\n" ++ cell_lines cells

accepted_text : (bits : ℕ) (cells sheet : List ℤ) → read_text first_edition (done bits (length cells)) (filled cells sheet) ≡ accepted bits cells
unfolding read_text
accepted_text bits cells sheet = rw (filled_cells cells sheet)

-- for the encoding of a value: its cells, with the counts of its bits and cells
pub encoding_text : (edition high low : ℕ) (cells : List ℤ) (bytes : List ℕ) → (E : Encodes edition (high * 256 + low) cells bytes) → length cells ≤ read_cells
    → program_text (high ∷ low ∷ bytes) ≡ accepted (length E.bits) cells
encoding_text edition high low cells bytes E h =
    let sheet = replicate read_cells (pos 0) in
    let room : length cells ≤ length sheet = omega (arith, length-replicate read_cells (pos 0)) in
    inputs.typed (high ∷ low ∷ bytes) sheet (omega arith) ∙ ap₂ (read_text first_edition) (read_accepts E sheet room) (read_lists E sheet room) ∙ accepted_text (length E.bits) cells sheet

-- ---- what the sheet held before does not count

-- the text of what was read, where so many cells are lent
unfoldable shown : List ℕ → ℕ → Got ℤ Value → List ℕ
shown bs room (ok told cells next) =
    cond (is_padding (drop next bs)) (cond (leb (length cells) room) (accepted next cells) (read_text first_edition (no_room (length cells)) [])) (read_text first_edition (refused_by (spare_bits next)) [])
shown bs room (refused why) = read_text first_edition (refused_by why) []

unfoldable shown_typed : Option ℕ → List ℕ → ℕ → List ℕ
shown_typed None bytes room = read_text first_edition (refused_by unknown_type) []
shown_typed (Some row) bytes room =
    cond (ltb most_bytes (length bytes)) (read_text first_edition (refused_by too_long) []) (shown (bits_of bytes) room (read (type_of the_rows row) (bits_of bytes) 0))

-- a refusal prints no cell
refused_text : (why : Refusal) (sheet : List ℤ) → read_text first_edition (refused_by why) sheet ≡ read_text first_edition (refused_by why) []
unfolding read_text
refused_text why sheet = refl

no_room_text : (needed : ℕ) (sheet : List ℤ) → read_text first_edition (no_room needed) sheet ≡ read_text first_edition (no_room needed) []
unfolding read_text
no_room_text needed sheet = refl

is_shown : (bs : List ℕ) (sheet : List ℤ) (g : Got ℤ Value) → read_text first_edition (read_answer bs (length sheet) g) (lent_after (read_answer bs (length sheet) g) (out_of g) sheet) ≡ shown bs (length sheet) g
unfolding read_answer lent_after out_of shown
is_shown bs sheet (ok told cells next) = go (is_padding (drop next bs)) (leb (length cells) (length sheet))
  where
    answer : Bool → Bool → Answer
    answer p r = cond p (cond r (done next (length cells)) (no_room (length cells))) (refused_by (spare_bits next))

    go : (p r : Bool)
        → read_text first_edition (answer p r) (lent_after (answer p r) cells sheet)
        ≡ cond p (cond r (accepted next cells) (read_text first_edition (no_room (length cells)) [])) (read_text first_edition (refused_by (spare_bits next)) [])
    go true true = accepted_text next cells sheet
    go true false = no_room_text (length cells) sheet
    go false true = refused_text (spare_bits next) sheet
    go false false = refused_text (spare_bits next) sheet
is_shown bs sheet (refused why) = refused_text why (lent_after (refused_by why) [] sheet)

is_shown_typed : (n : Option ℕ) (bytes : List ℕ) (sheet : List ℤ) → read_text first_edition (read_typed n bytes (length sheet)) (read_typed_sheet n bytes sheet) ≡ shown_typed n bytes (length sheet)
unfolding read_typed cells_read lent_after shown_typed
is_shown_typed None bytes sheet = refused_text unknown_type sheet
is_shown_typed (Some row) bytes sheet = go (ltb most_bytes (length bytes))
  where
    got : Got ℤ Value
    got = read (type_of the_rows row) (bits_of bytes) 0

    answer : Bool → Answer
    answer b = cond b (refused_by too_long) (read_answer (bits_of bytes) (length sheet) got)

    go : (b : Bool)
        → read_text first_edition (answer b) (lent_after (answer b) (out_of got) sheet)
        ≡ cond b (read_text first_edition (refused_by too_long) []) (shown (bits_of bytes) (length sheet) got)
    go true = refused_text too_long sheet
    go false = is_shown (bits_of bytes) sheet got

is_typed : (input : List ℕ) (sheet : List ℤ) → 2 ≤ length input → input_text input sheet ≡ shown_typed (named_row (two_bytes input)) (drop 2 input) (length sheet)
is_typed input sheet h = inputs.typed input sheet h ∙ is_shown_typed (named_row (two_bytes input)) (drop 2 input) sheet

-- sheets of one length give one text
pub any_sheet : (input : List ℕ) (s t : List ℤ) → length s ≡ length t → input_text input s ≡ input_text input t
any_sheet input s t e = go (dec_lt (length input) 2)
  where
    go : Dec (length input < 2) → input_text input s ≡ input_text input t
    go (yes h) = inputs.untyped input s h ∙ sym (inputs.untyped input t h)
    go (no h) =
        is_typed input s (omega arith)
        ∙ ap (shown_typed (named_row (two_bytes input)) (drop 2 input)) e
        ∙ sym (is_typed input t (omega arith))

-- ---- a long input

long : (n : Option ℕ) (a b : List ℕ) (room : ℕ) → most_bytes < length a → most_bytes < length b → shown_typed n a room ≡ shown_typed n b room
unfolding shown_typed
long None a b room h k = refl
long (Some row) a b room h k = rw (lt-ltb most_bytes (length a) h, lt-ltb most_bytes (length b) k)

-- the program reads a type number and one byte more than the longest message, 2,051 bytes: what comes behind them changes nothing
pub first_bytes : (input : List ℕ) → 2051 ≤ length input → program_text (take 2051 input) ≡ program_text input
first_bytes input h =
    let sheet = replicate read_cells (pos 0) in
    let l : length (take 2051 input) ≡ 2051 = length-take-le 2051 input h in
    let n : two_bytes (take 2051 input) ≡ two_bytes input =
    ap₂ (λ (x y : ℕ). x * 256 + y) (get_or-take 2051 input 0 0 (omega arith)) (get_or-take 2051 input 1 0 (omega arith))
    in
    is_typed (take 2051 input) sheet (omega arith)
    ∙ ap (λ (k : ℕ). shown_typed (named_row k) (drop 2 (take 2051 input)) (length sheet)) n
    ∙ long (named_row (two_bytes input)) (drop 2 (take 2051 input)) (drop 2 input) (length sheet)
    (omega (arith, length-drop 2 (take 2051 input))) (omega (arith, length-drop 2 input))
    ∙ sym (is_typed input sheet (omega arith))
