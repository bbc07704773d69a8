-- What the writing program prints: the text of a sheet that is one, and of a text that is none; a text that is too long; and a sheet in bytes.
-- Assumes nothing.
use Prim.Native.Nat.{ℕ, ◌+◌, ◌-◌, ◌/◌, ◌≤◌, ◌<◌, ◌^◌}
use mathlib.Core.List.{List, [], ◌∷◌}
use mathlib.Core.Path.{◌≡◌, refl, sym, ap, ap₂, ◌∙◌}
use native.Mathlib.Decide.{dec_le}
use native.Mathlib.Omega.{arith}
use borrow.Author.Tests.{le-leb, lt-leb, lt-ltb, le-ltb}
use lib.IntN.{ℤ, pos}
use lib.ListN.{length, take, drop, replicate}
use lib.Seq.{sets, length-take-le}
use Rattle.std.specs.Prelude.{Ok, Err}
use Rattle.meaning.specs.Messages.{write_message, bytes_after}
use Rattle.answers.specs.Refusals.{unknown_type}
use Rattle.answers.specs.Answers.{refused_by}
use Rattle.answers.specs.declared.Refusal.{Refusal}
use Rattle.answers.specs.declared.Answer.{Answer}
use Rattle.printing.specs.Buffers.{Appended}
use Rattle.printing.specs.Texts.{ascii, written_text}
use Rattle.parsing.specs.Complaints.{complaint}
use Rattle.parsing.specs.Lines.{lines}
use Rattle.parsing.specs.Numbers.{Whole, whole_of, edition_of}
use Rattle.parsing.specs.Sheets.{Parsed, cells_at, parsed, parsed_lines, edited, typed_lines, typed, label, placed, answer_for, cells_after, cells_of, Cells, cells, wrong, no_number, out_of_range}
use Rattle.parsing.specs.declared.NumberError.TheVariants as kind
use Rattle.parsing.specs.declared.Label.{Label}
use Rattle.parsing.specs.declared.ParseError.{ParseError}
use Rattle.parsing.specs.declared.ParseError.TheVariants.{NoRoom}
use Rattle.records.specs.Records.{two_bytes}
use Rattle.programs_writing.specs.Cells.{cells_in}
use Rattle.programs_writing.specs.Sheets.{written_bytes, written_cells, message_of, parsed_text, sheet_text, most_text, write_text, edition_bytes, label_bytes, content_text}
use Rattle.programs.proofs.Inputs.{rest, InFront, same_front, appended_front}
use Rattle.programs_writing.proofs.Cells.{cells_taken}

-- ---- the cells of a sheet lie in those that are lent

module _ (of : Label) (count room : ℕ) where
  placed_fits : (n : Label) (cs : Cells) → placed n room cs ≡ Ok (of, count) → count ≤ room
  unfolding placed answer_for
  placed_fits n (cells zs) e = go (dec_le (length zs) room)
    where
      go : Dec (length zs ≤ room) → count ≤ room
      go (yes l) =
          let both : ◌≡◌ {A = Parsed} (Ok (n, length zs)) (Ok (of, count)) = sym (rw (le-leb (length zs) room l) refl) ∙ e in
          let pair : ◌≡◌ {A = Label × ℕ} (n, length zs) (of, count) = cc in
          let same : length zs ≡ count = ap (λ (p : Label × ℕ). p.1) pair in
          omega arith
      go (no l) =
          let s : room < length zs = omega arith in
          let both : ◌≡◌ {A = Parsed} (Err (NoRoom (length zs))) (Ok (of, count)) = sym (rw (lt-leb (length zs) room s) refl) ∙ e in
          absurd (let z : ◌≡◌ {A = ℕ} 0 1 = cc in omega arith)
  placed_fits n (wrong no_number line) e = absurd (let z : ◌≡◌ {A = ℕ} 0 1 = cc in omega arith)
  placed_fits n (wrong out_of_range line) e = absurd (let z : ◌≡◌ {A = ℕ} 0 1 = cc in omega arith)

  typed_fits : (edition : ℕ) (w : Whole) (cs : Cells) → typed edition w room cs ≡ Ok (of, count) → count ≤ room
  unfolding typed
  typed_fits edition (Ok n) cs e = placed_fits (label edition n) cs e
  typed_fits edition (Err kind.NoNumber) cs e = absurd (let z : ◌≡◌ {A = ℕ} 0 1 = cc in omega arith)
  typed_fits edition (Err kind.OutOfRange) cs e = absurd (let z : ◌≡◌ {A = ℕ} 0 1 = cc in omega arith)

  rest_fits : (edition : ℕ) (ls : List (List ℕ)) → typed_lines edition ls room ≡ Ok (of, count) → count ≤ room
  unfolding typed_lines
  rest_fits edition [] e = absurd (let z : ◌≡◌ {A = ℕ} 0 1 = cc in omega arith)
  rest_fits edition (l ∷ ls) e = typed_fits edition (whole_of l) (cells_of cells_at ls) e

  edited_fits : (w : Whole) (ls : List (List ℕ)) → edited w ls room ≡ Ok (of, count) → count ≤ room
  unfolding edited
  edited_fits (Ok edition) ls e = rest_fits edition ls e
  edited_fits (Err kind.NoNumber) ls e = absurd (let z : ◌≡◌ {A = ℕ} 0 1 = cc in omega arith)
  edited_fits (Err kind.OutOfRange) ls e = absurd (let z : ◌≡◌ {A = ℕ} 0 1 = cc in omega arith)

  lines_fit : (ls : List (List ℕ)) → parsed_lines ls room ≡ Ok (of, count) → count ≤ room
  unfolding parsed_lines
  lines_fit [] e = absurd (let z : ◌≡◌ {A = ℕ} 0 1 = cc in omega arith)
  lines_fit (l ∷ ls) e = edited_fits (edition_of l) ls e

pub sheet_fits : (input : List ℕ) (room : ℕ) {p : Parsed} {of : Label} {count : ℕ} → p ≡ parsed input room → p ≡ Ok (of, count) → count ≤ room
sheet_fits input room {of = of} {count = count} ep es = lines_fit of count room (lines input) (sym ep ∙ es)

-- ---- a sheet as text

module _ (input : List ℕ) (lent : List ℤ) (bytes out : List ℕ) {p : Parsed} {lent' : List ℤ} (ep : p ≡ parsed input (length lent)) (el : lent' ≡ cells_after input lent) where
  at_parsed : (q : Parsed) → p ≡ q → parsed_text q lent' bytes ≡ sheet_text input lent bytes
  at_parsed q eq = sym (ap₂ (λ (x : Parsed) (zs : List ℤ). parsed_text x zs bytes) (sym ep ∙ eq) (sym el))

  pub written_sheet : {of : Label} {count : ℕ} → p ≡ Ok (of, count) → {a : Answer} {bytes' : List ℕ}
      → a ≡ write_message of.edition of.type_number (take count lent') bytes → bytes' ≡ bytes_after of.edition of.type_number (take count lent') bytes
      → {n : ℕ} {out' : List ℕ} → InFront (written_text a bytes') out n out' → InFront (sheet_text input lent bytes) out n out'
  unfolding parsed_text
  written_sheet {of} {count} es ea eb = same_front (ap₂ written_text ea eb ∙ at_parsed (Ok (of, count)) es) out

  pub wrong_text : {why : ParseError} → p ≡ Err why → {n : ℕ} {out' : List ℕ} → InFront (complaint (Err why)) out n out' → InFront (sheet_text input lent bytes) out n out'
  unfolding parsed_text
  wrong_text {why} e = same_front (at_parsed (Err why) e) out

-- ---- the writing program

abbrev pub too_much : List ℕ
too_much = ascii "text of more than 393215 bytes\n"

module _ (input : List ℕ) where
  long_text : most_text < length input → write_text input ≡ too_much
  unfolding write_text
  long_text h = rw (lt-ltb most_text (length input) h)

  pub short_text : length input ≤ most_text → write_text input ≡ sheet_text input (replicate written_cells (pos 0)) (replicate written_bytes 0)
  unfolding write_text
  short_text h = rw (le-ltb most_text (length input) h)

  module _ (out : List ℕ) where
    pub program_long : most_text < length input → 31 ≤ length out → length out < 2 ^ 64 → {n : ℕ} {out' : List ℕ} → Appended too_much out 0 n out' → InFront (write_text input) out n out'
    unfolding ascii
    program_long h room few a = same_front (sym (long_text h)) out (appended_front room few a)

    pub program_short : length input ≤ most_text → {n : ℕ} {out' : List ℕ} → InFront (sheet_text input (replicate written_cells (pos 0)) (replicate written_bytes 0)) out n out' → InFront (write_text input) out n out'
    program_short h = same_front (sym (short_text h)) out

-- one byte more than the longest text is enough of a longer one
pub first_text : (input : List ℕ) → most_text + 1 ≤ length input → write_text (take (most_text + 1) input) ≡ write_text input
first_text input h =
    let l : length (take (most_text + 1) input) ≡ most_text + 1 = length-take-le (most_text + 1) input h in
    long_text (take (most_text + 1) input) (omega arith) ∙ sym (long_text input (omega arith))

-- ---- a sheet in bytes

module _ (content out : List ℕ) where
  pub content_untyped : length content < label_bytes → {why : Refusal} {a : Answer} → why ≡ unknown_type → a ≡ refused_by why
      → {n : ℕ} {out' : List ℕ} → InFront (written_text a []) out n out' → InFront (content_text content) out n out'
  unfolding content_text
  content_untyped h ew ea =
      let is : content_text content ≡ written_text (refused_by unknown_type) [] = rw (lt-ltb (length content) label_bytes h) in
      same_front (ap (λ (x : Answer). written_text x []) (ea ∙ ap refused_by ew) ∙ sym is) out

  module _ (h : label_bytes ≤ length content) (lent : List ℤ) {edition number count : ℕ} {sheet : List ℤ} (ed : edition ≡ two_bytes content) (en : number ≡ two_bytes (take (length content - edition_bytes) (drop edition_bytes content)))
      (ec : count ≡ length (take (length content - label_bytes) (drop label_bytes content)) / 8) (room : count ≤ length lent)
      (es : sheet ≡ sets lent 0 (cells_in (take (length content - label_bytes) (drop label_bytes content)))) where
    pub content_cells : take count sheet ≡ cells_in (drop label_bytes content)
    content_cells = cells_taken (take (length content - label_bytes) (drop label_bytes content)) lent ec room es ∙ ap cells_in (rest content label_bytes)

    pub content_typed : {a : Answer} {bytes' : List ℕ}
        → a ≡ write_message edition number (take count sheet) (replicate written_bytes 0) → bytes' ≡ bytes_after edition number (take count sheet) (replicate written_bytes 0)
        → {n : ℕ} {out' : List ℕ} → InFront (written_text a bytes') out n out' → InFront (content_text content) out n out'
    unfolding content_text
    content_typed ea eb =
        let type = en ∙ ap two_bytes (rest content edition_bytes) in
        let same = ap₂ (λ (k : ℕ) (zs : List ℤ). message_of edition k zs (replicate written_bytes 0)) type content_cells ∙ ap (λ (e : ℕ). message_of e (two_bytes (drop edition_bytes content)) (cells_in (drop label_bytes content)) (replicate written_bytes 0)) ed in
        let is : content_text content ≡ message_of (two_bytes content) (two_bytes (drop edition_bytes content)) (cells_in (drop label_bytes content)) (replicate written_bytes 0) = rw (le-ltb (length content) label_bytes h) in
        same_front (ap₂ written_text ea eb ∙ same ∙ sym is) out
