-- The pass over the lines that fills cells: what is done so far and what is left give the whole; and the two passes together.
-- Assumes nothing.
use Prim.Native.Nat.{ℕ, suc, ◌+◌, ◌-◌, ◌<◌, ◌≤◌, min}
use mathlib.Core.List.{List, [], ◌∷◌, ◌++◌}
use mathlib.Core.Path.{◌≡◌, refl, sym, subst, ap, ap₂, ◌∙◌}
use native.Mathlib.Decide.{dec_lt}
use native.Mathlib.Nat.{zero-add}
use native.Mathlib.Omega.{arith}
use borrow.Author.Tests.{le-leb, lt-leb}
use lib.IntN.{ℤ}
use lib.ListN.{length, take, drop, set, length-append, drop_of_length-le}
use lib.Seq.{sets, sets-eq, take-nil}
use Rattle.std.specs.Prelude.{Ok, Err}
use Rattle.basics.specs.Lists.{filled}
use Rattle.basics.proofs.Lists.{sets_append}
use Rattle.parsing.specs.Lines.{lines, line_length}
use Rattle.printing.specs.Texts.{ascii}
use Rattle.parsing.specs.Numbers.{Cell, Whole, is_number, cell_of, whole_of, begins, edition_of}
use Rattle.parsing.specs.Sheets.{Parsed, error_at, cells_at, type_at, edition_at, Fault, no_number, out_of_range, answer_for, Cells, cells, wrong, before, cell_then, cells_of, placed, listed, behind_first, after_parsing, unplaced, Filled, parsed_lines, edited, typed_lines, typed, label}
use Rattle.parsing.specs.declared.Label.{Label}
use Rattle.parsing.specs.declared.NumberError.{NumberError}
use Rattle.parsing.specs.declared.NumberError.TheVariants as kind
use Rattle.parsing.specs.declared.ParseError.{ParseError}
use Rattle.parsing.specs.declared.ParseError.TheVariants.{NoEdition, OutOfRange, NoRoom}
use Rattle.printing.proofs.Signed.{read}
use Rattle.parsing.proofs.Lines.{line_at}
use Rattle.parsing.proofs.Numbers.{cell_read}

-- ---- cells in front of others

unfoldable pub all_before : List ℤ → Cells → Cells
all_before [] rest = rest
all_before (z ∷ zs) rest = before z (all_before zs rest)

before_one : (zs : List ℤ) (z : ℤ) (rest : Cells) → all_before zs (before z rest) ≡ all_before (zs ++ (z ∷ [])) rest
unfolding all_before
before_one [] z rest = refl
before_one (y ∷ zs) z rest = ap (before y) (before_one zs z rest)

before_wrong : (zs : List ℤ) (why : Fault) (line : ℕ) → all_before zs (wrong why line) ≡ wrong why line
unfolding all_before before
before_wrong [] why line = refl
before_wrong (z ∷ zs) why line = ap (before z) (before_wrong zs why line)

before_none : (zs : List ℤ) → all_before zs (cells []) ≡ cells zs
unfolding all_before before
before_none [] = refl
before_none (z ∷ zs) = ap (before z) (before_none zs)

-- ---- one pass

-- count cells are done, up to the place at; they are stored, and what is left of the lines comes behind them
pub record Done (text : List ℕ) (from : ℕ) (lent : List ℤ) (at count : ℕ) (lent' : List ℤ) : Type 0 where
  pub done : List ℤ
  pub counted : length done ≡ count
  pub stored : lent' ≡ sets lent 0 done
  pub left : cells_of cells_at (lines (drop from text)) ≡ all_before done (cells_of (count + 3) (lines (drop at text)))

pub done_none : (text : List ℕ) (from : ℕ) (lent : List ℤ) → Done text from lent from 0 lent
unfolding all_before
done_none text from lent = record { done = []; counted = refl; stored = refl; left = refl }

module _ {text : List ℕ} {from at count : ℕ} {lent lent' : List ℤ} (d : Done text from lent at count lent') where
  module _ (h : at < length text) {end : ℕ} (ee : end ≡ at + line_length (drop at text)) {c : Cell} (ec : c ≡ cell_of (take (end - at) (drop at text))) where
    this_line : cells_of (count + 3) (lines (drop at text)) ≡ cell_then (count + 3) c (cells_of (count + 1 + 3) (lines (drop (end + 1) text)))
    unfolding cells_of
    this_line =
        let n : suc (count + 3) ≡ count + 1 + 3 = omega arith in
        ap (cells_of (count + 3)) (line_at text at end h ee) ∙ ap₂ (λ (x : Cell) (k : ℕ). cell_then (count + 3) x (cells_of k (lines (drop (end + 1) text)))) (sym ec) n

    pub done_more : {z : ℤ} {lent'' : List ℤ} → c ≡ Ok z → lent'' ≡ set lent' count (read z) → Done text from lent (end + 1) (count + 1) lent''
    unfolding cell_then
    done_more {z} {lent''} e es =
        let last : lent'' ≡ sets (sets lent 0 d.done) (0 + length d.done) (z ∷ []) =
        es ∙ ap (set lent' count) (cell_read (take (end - at) (drop at text)) z (sym ec ∙ e)) ∙ ap₂ (λ (l : List ℤ) (k : ℕ). set l k z) d.stored (sym (zero-add (length d.done) ∙ d.counted))
        in
        record {
          done = d.done ++ (z ∷ []);
          counted = omega (arith, length-append d.done (z ∷ []), d.counted);
          stored = last ∙ sym (sets_append lent 0 d.done (z ∷ []));
          left = d.left ∙ ap (all_before d.done) (this_line ∙ ap (λ (x : Cell). cell_then (count + 3) x (cells_of (count + 1 + 3) (lines (drop (end + 1) text)))) e) ∙ before_one d.done z (cells_of (count + 1 + 3) (lines (drop (end + 1) text)));
        }

    module _ (why : Fault) (e : cell_then (count + 3) c (cells_of (count + 1 + 3) (lines (drop (end + 1) text))) ≡ wrong why (count + 3)) where
      is_wrong : cells_of cells_at (lines (drop from text)) ≡ wrong why (count + 3)
      is_wrong = d.left ∙ ap (all_before d.done) (this_line ∙ e) ∙ before_wrong d.done why (count + 3)

      filled_wrong : {of : Label} → Filled of (cells_of cells_at (lines (drop from text))) lent (answer_for why (count + 3)) lent'
      unfolding unplaced
      filled_wrong {of} =
          record {
            told = sym (ap (unplaced of) is_wrong);
            stored = λ zs u. absurd (let both : wrong why (count + 3) ≡ cells zs = sym is_wrong ∙ u in let z : ◌≡◌ {A = ℕ} 0 1 = cc in omega arith);
          }

    pub filled_error : {of : Label} {k : NumberError} → c ≡ Err k → Filled of (cells_of cells_at (lines (drop from text))) lent (Err (error_at k (count + 3))) lent'
    unfolding cell_then answer_for error_at
    filled_error {of} {k} e = by k (ap (λ (x : Cell). cell_then (count + 3) x (cells_of (count + 1 + 3) (lines (drop (end + 1) text)))) e)
      where
        by : (k : NumberError) → cell_then (count + 3) c (cells_of (count + 1 + 3) (lines (drop (end + 1) text))) ≡ cell_then (count + 3) (Err k) (cells_of (count + 1 + 3) (lines (drop (end + 1) text)))
            → Filled of (cells_of cells_at (lines (drop from text))) lent (Err (error_at k (count + 3))) lent'
        by kind.NoNumber u = filled_wrong no_number u
        by kind.OutOfRange u = filled_wrong out_of_range u

  -- all lines are done
  module _ (h : length text ≤ at) where
    all_done : cells_of cells_at (lines (drop from text)) ≡ cells d.done
    unfolding lines cells_of
    all_done = d.left ∙ ap (λ (l : List ℕ). all_before d.done (cells_of (count + 3) (lines l))) (drop_of_length-le text h) ∙ before_none d.done

    pub filled_all : (of : Label) → Filled of (cells_of cells_at (lines (drop from text))) lent (Ok (of, count)) lent'
    unfolding unplaced
    filled_all of =
        record {
          told = sym (ap (unplaced of) all_done ∙ ap (λ (n : ℕ). Ok (of, n)) d.counted);
          stored = λ zs u.
              let both : cells d.done ≡ cells zs = sym all_done ∙ u in
              let same : d.done ≡ zs = cc in
              d.stored ∙ ap (sets lent 0) same;
        }

-- ---- two passes

not_sheet : (why : Fault) (line : ℕ) (k : Label) (n : ℕ) → answer_for why line ≡ Ok (k, n) → ⊥
unfolding answer_for
not_sheet no_number line k n e = let z : ◌≡◌ {A = ℕ} 0 1 = cc in omega arith
not_sheet out_of_range line k n e = let z : ◌≡◌ {A = ℕ} 0 1 = cc in omega arith

module _ (of : Label) (lent : List ℤ) where
  -- what is to be shown of an answer and of the cells that it leaves
  abbrev pub Right : Cells → Parsed → List ℤ → Type 0
  Right rest answer lent' = (answer ≡ placed of (length lent) rest) × (lent' ≡ after_parsing answer (listed rest) lent)

  -- a wrong line that the first pass finds is the answer
  pub pass_wrong : (rest : Cells) {answer told : Parsed} {why : ParseError} → answer ≡ unplaced of rest → answer ≡ Err why → told ≡ Err why → told ≡ placed of (length lent) rest
  unfolding unplaced placed
  pass_wrong (cells zs) {why = why} e u t = absurd (let both : ◌≡◌ {A = Parsed} (Ok (of, length zs)) (Err why) = sym e ∙ u in let z : ◌≡◌ {A = ℕ} 0 1 = cc in omega arith)
  pass_wrong (wrong fault line) e u t = t ∙ sym u ∙ e

  -- where it finds none, it tells how many cells there are
  counted : (rest : Cells) {k : Label} {n : ℕ} {answer : Parsed} → answer ≡ unplaced of rest → answer ≡ Ok (k, n) → (zs : List ℤ) × (rest ≡ cells zs) × (length zs ≡ n)
  unfolding unplaced
  counted (cells zs) {k} {n} e s = let both : ◌≡◌ {A = Parsed} (Ok (of, length zs)) (Ok (k, n)) = sym e ∙ s in let pair : ◌≡◌ {A = Label × ℕ} (of, length zs) (k, n) = cc in (zs, refl, ap (λ (p : Label × ℕ). p.1) pair)
  counted (wrong why line) {k} {n} e s = absurd (not_sheet why line k n (sym e ∙ s))

  module _ (rest : Cells) {k : Label} {n : ℕ} {answer : Parsed} (e : answer ≡ unplaced of rest) (s : answer ≡ Ok (k, n)) where
    pub pass_no_room : length lent < n → Right rest (Err (NoRoom n)) lent
    unfolding placed after_parsing
    pass_no_room h =
        let c = counted rest e s in
        let l : length lent < length c.0 = omega (arith, c.2) in
        rw (c.1, lt-leb (length c.0) (length lent) l) (ap (λ (k : ℕ). Err (NoRoom k)) (sym c.2), refl)

    pub pass_filled : {a : Parsed} {lent' : List ℤ} → n ≤ length lent → Filled of rest lent a lent' → Right rest a lent'
    unfolding placed listed after_parsing unplaced
    pass_filled {a} {lent'} h f =
        let c = counted rest e s in
        let zs = c.0 in
        let l : length zs ≤ length lent = omega (arith, c.2) in
        let stored : lent' ≡ filled zs lent = f.stored zs c.1 ∙ sets-eq zs lent 0 (omega arith) ∙ ap (λ (m : ℕ). zs ++ drop m lent) (zero-add (length zs)) in
        let told : a ≡ Ok (of, length zs) = f.told ∙ ap (unplaced of) c.1 in
        rw (c.1, le-leb (length zs) (length lent) l) (told, stored ∙ sym (ap (λ (x : Parsed). after_parsing x zs lent) told))

-- ---- the second line: the type number

module _ (edition : ℕ) (text : List ℕ) (lent : List ℤ) (from : ℕ) {end : ℕ} (ee : end ≡ from + line_length (drop from text)) {w : Whole} (ew : w ≡ whole_of (take (end - from) (drop from text))) where
  abbrev rest : List (List ℕ)
  rest = lines (drop from text)

  abbrev pub Typed : Parsed → List ℤ → Type 0
  Typed answer lent' = (answer ≡ typed_lines edition rest (length lent)) × (lent' ≡ after_parsing answer (listed (cells_of cells_at (behind_first rest))) lent)

  -- no line is no number
  some_line : (w ≡ (Err kind.NoNumber) → ⊥) → from < length text
  unfolding whole_of is_number
  some_line never = elim (dec_lt from (length text)) [
    | yes h ↦ h
    | no h ↦ absurd (never (ew ∙ ap (λ (l : List ℕ). whole_of (take (end - from) l)) (drop_of_length-le text {i = from} (omega arith)) ∙ ap whole_of (take-nil (end - from))))
  ]

  typed_line : from < length text → {answer : Parsed} {lent' : List ℤ}
      → (answer ≡ typed edition w (length lent) (cells_of cells_at (lines (drop (end + 1) text)))) × (lent' ≡ after_parsing answer (listed (cells_of cells_at (lines (drop (end + 1) text)))) lent) → Typed answer lent'
  unfolding typed_lines behind_first
  typed_line h e = rw (line_at text from end h ee, sym ew) e

  pub typed_sheet : {number : ℕ} {answer : Parsed} {lent' : List ℤ} → w ≡ Ok number → Right (label edition number) lent (cells_of cells_at (lines (drop (end + 1) text))) answer lent' → Typed answer lent'
  unfolding typed
  typed_sheet {number} e r = typed_line (some_line (λ u. let both : ◌≡◌ {A = Whole} (Ok number) (Err kind.NoNumber) = sym e ∙ u in let z : ◌≡◌ {A = ℕ} 0 1 = cc in omega arith)) (rw e r)

  pub typed_error : {k : NumberError} → w ≡ Err k → Typed (Err (error_at k type_at)) lent
  unfolding typed after_parsing typed_lines behind_first lines error_at
  typed_error {k} e = by k e
    where
      by : (k : NumberError) → w ≡ Err k → Typed (Err (error_at k type_at)) lent
      by kind.NoNumber e = elim (dec_lt from (length text)) [
        | yes h ↦ typed_line h (rw e (refl, refl))
        | no h ↦ rw (drop_of_length-le text {i = from} (omega arith)) (refl, refl)
      ]
      by kind.OutOfRange e = typed_line (some_line (λ u. let both : ◌≡◌ {A = Whole} (Err kind.OutOfRange) (Err kind.NoNumber) = sym e ∙ u in let z : ◌≡◌ {A = ℕ} 0 1 = cc in omega arith)) (rw e (refl, refl))

-- ---- the first line: the edition

module _ (text : List ℕ) (lent : List ℤ) {end : ℕ} (ee : end ≡ 0 + line_length text) {w : Whole} (ew : w ≡ edition_of (take end text)) where
  abbrev pub Shown : Parsed → List ℤ → Type 0
  Shown answer lent' = (answer ≡ parsed_lines (lines text) (length lent)) × (lent' ≡ after_parsing (parsed_lines (lines text) (length lent)) (listed (cells_of cells_at (behind_first (behind_first (lines text))))) lent)

  -- an empty text is no edition
  some_text : (w ≡ (Err kind.NoNumber) → ⊥) → 0 < length text
  unfolding edition_of begins ascii
  some_text never = go text refl
    where
      go : (l : List ℕ) → text ≡ l → 0 < length l
      go [] u = absurd (never (ew ∙ ap (λ (l : List ℕ). edition_of (take end l)) u ∙ ap edition_of (take-nil end)))
      go (b ∷ l) u = omega arith

  shown : 0 < length text → {answer : Parsed} {lent' : List ℤ}
      → (answer ≡ edited w (lines (drop (end + 1) text)) (length lent)) × (lent' ≡ after_parsing answer (listed (cells_of cells_at (behind_first (lines (drop (end + 1) text))))) lent) → Shown answer lent'
  unfolding parsed_lines behind_first
  shown h {answer} e =
      let k : end - 0 ≡ end = omega arith in
      let first : lines text ≡ take end text ∷ lines (drop (end + 1) text) = line_at text 0 end h ee ∙ ap (λ (n : ℕ). take n text ∷ lines (drop (end + 1) text)) k in
      let after = e.1 ∙ ap (λ (a : Parsed). after_parsing a (listed (cells_of cells_at (behind_first (lines (drop (end + 1) text))))) lent) e.0 in
      rw (first, sym ew) (e.0, after)

  -- where the text ends with its first line, nothing stands behind it, from whatever place on it is looked for
  behind_text : lines (drop (min (end + 1) (length text)) text) ≡ lines (drop (end + 1) text)
  behind_text = elim (dec_lt (end + 1) (length text)) [
    | yes h ↦ let is : min (end + 1) (length text) ≡ end + 1 = omega arith in ap (λ (n : ℕ). lines (drop n text)) is
    | no h ↦ ap lines (drop_of_length-le text {i = min (end + 1) (length text)} (omega arith)) ∙ sym (ap lines (drop_of_length-le text {i = end + 1} (omega arith)))
  ]

  pub shown_sheet : {edition : ℕ} {answer : Parsed} {lent' : List ℤ} → w ≡ Ok edition
      → (answer ≡ typed_lines edition (lines (drop (min (end + 1) (length text)) text)) (length lent)) × (lent' ≡ after_parsing answer (listed (cells_of cells_at (behind_first (lines (drop (min (end + 1) (length text)) text))))) lent) → Shown answer lent'
  unfolding edited
  shown_sheet {edition} {answer} {lent'} e r = shown (some_text (λ u. let both : ◌≡◌ {A = Whole} (Ok edition) (Err kind.NoNumber) = sym e ∙ u in let z : ◌≡◌ {A = ℕ} 0 1 = cc in omega arith)) (rw e (subst (λ (ls : List (List ℕ)). (answer ≡ typed_lines edition ls (length lent)) × (lent' ≡ after_parsing answer (listed (cells_of cells_at (behind_first ls))) lent)) behind_text r))

  nothing : length text ≡ 0 → Shown (Err NoEdition) lent
  unfolding parsed_lines behind_first after_parsing lines
  nothing h = go text h
    where
      go : (l : List ℕ) → length l ≡ 0 → (Err NoEdition ≡ parsed_lines (lines l) (length lent)) × (lent ≡ after_parsing (parsed_lines (lines l) (length lent)) (listed (cells_of cells_at (behind_first (behind_first (lines l))))) lent)
      go [] u = (refl, refl)
      go (b ∷ l) u = absurd (omega arith)

  pub shown_no_edition : w ≡ (Err kind.NoNumber) → Shown (Err NoEdition) lent
  unfolding edited after_parsing
  shown_no_edition e = go (dec_lt 0 (length text))
    where
      go : Dec (0 < length text) → Shown (Err NoEdition) lent
      go (yes h) = shown h (rw e (refl, refl))
      go (no h) = nothing (omega arith)

  pub shown_out_of_range : w ≡ (Err kind.OutOfRange) → Shown (Err (OutOfRange edition_at)) lent
  unfolding edited after_parsing
  shown_out_of_range e = shown (some_text (λ u. let both : ◌≡◌ {A = Whole} (Err kind.OutOfRange) (Err kind.NoNumber) = sym e ∙ u in let z : ◌≡◌ {A = ℕ} 0 1 = cc in omega arith)) (rw e (refl, refl))
