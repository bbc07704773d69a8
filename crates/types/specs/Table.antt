-- A type table as flat numbers, bounds and then one word a row (document 01, "The type table"); and the type that a row of any table stands for.
use Rattle.std.specs.Prelude.{ℕ, zero, suc, ◌+◌, ◌-◌, ◌*◌, ◌/◌, ◌%◌, min, List, [], ◌∷◌, ◌++◌, Bool, false, cond, ℤ, pos, ◌+ℤ◌, ◌-ℤ◌, length, get_or, replicate, ltb, eqb}
use Rattle.types.specs.Shape.{Ty, Fields, Alts, Opens, Field, field, told}
use Rattle.types.specs.Shape.Ty.{num, seq, choice, list, ext, enumx, seqx, choicex, pick}
use Rattle.types.specs.Shape.Fields.{none, must, may}
use Rattle.types.specs.Shape.Alts.{one, or}
use Rattle.types.specs.Shape.Opens.{unknown, on}
use Rattle.types.specs.Row.{Row, span_of}
use Rattle.basics.specs.Lists.{natural}
use Rattle.types.specs.Rows.{rows}
use Rattle.answers.specs.declared.reasons.Reason.{Reason}
use Rattle.answers.specs.declared.reasons.Reason.TheVariants as reason
use Rattle.types.specs.Kinds as kinds
use Rattle.types.specs.Columns as columns

-- ---- rows as numbers that are not negative: a lowest value is kept as its distance from the lowest 32-bit number

abbrev pub bias : ℕ
bias = 2147483648

-- the bounds of a row: its lowest, and its highest minus its lowest
pub record Bounds : Type 0 where
  pub low : ℕ
  pub span : ℕ

abbrev pub bounds_of : Row → Bounds
bounds_of r = record { low = natural (r.lowest +ℤ pos bias); span = span_of r }

abbrev pub same : Bounds → Bounds → Bool
same a b = cond (eqb a.low b.low) (eqb a.span b.span) false

-- where bounds stand in a list; its length where they are not in it
unfoldable pub place : Bounds → List Bounds → ℕ
place b [] = 0
place b (c ∷ cs) = cond (same b c) 0 (suc (place b cs))

-- with new bounds behind the others; bounds that are there already are not added
unfoldable pub with : Bounds → List Bounds → List Bounds
with b [] = b ∷ []
with b (c ∷ cs) = cond (same b c) (c ∷ cs) (c ∷ with b cs)

-- the bounds of the rows, each once, behind those that are there already
unfoldable pub gathered : List Bounds → List Row → List Bounds
gathered bs [] = bs
gathered bs (r ∷ rs) = gathered (with (bounds_of r) bs) rs

unfoldable pub flat : List Bounds → List ℕ
flat [] = []
flat (b ∷ bs) = b.low ∷ b.span ∷ flat bs

-- ---- a row in one number: how many values each part of a word has room for, and by what each part is multiplied; the kind stands lowest, what a walk is spared highest

abbrev pub kind_room : ℕ
kind_room = 8

abbrev pub mark_room : ℕ
mark_room = 4

-- so many different bounds
abbrev pub bounds_room : ℕ
bounds_room = 128

-- so many rows
abbrev pub first_room : ℕ
first_room = 1024

abbrev pub count_room : ℕ
count_room = 32

abbrev pub mark_from : ℕ
mark_from = kind_room

abbrev pub bounds_from : ℕ
bounds_from = mark_from * mark_room

abbrev pub first_from : ℕ
first_from = bounds_from * bounds_room

abbrev pub count_from : ℕ
count_from = first_from * first_room

abbrev pub spared_from : ℕ
spared_from = count_from * count_room

-- a whole number or an enumeration with no extension bit, which is one field
abbrev pub is_plain : Row → Bool
is_plain r = cond (eqb r.mark 0) (ltb r.kind kinds.sequence) false

-- how many of n components from row f are OPTIONAL
unfoldable pub options_of : (ℕ → Row) → ℕ → ℕ → ℕ
options_of table f zero = 0
options_of table f (suc n) = cond (eqb (table f).mark 0) (options_of table (f + 1) n) (suc (options_of table (f + 1) n))

module _ (table : ℕ → Row) where
  -- a component of a plain type, whose bounds stand in its own word, so that a walk need not look up its type
  abbrev pub is_direct : Row → Bool
  is_direct r = cond (eqb r.kind kinds.component) (is_plain (table r.first)) false

  -- the row whose bounds stand in a row's word
  abbrev pub bounds_row : Row → Row
  bounds_row r = cond (is_direct r) (table r.first) r

  -- what a walk is spared to find out: of a sequence, how many of its components are OPTIONAL; of a component, 1 where it is of a plain type
  abbrev pub spared_of : Row → ℕ
  spared_of r = cond (eqb r.kind kinds.sequence) (options_of table r.first r.count) (cond (is_direct r) 1 0)

  -- kind, mark, place of its bounds, first row, count, what is spared
  abbrev pub word_of : List Bounds → Row → ℕ
  word_of bs r = r.kind + mark_from * r.mark + bounds_from * place (bounds_of (bounds_row r)) bs + first_from * r.first + count_from * r.count + spared_from * spared_of r

  unfoldable pub words : List Bounds → List Row → List ℕ
  words bs [] = []
  words bs (r ∷ rs) = word_of bs r ∷ words bs rs

-- a row past the end: every number of it is 0
abbrev pub no_row : Row
no_row = record { kind = 0; mark = 0; lowest = pos 0 -ℤ pos bias; highest = pos 0 -ℤ pos bias; first = 0; count = 0 }

abbrev pub row_in : List Row → ℕ → Row
row_in rs row = get_or rs row no_row

-- the words stand behind the bounds, which are two numbers each
abbrev pub words_from : ℕ
words_from = 2 * bounds_room

-- what fills the room for bounds up: no word refers to it
abbrev pub unused : Bounds
unused = record { low = bias; span = 0 }

abbrev pub packed : List Bounds → List Row → List ℕ
packed bs rs = flat (bs ++ replicate (bounds_room - length bs) unused) ++ words (row_in rs) bs rs

-- a table: its bounds, two numbers each, filled up to the room for them, and behind them the words of its rows
unfoldable pub numbers : List Row → List ℕ
numbers rs = packed (gathered [] rs) rs

-- ---- a number of a row; 0 past the end, so that any list of numbers is a table

-- the bounds that stand in a word
abbrev pub low_in : List ℕ → ℕ → ℕ
low_in tb word = get_or tb (2 * (word / bounds_from % bounds_room)) 0

abbrev pub span_in : List ℕ → ℕ → ℕ
span_in tb word = get_or tb (2 * (word / bounds_from % bounds_room) + 1) 0

-- the six numbers that a word stands for: kind, mark, lowest, highest minus lowest, first row, count; a component has no bounds of its own
abbrev pub unpacked : List ℕ → ℕ → List ℕ
unpacked tb word =
    word % kind_room
    ∷ word / mark_from % mark_room
    ∷ cond (eqb (word % kind_room) kinds.component) bias (low_in tb word)
    ∷ cond (eqb (word % kind_room) kinds.component) 0 (span_in tb word)
    ∷ word / first_from % first_room
    ∷ word / count_from % count_room
    ∷ []

-- the word of a row
abbrev pub word_at : List ℕ → ℕ → ℕ
word_at tb row = get_or tb (words_from + row) 0

-- the six numbers of a row; none past the end
abbrev pub six_at : List ℕ → ℕ → List ℕ
six_at tb row = cond (ltb (words_from + row) (length tb)) (unpacked tb (word_at tb row)) []

-- column k of a row
unfoldable pub column : List ℕ → ℕ → ℕ → ℕ
column tb row k = get_or (six_at tb row) k 0

abbrev pub lowest_of : ℕ → ℤ
lowest_of low = pos low -ℤ pos bias

unfoldable pub row_at : List ℕ → ℕ → Row
row_at tb row =
    record {
      kind = column tb row columns.kind;
      mark = column tb row columns.mark;
      lowest = lowest_of (column tb row columns.lowest);
      highest = lowest_of (column tb row columns.lowest) +ℤ pos (column tb row columns.span);
      first = column tb row columns.first;
      count = column tb row columns.count;
    }

-- ---- the type of a row

-- a code of an enumeration is an index, of any other row of one field a whole number (document 02, A2)
abbrev pub value_outside : ℕ → Reason
value_outside kind = cond (eqb kind kinds.enumeration) reason.ItemOutside reason.NumberOutside

-- the range of the row with the number i
abbrev pub value_in : ℕ → Row → Field
value_in i r = told (value_outside r.kind) i (field r.lowest (span_of r))

module _ (table : ℕ → Row) (look : ℕ → Ty) where
  -- n components from row f
  unfoldable pub fields_of : ℕ → ℕ → Fields
  fields_of f zero = none
  fields_of f (suc n) = cond (eqb (table f).mark 0) (must (look (table f).first) (fields_of (f + 1) n)) (may (look (table f).first) (fields_of (f + 1) n))

  -- n + 1 alternatives from row f
  unfoldable pub alts_of : ℕ → ℕ → Alts
  alts_of f zero = one (look (table f).first)
  alts_of f (suc n) = or (look (table f).first) (alts_of (f + 1) n)

  -- n open values of known types from row f
  unfoldable pub opens_of : ℕ → ℕ → Opens
  opens_of f zero = unknown
  opens_of f (suc n) = on (table f).count (look (table f).first) (opens_of (f + 1) n)

  -- the row with the number i, without its extension bit
  unfoldable pub body_of : ℕ → Row → Ty
  body_of i r =
      cond (ltb r.kind kinds.sequence) (num (value_in i r))
      (cond (eqb r.kind kinds.sequence) (seq (fields_of r.first r.count))
      (cond (eqb r.kind kinds.choice) (choice i (alts_of r.first (span_of r)))
      (cond (eqb r.kind kinds.selector) (pick (value_in i r) (opens_of r.first r.count))
      (list i (natural r.lowest) (span_of r) (look r.first)))))

  -- a row whose extension bit gives a cell: its additions stand behind its components or alternatives
  unfoldable pub extended_of : ℕ → Row → Ty
  extended_of i r =
      cond (ltb r.kind kinds.sequence) (enumx i (span_of r))
      (cond (eqb r.kind kinds.sequence) (seqx (fields_of r.first r.count) (opens_of (r.first + r.count) (span_of r)))
      (choicex i (alts_of r.first (span_of r)) (opens_of (r.first + (span_of r + 1)) r.count)))

  unfoldable pub type_by : ℕ → Row → Ty
  type_by i r = cond (eqb r.mark 0) (body_of i r) (cond (eqb r.mark 1) (ext (body_of i r)) (extended_of i r))

-- the type of a row, nested at most `depth` deep
unfoldable pub type_at : (ℕ → Row) → ℕ → ℕ → Ty
type_at table zero row = seq none
type_at table (suc depth) row = type_by table (type_at table depth) row (table row)

-- the type of a row: it is nested no deeper than its number, as it refers to rows with smaller numbers
abbrev pub type_of : (ℕ → Row) → ℕ → Ty
type_of table row = type_at table (row + 1) row

-- ---- edition 1

-- a row as edition 1 takes it: an extension bit gives no cell, and no number chooses an open value
unfoldable pub first_edition : Row → Row
first_edition r = record { kind = cond (eqb r.kind kinds.selector) kinds.known r.kind; mark = min r.mark 1; lowest = r.lowest; highest = r.highest; first = r.first; count = r.count }

-- the rows of any table of numbers, as edition 1 takes them
abbrev pub root_at : List ℕ → ℕ → Row
root_at tb row = first_edition (row_at tb row)

-- the table of source 000
abbrev pub the_rows : ℕ → Row
the_rows = row_in rows
