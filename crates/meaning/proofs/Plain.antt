-- The types of edition 1: each field has a number that tells a code outside its range; and none is one that edition 2 alone has: an enumeration, a sequence or a choice whose extension bit gives a cell, or a number that chooses an open value.
-- Assumes nothing.
use Prim.Native.Nat.{ℕ, zero, suc, ◌+◌, ◌≤◌}
use mathlib.Core.Path.{◌≡◌, subst, ap, ◌∙◌}
use mathlib.Core.Logic.{◌⊎◌, inr}
use mathlib.Core.Bool.{Bool, true, false, cond}
use native.Mathlib.Decide.{dec_lt}
use native.Mathlib.Omega.{arith}
use borrow.Author.Tests.{ne_eqb}
use lib.Dec.{T, eqb, ltb}
use lib.ListN.{length, get_or-eq_default}
use Rattle.basics.specs.Lists.{natural}
use Rattle.answers.specs.GivenBack as number
use Rattle.answers.specs.Reasons.{reason_number}
use Rattle.answers.specs.declared.reasons.Reason.TheVariants as reason
use Rattle.types.specs.Shape.{Ty, Fields, Field, field, told}
use Rattle.types.specs.Shape.Ty.{num, seq, choice, list, ext, pick}
use Rattle.types.specs.Shape.Fields.{must, may}
use Rattle.types.specs.Row.{Row, span_of}
use Rattle.types.specs.Rows.{rows}
use Rattle.types.specs.Kinds as kinds
use Rattle.types.specs.Table.{value_in, fields_of, alts_of, opens_of, body_of, extended_of, type_by, type_at, no_row, the_rows}
use Rattle.types.specs.Rule.{◌&◌}
use Rattle.types.proofs.Rule.{left, rest}
use Rattle.meaning.proofs.Every.{Each, EachField, EachAlt}
use Rattle.meaning.proofs.Tested.{all_rows, row_passes}

-- a code outside a field's range is told by 4, which no field of a row has, or by 41 to 44
abbrev pub Numbered : Field → Type 0
Numbered f = (reason_number f.outside ≡ number.outside) ⊎ ((number.number_outside ≤ reason_number f.outside) × (reason_number f.outside ≤ number.size_outside))

abbrev pub Plain : Ty → Type 0
Plain = Each Numbered ⊥

value_numbered : (i : ℕ) (r : Row) → Numbered (value_in i r)
value_numbered i r = go (eqb r.kind kinds.enumeration)
  where
    go : (b : Bool) → Numbered (told (cond b reason.ItemOutside reason.NumberOutside) i (field r.lowest (span_of r)))
    go true = inr (omega arith, omega arith)
    go false = inr (omega arith, omega arith)

-- a row of edition 1: its extension bit gives no cell, and it is no number that chooses an open value
abbrev pub plain_row : Row → Bool
plain_row r = cond (eqb r.mark 0) true (eqb r.mark 1) & cond (eqb r.kind kinds.selector) false true

pub plain_mark : (r : Row) → T (plain_row r) → T (cond (eqb r.mark 0) true (eqb r.mark 1))
plain_mark r t = left (cond (eqb r.mark 0) true (eqb r.mark 1)) (cond (eqb r.kind kinds.selector) false true) t

pub plain_kind : (r : Row) → T (plain_row r) → T (cond (eqb r.kind kinds.selector) false true)
plain_kind r t = rest (cond (eqb r.mark 0) true (eqb r.mark 1)) (cond (eqb r.kind kinds.selector) false true) t

-- ---- a table of such rows has such types

module _ (table : ℕ → Row) (look : ℕ → Ty) (each : (k : ℕ) → Plain (look k)) where
  one_more : (b : Bool) (t : Ty) (fs : Fields) → Plain t → EachField Numbered ⊥ fs → EachField Numbered ⊥ (cond b (must t fs) (may t fs))
  one_more true t fs h k = (h, k)
  one_more false t fs h k = (h, k)

  fields_plain : (n f : ℕ) → EachField Numbered ⊥ (fields_of table look f n)
  unfolding fields_of
  fields_plain zero f = tt
  fields_plain (suc n) f = one_more (eqb (table f).mark 0) (look (table f).first) (fields_of table look (f + 1) n) (each (table f).first) (fields_plain n (f + 1))

  alts_plain : (n f : ℕ) → EachAlt Numbered ⊥ (alts_of table look f n)
  unfolding alts_of
  alts_plain zero f = each (table f).first
  alts_plain (suc n) f = (each (table f).first, alts_plain n (f + 1))

  body_plain : (i : ℕ) (r : Row) → T (cond (eqb r.kind kinds.selector) false true) → Plain (body_of table look i r)
  unfolding body_of
  body_plain i r = go (ltb r.kind kinds.sequence) (eqb r.kind kinds.sequence) (eqb r.kind kinds.choice) (eqb r.kind kinds.selector)
    where
      go : (a b c d : Bool) → T (cond d false true)
          → Plain (cond a (num (value_in i r)) (cond b (seq (fields_of table look r.first r.count)) (cond c (choice i (alts_of table look r.first (span_of r))) (cond d (pick (value_in i r) (opens_of table look r.first r.count)) (list i (natural r.lowest) (span_of r) (look r.first))))))
      go true b c d t = value_numbered i r
      go false true c d t = fields_plain r.count r.first
      go false false true d t = (inr (omega arith, omega arith), alts_plain (span_of r) r.first)
      go false false false true t = absurd t
      go false false false false t = ((λ p. inr (omega arith, omega arith)), each r.first)

  type_plain : (i : ℕ) (r : Row) → T (plain_row r) → Plain (type_by table look i r)
  unfolding type_by
  type_plain i r t = go (eqb r.mark 0) (eqb r.mark 1) (plain_mark r t) (plain_kind r t)
    where
      go : (a b : Bool) → T (cond a true b) → T (cond (eqb r.kind kinds.selector) false true) → Plain (cond a (body_of table look i r) (cond b (ext (body_of table look i r)) (extended_of table look i r)))
      go true b m k = body_plain i r k
      go false true m k = body_plain i r k
      go false false m k = absurd m

pub types_plain : (table : ℕ → Row) → ((i : ℕ) → T (plain_row (table i))) → (d row : ℕ) → Plain (type_at table d row)
unfolding type_at
types_plain table plain zero row = tt
types_plain table plain (suc d) row = type_plain table (type_at table d) (types_plain table plain d) row (table row) (plain row)

-- ---- the table of source 000

-- by one test, computed over all its rows
rows_plain : T (all_rows plain_row rows)
unfolding rows all_rows
rows_plain = tt

pub row_plain : (i : ℕ) → T (plain_row (the_rows i))
row_plain i = elim (dec_lt i (length rows)) [ yes h ↦ row_passes plain_row rows rows_plain i h | no h ↦ rw (get_or-eq_default rows no_row {n = i} (omega arith)) tt ]

pub the_types_plain : (d row : ℕ) → Plain (type_at the_rows d row)
the_types_plain = types_plain the_rows row_plain

-- an extension bit that gives a cell is in none of its rows
pub no_marks : (i : ℕ) → 2 ≤ (the_rows i).mark → ⊥
no_marks i m = go (the_rows i).mark m (plain_mark (the_rows i) (row_plain i))
  where
    go : (n : ℕ) → 2 ≤ n → T (cond (eqb n 0) true (eqb n 1)) → ⊥
    go n m t = subst T (ap (λ (b : Bool). cond b true (eqb n 1)) (ne_eqb n 0 (λ z. omega arith)) ∙ ne_eqb n 1 (λ z. omega arith)) t
