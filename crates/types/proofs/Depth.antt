-- Nothing of a type is ever cut: in a table that keeps the rule, the type of a row is the same at every depth above its number.
-- Assumes nothing.
use mathlib.Core.Path.{◌≡◌, refl, ap, ap₂, subst, ◌∙◌}
use mathlib.Core.Bool.{Bool, true, false, cond}
use mathlib.Core.List.{List}
use Prim.Native.Nat.{ℕ, zero, suc, ◌+◌, ◌<◌, ◌≤◌}
use native.Mathlib.Nat.{add-zero}
use borrow.Author.Tests.{le-ltb, eqb-false}
use native.Mathlib.Numerals.{add-one}
use native.Mathlib.Decide.{dec_lt}
use native.Mathlib.Omega.{arith}
use lib.Dec.{T, eqb, ltb, eqb→eq, ltb→lt}
use lib.ListN.{length, get_or-eq_default}
use Rattle.types.specs.Shape.{Ty, Fields, Opens}
use Rattle.types.specs.Shape.Ty.{num, seq, choice, list, ext, enumx, seqx, choicex, pick}
use Rattle.types.specs.Shape.Fields.{must, may}
use Rattle.types.specs.Shape.Alts.{one, or}
use Rattle.types.specs.Shape.Opens.{on}
use Rattle.types.specs.Row.{Row, span_of}
use Rattle.basics.specs.Lists.{natural}
use Rattle.types.specs.Kinds as kinds
use Rattle.types.specs.Rows.{rows}
use Rattle.types.specs.Table.{value_in, fields_of, alts_of, opens_of, body_of, extended_of, type_by, type_at, type_of, row_at, row_in, no_row, the_rows, column}
use Rattle.types.specs.Rule.{◌&◌, reach, parts, opens, are_of, marked, right}
use Rattle.types.proofs.Rule.{rule_at, rows_right}

-- ---- two ways to look rows up that agree below a row give it the same type

-- a component's and an open value's type
pub reach_part : (r : Row) → r.kind ≡ kinds.component → reach r ≡ r.first + 1
unfolding reach
reach_part r e = rw e refl

pub reach_open : (r : Row) → r.kind ≡ kinds.known → reach r ≡ r.first + 1
unfolding reach
reach_open r e = rw e refl

pub first_part : (a b : Bool) → T (a & b) → T a
first_part true b t = tt
first_part false b t = t

pub more_parts : (a b : Bool) → T (a & b) → T b
more_parts true b t = t
more_parts false b t = absurd t

-- a mark that is neither 0 nor 1 has a kind that may have it
pub two_or_more : (m : ℕ) → eqb m 0 ≡ false → eqb m 1 ≡ false → 2 ≤ m
two_or_more zero e e' = absurd (eqb-false 0 0 e refl)
two_or_more (suc zero) e e' = absurd (eqb-false 1 1 e' refl)
two_or_more (suc (suc m)) e e' = omega arith

pub two_kinds : (r : Row) → 2 ≤ r.mark → T (marked r) → T (cond (ltb r.kind kinds.sequence) true (cond (eqb r.kind kinds.sequence) true (eqb r.kind kinds.choice)))
two_kinds r h m = kind r.kind (second (ltb r.mark 3) (rw (le-ltb r.mark 2 h) at m))
  where
    second : (b : Bool) → T (cond b (cond (ltb 0 r.kind) (ltb r.kind kinds.list) false) false) → T (cond (ltb 0 r.kind) (ltb r.kind kinds.list) false)
    second true t = t
    second false t = absurd t

    few : (k : ℕ) (b : Bool) → ltb 0 k ≡ b → T (cond b (ltb k 4) false) → k < 4
    few k true e t = ltb→lt k 4 t
    few k false e t = absurd t

    small : (k : ℕ) → k < 4 → T (cond (ltb 0 k) (ltb k 4) false) → T (cond (ltb k 2) true (cond (eqb k 2) true (eqb k 3)))
    small zero h t = absurd t
    small (suc zero) h t = tt
    small (suc (suc zero)) h t = tt
    small (suc (suc (suc zero))) h t = tt
    small (suc (suc (suc (suc k)))) h t = absurd (omega arith)

    kind : (k : ℕ) → T (cond (ltb 0 k) (ltb k 4) false) → T (cond (ltb k 2) true (cond (eqb k 2) true (eqb k 3)))
    kind k t = small k (few k (ltb 0 k) refl t) t

module _ (table : ℕ → Row) (smaller : (i : ℕ) → reach (table i) ≤ i) (look other : ℕ → Ty) (row : ℕ) (agree : (k : ℕ) → k < row → look k ≡ other k) where
  part_agrees : (k : ℕ) → ((r : Row) → r.kind ≡ k → reach r ≡ r.first + 1) → (f : ℕ) → f < row → T (eqb (table f).kind k) → look (table f).first ≡ other (table f).first
  part_agrees k u f h t = agree (table f).first (omega (arith, smaller f, u (table f) (eqb→eq (table f).kind k t)))

  fields_agree : (n f : ℕ) → f + n ≤ row → T (are_of kinds.component table f n) → fields_of table look f n ≡ fields_of table other f n
  unfolding fields_of are_of
  fields_agree zero f h t = refl
  fields_agree (suc n) f h t =
      ap₂ (λ (ty : Ty) (fs : Fields). cond (eqb (table f).mark 0) (must ty fs) (may ty fs))
      (part_agrees kinds.component reach_part f (omega arith) (first_part (eqb (table f).kind kinds.component) (are_of kinds.component table (f + 1) n) t))
      (fields_agree n (f + 1) (omega arith) (more_parts (eqb (table f).kind kinds.component) (are_of kinds.component table (f + 1) n) t))

  alts_agree : (n f : ℕ) → f + n < row → T (are_of kinds.component table f (suc n)) → alts_of table look f n ≡ alts_of table other f n
  unfolding alts_of are_of
  alts_agree zero f h t = ap one (part_agrees kinds.component reach_part f (omega arith) (first_part (eqb (table f).kind kinds.component) (are_of kinds.component table (f + 1) zero) t))
  alts_agree (suc n) f h t =
      ap₂ or
      (part_agrees kinds.component reach_part f (omega arith) (first_part (eqb (table f).kind kinds.component) (are_of kinds.component table (f + 1) (suc n)) t))
      (alts_agree n (f + 1) (omega arith) (more_parts (eqb (table f).kind kinds.component) (are_of kinds.component table (f + 1) (suc n)) t))

  opens_agree : (n f : ℕ) → f + n ≤ row → T (are_of kinds.known table f n) → opens_of table look f n ≡ opens_of table other f n
  unfolding opens_of are_of
  opens_agree zero f h t = refl
  opens_agree (suc n) f h t =
      ap₂ (λ (ty : Ty) (os : Opens). on (table f).count ty os)
      (part_agrees kinds.known reach_open f (omega arith) (first_part (eqb (table f).kind kinds.known) (are_of kinds.known table (f + 1) n) t))
      (opens_agree n (f + 1) (omega arith) (more_parts (eqb (table f).kind kinds.known) (are_of kinds.known table (f + 1) n) t))

  -- what the rule says of a row, in the tests of its kind
  abbrev Reaches : Row → Bool → Bool → Bool → Bool → Type 0
  Reaches r a b c d = cond a 0 (cond b (r.first + r.count + span_of r) (cond c (r.first + (span_of r + 1) + r.count) (cond d (r.first + r.count) (r.first + 1)))) ≤ row

  abbrev Made : Row → Bool → Bool → Type 0
  Made r b c = T (are_of kinds.component table r.first (cond b r.count (cond c (span_of r + 1) 0)))

  abbrev More : Row → Bool → Bool → Bool → Type 0
  More r b c d = T (are_of kinds.known table (r.first + cond b r.count (cond c (span_of r + 1) 0)) (cond b (span_of r) (cond c r.count (cond d r.count 0))))

  body_agrees : (r : Row) → reach r ≤ row → T (are_of kinds.component table r.first (parts r)) → T (are_of kinds.known table (r.first + parts r) (opens r)) → body_of table look row r ≡ body_of table other row r
  unfolding body_of reach parts opens
  body_agrees r = go (ltb r.kind kinds.sequence) (eqb r.kind kinds.sequence) (eqb r.kind kinds.choice) (eqb r.kind kinds.selector)
    where
      go : (a b c d : Bool) → Reaches r a b c d → Made r b c → More r b c d
          → cond a (num (value_in row r)) (cond b (seq (fields_of table look r.first r.count)) (cond c (choice row (alts_of table look r.first (span_of r))) (cond d (pick (value_in row r) (opens_of table look r.first r.count)) (list row (natural r.lowest) (span_of r) (look r.first)))))
          ≡ cond a (num (value_in row r)) (cond b (seq (fields_of table other r.first r.count)) (cond c (choice row (alts_of table other r.first (span_of r))) (cond d (pick (value_in row r) (opens_of table other r.first r.count)) (list row (natural r.lowest) (span_of r) (other r.first)))))
      go true b c d h t u = refl
      go false true c d h t u = ap seq (fields_agree r.count r.first (omega arith) t)
      go false false true d h t u = ap (choice row) (alts_agree (span_of r) r.first (omega arith) (subst (λ (n : ℕ). T (are_of kinds.component table r.first n)) (add-one (span_of r)) t))
      go false false false true h t u = ap (pick (value_in row r)) (opens_agree r.count r.first h (subst (λ (n : ℕ). T (are_of kinds.known table n r.count)) (add-zero r.first) u))
      go false false false false h t u = ap (list row (natural r.lowest) (span_of r)) (agree r.first (omega arith))

  extended_agrees : (r : Row) → reach r ≤ row → T (are_of kinds.component table r.first (parts r)) → T (are_of kinds.known table (r.first + parts r) (opens r)) → T (cond (ltb r.kind kinds.sequence) true (cond (eqb r.kind kinds.sequence) true (eqb r.kind kinds.choice))) → extended_of table look row r ≡ extended_of table other row r
  unfolding extended_of reach parts opens
  extended_agrees r = go (ltb r.kind kinds.sequence) (eqb r.kind kinds.sequence) (eqb r.kind kinds.choice) (eqb r.kind kinds.selector)
    where
      go : (a b c d : Bool) → Reaches r a b c d → Made r b c → More r b c d → T (cond a true (cond b true c))
          → cond a (enumx row (span_of r)) (cond b (seqx (fields_of table look r.first r.count) (opens_of table look (r.first + r.count) (span_of r))) (choicex row (alts_of table look r.first (span_of r)) (opens_of table look (r.first + (span_of r + 1)) r.count)))
          ≡ cond a (enumx row (span_of r)) (cond b (seqx (fields_of table other r.first r.count) (opens_of table other (r.first + r.count) (span_of r))) (choicex row (alts_of table other r.first (span_of r)) (opens_of table other (r.first + (span_of r + 1)) r.count)))
      go true b c d h t u m = refl
      go false true c d h t u m = ap₂ seqx (fields_agree r.count r.first (omega arith) t) (opens_agree (span_of r) (r.first + r.count) h u)
      go false false true d h t u m =
          ap₂ (choicex row) (alts_agree (span_of r) r.first (omega arith) (subst (λ (n : ℕ). T (are_of kinds.component table r.first n)) (add-one (span_of r)) t)) (opens_agree r.count (r.first + (span_of r + 1)) h u)
      go false false false d h t u m = absurd m

  type_agrees : (r : Row) → reach r ≤ row → T (are_of kinds.component table r.first (parts r)) → T (are_of kinds.known table (r.first + parts r) (opens r)) → T (marked r) → type_by table look row r ≡ type_by table other row r
  unfolding type_by
  type_agrees r h t u m = go (eqb r.mark 0) refl (eqb r.mark 1) refl
    where
      go : (a : Bool) → eqb r.mark 0 ≡ a → (b : Bool) → eqb r.mark 1 ≡ b
          → cond a (body_of table look row r) (cond b (ext (body_of table look row r)) (extended_of table look row r)) ≡ cond a (body_of table other row r) (cond b (ext (body_of table other row r)) (extended_of table other row r))
      go true e b e' = body_agrees r h t u
      go false e true e' = ap ext (body_agrees r h t u)
      go false e false e' = extended_agrees r h t u (two_kinds r (two_or_more r.mark e e') m)

-- ---- any table whose rows refer to smaller rows, components and open values where they should

module _ (table : ℕ → Row) (smaller : (i : ℕ) → reach (table i) ≤ i) (made : (i : ℕ) → T (are_of kinds.component table (table i).first (parts (table i))))
    (more : (i : ℕ) → T (are_of kinds.known table ((table i).first + parts (table i)) (opens (table i)))) (marks : (i : ℕ) → T (marked (table i))) where
  pub deep : (d e row : ℕ) → row < d → row < e → type_at table d row ≡ type_at table e row
  unfolding type_at
  deep zero e row h k = absurd (omega arith)
  deep (suc d) zero row h k = absurd (omega arith)
  deep (suc d) (suc e) row h k = type_agrees table smaller (type_at table d) (type_at table e) row (λ i l. deep d e i (omega arith) (omega arith)) (table row) (smaller row) (made row) (more row) (marks row)

  -- the type of a row, by the types of the rows that it refers to
  pub type_by_lem : (row : ℕ) → type_of table row ≡ type_by table (type_of table) row (table row)
  unfolding type_at
  type_by_lem row =
      ap (λ (d : ℕ). type_at table d row) (add-one row)
      ∙ type_agrees table smaller (type_at table row) (type_of table) row (λ k h. deep row (k + 1) k h (omega arith)) (table row) (smaller row) (made row) (more row) (marks row)

-- ---- a row past the end refers to no row, so the rule holds of every row number

module _ (rs : List Row) (t : T (right rs)) where
  pub all_smaller : (i : ℕ) → reach (row_in rs i) ≤ i
  unfolding reach row_at column
  all_smaller i = elim (dec_lt i (length rs)) [ yes h ↦ (rule_at rs t i h).smaller | no h ↦ rw (get_or-eq_default rs no_row {n = i} (omega arith)) (omega arith) ]

  pub all_parts : (i : ℕ) → T (are_of kinds.component (row_in rs) (row_in rs i).first (parts (row_in rs i)))
  unfolding are_of parts row_at column
  all_parts i = elim (dec_lt i (length rs)) [ yes h ↦ (rule_at rs t i h).components | no h ↦ rw (get_or-eq_default rs no_row {n = i} (omega arith)) tt ]

  pub all_opens : (i : ℕ) → T (are_of kinds.known (row_in rs) ((row_in rs i).first + parts (row_in rs i)) (opens (row_in rs i)))
  unfolding are_of parts opens row_at column
  all_opens i = elim (dec_lt i (length rs)) [ yes h ↦ (rule_at rs t i h).additions | no h ↦ rw (get_or-eq_default rs no_row {n = i} (omega arith)) tt ]

  pub all_marked : (i : ℕ) → T (marked (row_in rs i))
  unfolding row_at column
  all_marked i = elim (dec_lt i (length rs)) [ yes h ↦ (rule_at rs t i h).mark_known | no h ↦ rw (get_or-eq_default rs no_row {n = i} (omega arith)) tt ]

  pub type_at-deep : (d e row : ℕ) → row < d → row < e → type_at (row_in rs) d row ≡ type_at (row_in rs) e row
  type_at-deep = deep (row_in rs) all_smaller all_parts all_opens all_marked

-- the table of source 000
pub the_types_deep : (d e row : ℕ) → row < d → row < e → type_at the_rows d row ≡ type_at the_rows e row
the_types_deep = type_at-deep rows rows_right

pub type_by_rows : (row : ℕ) → type_of the_rows row ≡ type_by the_rows (type_of the_rows) row (the_rows row)
type_by_rows = type_by_lem the_rows (all_smaller rows rows_right) (all_parts rows rows_right) (all_opens rows rows_right) (all_marked rows rows_right)
