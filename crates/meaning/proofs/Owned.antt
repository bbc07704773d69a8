-- What fits of each row's own field, its value, its index or a size that is coded, fits of every field of the types of a table that keeps the rule.
-- Assumes nothing.
use Prim.Native.Nat.{ℕ, zero, suc, ◌+◌, ◌<◌, ◌≤◌}
use mathlib.Core.Path.{◌≡◌, refl, sym, subst}
use mathlib.Core.Bool.{Bool, true, false, cond}
use mathlib.Core.List.{List}
use native.Mathlib.Nat.{add-zero}
use native.Mathlib.Numerals.{add-one}
use native.Mathlib.Omega.{arith}
use lib.Dec.{T, ltb, eqb, eqb→eq}
use lib.ListN.{length}
use Rattle.types.specs.Shape.{Ty, Fields, Field, item_in, index_in, size_in, last}
use Rattle.types.specs.Shape.Ty.{num, seq, choice, list, ext, enumx, seqx, choicex, pick}
use Rattle.types.specs.Shape.Fields.{must, may}
use Rattle.types.specs.Row.{Row, span_of}
use Rattle.types.specs.Kinds as kinds
use Rattle.basics.specs.Lists.{natural}
use Rattle.types.specs.Table.{value_in, fields_of, alts_of, opens_of, body_of, extended_of, type_by, type_at, row_in}
use Rattle.types.specs.Rule.{reach, parts, opens, are_of, marked, right}
use Rattle.types.proofs.Depth.{reach_part, reach_open, first_part, more_parts, two_or_more, two_kinds, all_smaller, all_parts, all_opens, all_marked}
use Rattle.types.proofs.Steps.{last_of}
use Rattle.meaning.proofs.Every.{Each, EachField, EachAlt, EachOpen}

module _ (Fit : Field → Type 0) (Extended : Type 0) where
  -- the fields of the row with the number i, by the tests of its kind: a number or an enumeration, a sequence, a choice, a number that chooses an open value
  abbrev pub Owns : ℕ → Row → Bool → Bool → Bool → Bool → Type 0
  Owns i r true b c d = Fit (value_in i r)
  Owns i r false true c d = Unit {0}
  Owns i r false false true d = Fit (index_in i (span_of r))
  Owns i r false false false true = Extended × Fit (value_in i r)
  Owns i r false false false false = 0 < span_of r → Fit (size_in i (natural r.lowest) (span_of r))

  abbrev pub Own : ℕ → Row → Type 0
  Own i r = Owns i r (ltb r.kind kinds.sequence) (eqb r.kind kinds.sequence) (eqb r.kind kinds.choice) (eqb r.kind kinds.selector)

  -- a row whose extension bit gives a cell is allowed, and the index of an enumeration's root items fits
  abbrev pub Allows : ℕ → Row → Type 0
  Allows i r = 2 ≤ r.mark → Extended × (T (ltb r.kind kinds.sequence) → Fit (item_in i (span_of r)))

  module _ (table : ℕ → Row) (smaller : (i : ℕ) → reach (table i) ≤ i) (look : ℕ → Ty) (row : ℕ) (each : (k : ℕ) → k < row → Each Fit Extended (look k)) where
    part_fits : (k : ℕ) → ((r : Row) → r.kind ≡ k → reach r ≡ r.first + 1) → (f : ℕ) → f < row → T (eqb (table f).kind k) → Each Fit Extended (look (table f).first)
    part_fits k u f h t = each (table f).first (omega (arith, smaller f, u (table f) (eqb→eq (table f).kind k t)))

    one_more : (b : Bool) (t : Ty) (fs : Fields) → Each Fit Extended t → EachField Fit Extended fs → EachField Fit Extended (cond b (must t fs) (may t fs))
    one_more true t fs h k = (h, k)
    one_more false t fs h k = (h, k)

    fields_fits : (n f : ℕ) → f + n ≤ row → T (are_of kinds.component table f n) → EachField Fit Extended (fields_of table look f n)
    unfolding fields_of are_of
    fields_fits zero f h t = tt
    fields_fits (suc n) f h t =
        one_more (eqb (table f).mark 0) (look (table f).first) (fields_of table look (f + 1) n)
        (part_fits kinds.component reach_part f (omega arith) (first_part (eqb (table f).kind kinds.component) (are_of kinds.component table (f + 1) n) t))
        (fields_fits n (f + 1) (omega arith) (more_parts (eqb (table f).kind kinds.component) (are_of kinds.component table (f + 1) n) t))

    alts_fits : (n f : ℕ) → f + n < row → T (are_of kinds.component table f (suc n)) → EachAlt Fit Extended (alts_of table look f n)
    unfolding alts_of are_of
    alts_fits zero f h t = part_fits kinds.component reach_part f (omega arith) (first_part (eqb (table f).kind kinds.component) (are_of kinds.component table (f + 1) zero) t)
    alts_fits (suc n) f h t = (
      part_fits kinds.component reach_part f (omega arith) (first_part (eqb (table f).kind kinds.component) (are_of kinds.component table (f + 1) (suc n)) t),
      alts_fits n (f + 1) (omega arith) (more_parts (eqb (table f).kind kinds.component) (are_of kinds.component table (f + 1) (suc n)) t),
    )

    opens_fits : (n f : ℕ) → f + n ≤ row → T (are_of kinds.known table f n) → EachOpen Fit Extended (opens_of table look f n)
    unfolding opens_of are_of
    opens_fits zero f h t = tt
    opens_fits (suc n) f h t = (
      part_fits kinds.known reach_open f (omega arith) (first_part (eqb (table f).kind kinds.known) (are_of kinds.known table (f + 1) n) t),
      opens_fits n (f + 1) (omega arith) (more_parts (eqb (table f).kind kinds.known) (are_of kinds.known table (f + 1) n) t),
    )

    -- what the rule says of a row, in the tests of its kind
    abbrev Reaches : Row → Bool → Bool → Bool → Bool → Type 0
    Reaches r a b c d = cond a 0 (cond b (r.first + r.count + span_of r) (cond c (r.first + (span_of r + 1) + r.count) (cond d (r.first + r.count) (r.first + 1)))) ≤ row

    abbrev Made : Row → Bool → Bool → Type 0
    Made r b c = T (are_of kinds.component table r.first (cond b r.count (cond c (span_of r + 1) 0)))

    abbrev More : Row → Bool → Bool → Bool → Type 0
    More r b c d = T (are_of kinds.known table (r.first + cond b r.count (cond c (span_of r + 1) 0)) (cond b (span_of r) (cond c r.count (cond d r.count 0))))

    last_fits : (r : Row) → Fit (index_in row (span_of r)) → Fit (index_in row (last (alts_of table look r.first (span_of r))))
    last_fits r k = subst (λ (n : ℕ). Fit (index_in row n)) (sym (last_of table look (span_of r) r.first)) k

    all_alts : (r : Row) → r.first + (span_of r + 1) + r.count ≤ row → T (are_of kinds.component table r.first (span_of r + 1)) → EachAlt Fit Extended (alts_of table look r.first (span_of r))
    all_alts r h t = alts_fits (span_of r) r.first (omega arith) (subst (λ (n : ℕ). T (are_of kinds.component table r.first n)) (add-one (span_of r)) t)

    body_fits : (r : Row) → reach r ≤ row → T (are_of kinds.component table r.first (parts r)) → T (are_of kinds.known table (r.first + parts r) (opens r)) → Own row r → Each Fit Extended (body_of table look row r)
    unfolding body_of reach parts opens
    body_fits r = go (ltb r.kind kinds.sequence) (eqb r.kind kinds.sequence) (eqb r.kind kinds.choice) (eqb r.kind kinds.selector)
      where
        go : (a b c d : Bool) → Reaches r a b c d → Made r b c → More r b c d → Owns row r a b c d
            → Each Fit Extended (cond a (num (value_in row r)) (cond b (seq (fields_of table look r.first r.count)) (cond c (choice row (alts_of table look r.first (span_of r))) (cond d (pick (value_in row r) (opens_of table look r.first r.count)) (list row (natural r.lowest) (span_of r) (look r.first))))))
        go true b c d h t u k = k
        go false true c d h t u k = fields_fits r.count r.first (omega arith) t
        go false false true d h t u k = (last_fits r k, all_alts r h t)
        go false false false true h t u k = (k.0, k.1, opens_fits r.count r.first h (subst (λ (n : ℕ). T (are_of kinds.known table n r.count)) (add-zero r.first) u))
        go false false false false h t u k = (k, each r.first (omega arith))

    extended_fits : Extended → (r : Row) → (T (ltb r.kind kinds.sequence) → Fit (item_in row (span_of r))) → reach r ≤ row → T (are_of kinds.component table r.first (parts r)) → T (are_of kinds.known table (r.first + parts r) (opens r)) → Own row r → T (cond (ltb r.kind kinds.sequence) true (cond (eqb r.kind kinds.sequence) true (eqb r.kind kinds.choice))) → Each Fit Extended (extended_of table look row r)
    unfolding extended_of reach parts opens
    extended_fits allowed r = go (ltb r.kind kinds.sequence) (eqb r.kind kinds.sequence) (eqb r.kind kinds.choice) (eqb r.kind kinds.selector)
      where
        go : (a b c d : Bool) → (T a → Fit (item_in row (span_of r))) → Reaches r a b c d → Made r b c → More r b c d → Owns row r a b c d → T (cond a true (cond b true c))
            → Each Fit Extended (cond a (enumx row (span_of r)) (cond b (seqx (fields_of table look r.first r.count) (opens_of table look (r.first + r.count) (span_of r))) (choicex row (alts_of table look r.first (span_of r)) (opens_of table look (r.first + (span_of r + 1)) r.count))))
        go true b c d q h t u k m = (allowed, q tt)
        go false true c d q h t u k m = (allowed, fields_fits r.count r.first (omega arith) t, opens_fits (span_of r) (r.first + r.count) h u)
        go false false true d q h t u k m = (allowed, last_fits r k, all_alts r h t, opens_fits r.count (r.first + (span_of r + 1)) h u)
        go false false false d q h t u k m = absurd m

    type_fits : (r : Row) → reach r ≤ row → T (are_of kinds.component table r.first (parts r)) → T (are_of kinds.known table (r.first + parts r) (opens r)) → Own row r → Allows row r → T (marked r) → Each Fit Extended (type_by table look row r)
    unfolding type_by
    type_fits r h t u k l m = go (eqb r.mark 0) refl (eqb r.mark 1) refl
      where
        go : (a : Bool) → eqb r.mark 0 ≡ a → (b : Bool) → eqb r.mark 1 ≡ b → Each Fit Extended (cond a (body_of table look row r) (cond b (ext (body_of table look row r)) (extended_of table look row r)))
        go true e b e' = body_fits r h t u k
        go false e true e' = body_fits r h t u k
        go false e false e' = let two = two_or_more r.mark e e' in extended_fits (l two).0 r (l two).1 h t u k (two_kinds r two m)

  module _ (rs : List Row) (keeps : T (right rs)) (own : (i : ℕ) → i < length rs → Own i (row_in rs i)) (allows : (i : ℕ) → i < length rs → Allows i (row_in rs i)) where
    pub types_fit : (d row : ℕ) → row < length rs → Each Fit Extended (type_at (row_in rs) d row)
    unfolding type_at
    types_fit zero row h = tt
    types_fit (suc d) row h =
        type_fits (row_in rs) (all_smaller rs keeps) (type_at (row_in rs) d) row (λ k l. types_fit d k (omega arith)) (row_in rs row) (all_smaller rs keeps row) (all_parts rs keeps row) (all_opens rs keeps row) (own row h) (allows row h) (all_marked rs keeps row)
