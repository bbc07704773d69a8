-- The components of a sequence that stands in a sheet, one after the other: which are there, and where each one stands. Over any row of source 000.
-- Assumes nothing.
use Prim.Native.Nat.{ℕ, zero, suc, ◌+◌, ◌<◌, ◌≤◌}
use native.Mathlib.Nat.{add-zero}
use native.Mathlib.Omega.{arith}
use mathlib.Core.Path.{◌≡◌, refl, sym, ap, subst, ◌∙◌}
use mathlib.Core.Bool.{Bool, true, false, not, cond}
use mathlib.Core.List.{List}
use borrow.Author.Tests.{lt-leb, le-ltb, ne_eqb}
use lib.Dec.{T, eqb, eqb→eq}
use lib.IntN.{ℤ}
use lib.ListN.{length}
use Rattle.std.specs.Prelude.{Ok}
use Rattle.basics.specs.Lists.{cell_at}
use Rattle.types.specs.Shape.{Ty, Fields}
use Rattle.types.specs.Shape.Fields.{must, may}
use Rattle.types.specs.Row.{Row}
use Rattle.types.specs.Rows.{rows}
use Rattle.types.specs.Rule.{are_of}
use Rattle.types.specs.Kinds as kinds
use Rattle.types.specs.Table.{numbers, row_at, type_of, the_rows, fields_of}
use Rattle.types.proofs.Rule.{rows_right}
use Rattle.types.proofs.Depth.{reach_part, first_part, more_parts, all_smaller}
use Rattle.types.proofs.Numbers.{the_numbers_stand}
use Rattle.meaning.specs.Values.{Value, Parts}
use Rattle.meaning.specs.Steps.Got.{ok}
use Rattle.meaning.specs.Walk.{fields}
use Rattle.meaning.specs.Writing.{writer}
use Rattle.meaning.proofs.Bound.{write_inside}
use Rattle.walking.specs.Walked.{flags_from, present_of, past_of}
use Rattle.passing.specs.Passing.{passed, passed_by}
use Rattle.passing.proofs.Root.{root_same}
use Rattle.sheet.specs.Values.{has, part}
use Rattle.sheet.specs.Standing.{Stands, value_at}
use Rattle.sheet.specs.Moving.{onward, here_from, front_from}
use Rattle.sheet.proofs.Apart.{There, must_apart, may_apart, Absent, absent_apart}

abbrev ty : ℕ → Ty
ty = type_of the_rows

-- ---- the code's table is that of source 000

pub row_is : {tb : List ℕ} → tb ≡ numbers rows → (row : ℕ) → row_at tb row ≡ the_rows row
row_is table row = ap (λ (l : List ℕ). row_at l row) table ∙ ap (λ (t : ℕ → Row). t row) the_numbers_stand

-- the type of a component is a row of the table
part_known : (f : ℕ) → f ≤ 414 → T (eqb (the_rows f).kind kinds.component) → (the_rows f).first < 414
part_known f h t = omega (arith, all_smaller rows rows_right f, reach_part (the_rows f) (eqb→eq (the_rows f).kind kinds.component t))

-- ---- passing over a value

pub passed_by_lem : (cells : List ℤ) (row place : ℕ) {tb : List ℕ} → tb ≡ numbers rows → row < 414 → place ≤ length cells → passed tb row cells place ≡ passed_by (value_at cells row place)
unfolding passed
passed_by_lem cells row place table known inside = rw (lt-leb 414 row known, le-ltb (length cells) place inside, root_same table) refl

module _ (cells : List ℤ) (row place : ℕ) {v : Value} (S : Stands cells row place v) where
  pub stands_inside : S.next ≤ length cells
  stands_inside = let W = write_inside (ty row) cells place S.next v S.bits S.is in omega (arith, W.within, S.inside)

  pub passed_to : {tb : List ℕ} → tb ≡ numbers rows → row < 414 → passed tb row cells place ≡ Ok S.next
  unfolding passed_by
  passed_to table known = passed_by_lem cells row place table known S.inside ∙ ap passed_by S.is

module _ (cells : List ℤ) where
  -- ---- one component, by its presence number, and those behind it

  abbrev Next : ℕ → Ty → Fields → List ℕ → ℕ → Parts → ℕ → Type 0
  Next zero t fs ns p parts q = Absent cells fs ns p parts q
  Next (suc n) t fs ns p parts q = There cells t fs ns p parts q

  next : (b : Bool) (t : Ty) (fs : Fields) (flag p : ℕ) {parts : Parts} {out : List ℕ} {q : ℕ}
      → fields (cond b (must t fs) (may t fs)) (flags_from (cond b (must t fs) (may t fs)) (cell_at cells) flag) writer cells p ≡ ok parts out q
      → (n : ℕ) → n ≡ cond b 1 (cell_at cells flag) → Next n t fs (flags_from fs (cell_at cells) (cond b flag (flag + 1))) p parts q
  unfolding flags_from
  next true t fs flag p e zero en = absurd (omega arith)
  next true t fs flag p e (suc n) en = must_apart cells t fs (flags_from fs (cell_at cells) flag) p e
  next false t fs flag p e zero en = absent_apart cells t fs (cell_at cells flag) (flags_from fs (cell_at cells) (flag + 1)) p (sym en) e
  next false t fs flag p e (suc n) en = may_apart cells t fs (cell_at cells flag) (flags_from fs (cell_at cells) (flag + 1)) p (λ z. omega arith) e

  module _ {tb : List ℕ} (table : tb ≡ numbers rows) where
    -- component k of those from row f on: where it stands or would stand, whether it is there, and its own value
    pub record Found (k f flag p : ℕ) (parts : Parts) : Type 0 where
      pub place : ℕ
      pub front : front_from tb cells k f flag p ≡ Ok place
      pub here : has k parts ≡ not (eqb (here_from tb k f cells flag) 0)
      pub stands : (here_from tb k f cells flag ≡ 0 → ⊥) → Stands cells (the_rows (f + k)).first place (part k parts)

    abbrev Left : ℕ → ℕ → ℕ → ℕ → Parts → List ℕ → ℕ → Type 0
    Left n f flag p parts out q = fields (fields_of the_rows ty f n) (flags_from (fields_of the_rows ty f n) (cell_at cells) flag) writer cells p ≡ ok parts out q

    -- the presence number, and the next presence cell
    abbrev number : ℕ → ℕ → ℕ
    number f flag = present_of (the_rows f).mark (cell_at cells flag)

    here_zero : (f flag : ℕ) → here_from tb zero f cells flag ≡ number f flag
    unfolding here_from
    here_zero f flag = ap (λ (r : Row). present_of r.mark (cell_at cells flag)) (row_is table f)

    here_suc : (k f flag : ℕ) → here_from tb (suc k) f cells flag ≡ here_from tb k (f + 1) cells (past_of (the_rows f).mark flag)
    unfolding here_from
    here_suc k f flag = ap (λ (r : Row). here_from tb k (f + 1) cells (past_of r.mark flag)) (row_is table f)

    -- a component that is not OPTIONAL has 1
    pub here_must : (k f flag : ℕ) → (the_rows (f + k)).mark ≡ 0 → here_from tb k f cells flag ≡ 1
    unfolding present_of
    here_must zero f flag e = let row : f ≡ f + 0 = omega arith in here_zero f flag ∙ rw (ap (λ (g : ℕ). (the_rows g).mark) row ∙ e) refl
    here_must (suc k) f flag e =
        let row : f + 1 + k ≡ f + suc k = omega arith in
        here_suc k f flag ∙ here_must k (f + 1) (past_of (the_rows f).mark flag) (ap (λ (g : ℕ). (the_rows g).mark) row ∙ e)

    front_suc : (k f flag p : ℕ) → front_from tb cells (suc k) f flag p
        ≡ cond (eqb (number f flag) 0) (front_from tb cells k (f + 1) (past_of (the_rows f).mark flag) p) (onward (passed tb (the_rows f).first cells p) (front_from tb cells k (f + 1) (past_of (the_rows f).mark flag)))
    unfolding front_from
    front_suc k f flag p = ap (λ (r : Row). cond (eqb (present_of r.mark (cell_at cells flag)) 0) (front_from tb cells k (f + 1) (past_of r.mark flag) p) (onward (passed tb r.first cells p) (front_from tb cells k (f + 1) (past_of r.mark flag)))) (row_is table f)

    step : (n f flag p : ℕ) {parts : Parts} {out : List ℕ} {q : ℕ} → Left (suc n) f flag p parts out q → Next (number f flag) (ty (the_rows f).first) (fields_of the_rows ty (f + 1) n) (flags_from (fields_of the_rows ty (f + 1) n) (cell_at cells) (past_of (the_rows f).mark flag)) p parts q
    unfolding fields_of present_of past_of
    step n f flag p e = next (eqb (the_rows f).mark 0) (ty (the_rows f).first) (fields_of the_rows ty (f + 1) n) flag p e (number f flag) refl

    -- the first component
    found_first : (f flag p : ℕ) (fs : Fields) (ns : List ℕ) (parts : Parts) (q : ℕ) → p ≤ length cells → (m : ℕ) → number f flag ≡ m → Next m (ty (the_rows f).first) fs ns p parts q → Found zero f flag p parts
    unfolding front_from has part
    found_first f flag p fs ns ps q inside zero em A =
        let z : here_from tb zero f cells flag ≡ 0 = here_zero f flag ∙ em in
        record { place = p; front = refl; here = rw (A.is, z) refl; stands = λ h. absurd (h z) }
    found_first f flag p fs ns ps q inside (suc m) em W =
        let z : here_from tb zero f cells flag ≡ suc m = here_zero f flag ∙ em in
        record {
          place = p;
          front = refl;
          here = rw (W.is, z, ne_eqb (suc m) 0 (λ y. omega arith)) refl;
          stands = λ h. rw (add-zero f, W.is) (record { bits = W.bits; next = W.next; is = W.stands; inside = inside });
        }

    -- a component behind the first
    further : (k f flag p p₂ : ℕ) {parts rest : Parts} → has (suc k) parts ≡ has k rest → part (suc k) parts ≡ part k rest
        → front_from tb cells (suc k) f flag p ≡ front_from tb cells k (f + 1) (past_of (the_rows f).mark flag) p₂
        → Found k (f + 1) (past_of (the_rows f).mark flag) p₂ rest → Found (suc k) f flag p parts
    further k f flag p p₂ {parts} {rest} eh ep ef F =
        let row : f + 1 + k ≡ f + suc k = omega arith in
        record {
          place = F.place;
          front = ef ∙ F.front;
          here = eh ∙ F.here ∙ ap (λ (n : ℕ). not (eqb n 0)) (sym (here_suc k f flag));
          stands = λ h. subst (λ (i : ℕ). Stands cells (the_rows i).first F.place (part (suc k) parts)) row (rw ep (F.stands (λ z. h (here_suc k f flag ∙ z))));
        }

    -- those behind it are found from where it ends
    abbrev Behind : ℕ → ℕ → ℕ → ℕ → ℕ → Type 0
    Behind k n f flag q = (p : ℕ) (rest : Parts) (out : List ℕ) → p ≤ length cells → Left n f flag p rest out q → Found k f flag p rest

    found_next : (k n f flag p : ℕ) {parts : Parts} {q : ℕ} → (the_rows f).first < 414 → p ≤ length cells → Behind k n (f + 1) (past_of (the_rows f).mark flag) q
        → (m : ℕ) → number f flag ≡ m → Next m (ty (the_rows f).first) (fields_of the_rows ty (f + 1) n) (flags_from (fields_of the_rows ty (f + 1) n) (cell_at cells) (past_of (the_rows f).mark flag)) p parts q → Found (suc k) f flag p parts
    unfolding has part onward
    found_next k n f flag p known inside more zero em A =
        further k f flag p p (ap (has (suc k)) A.is) (ap (part (suc k)) A.is) (front_suc k f flag p ∙ rw em refl) (more p A.rest A.more inside A.behind)
    found_next k n f flag p known inside more (suc m) em W =
        let S : Stands cells (the_rows f).first p W.value = record { bits = W.bits; next = W.next; is = W.stands; inside = inside } in
        further k f flag p W.next (ap (has (suc k)) W.is) (ap (part (suc k)) W.is)
        (front_suc k f flag p ∙ rw (em, ne_eqb (suc m) 0 (λ y. omega arith), passed_to cells (the_rows f).first p S table known) refl)
        (more W.next W.rest W.more (stands_inside cells (the_rows f).first p S) W.behind)

    pub found : (k n f flag p : ℕ) {parts : Parts} {out : List ℕ} {q : ℕ} → k < n → f + n ≤ 414 → T (are_of kinds.component the_rows f n) → p ≤ length cells → Left n f flag p parts out q → Found k f flag p parts
    unfolding are_of
    found k zero f flag p h l t inside e = absurd (omega arith)
    found zero (suc n) f flag p {parts} {out} {q} h l t inside e =
        found_first f flag p (fields_of the_rows ty (f + 1) n) (flags_from (fields_of the_rows ty (f + 1) n) (cell_at cells) (past_of (the_rows f).mark flag)) parts q inside (number f flag) refl (step n f flag p e)
    found (suc k) (suc n) f flag p h l t inside e =
        found_next k n f flag p
        (part_known f (omega arith) (first_part (eqb (the_rows f).kind kinds.component) (are_of kinds.component the_rows (f + 1) n) t)) inside
        (λ p₂ rest more inside₂ u. found k n (f + 1) (past_of (the_rows f).mark flag) p₂ (omega arith) (omega arith) (more_parts (eqb (the_rows f).kind kinds.component) (are_of kinds.component the_rows (f + 1) n) t) inside₂ u)
        (number f flag) refl (step n f flag p e)
