-- The first record of held bytes, as the code finds it; and that bytes behind a whole record do not change it.
-- Assumes nothing.
use Prim.Native.Nat.{ℕ, ◌+◌, ◌-◌, ◌*◌, ◌<◌, ◌≤◌}
use mathlib.Core.Bool.{Bool, true, false, cond}
use mathlib.Core.List.{List, ◌++◌}
use mathlib.Core.Path.{◌≡◌, refl, sym, ap, ap₂, ◌∙◌}
use native.Mathlib.Decide.{dec_lt}
use native.Mathlib.Omega.{arith}
use borrow.Author.Tests.{ne_eqb, lt-ltb, le-ltb, lt-leb, le-leb}
use lib.Dec.{eqb, ltb, leb}
use lib.IntN.{pos}
use lib.ListN.{length, take, drop, length-append, length-drop, get_or-append}
use lib.Seq.{drop-append-le, take-append-le}
use Rattle.std.specs.Prelude.{Option, Some, None, Result, Ok, Err}
use Rattle.answers.specs.Said as said
use Rattle.records.specs.Records.{two_bytes, cut, from_to, head_bytes, head_of, record_length, record_by, first_record, whole, is_whole, record_of, record_says, record_answer}
use Rattle.records.specs.declared.Cut.{Cut}
use Rattle.records.specs.declared.Record.{Record}
use Rattle.answers.specs.declared.reasons.Reason.TheVariants as reason

-- ---- what the answer says

record_says_lem : (held : List ℕ) → record_says (first_record held) ≡ record_answer held
unfolding head_of record_by record_says record_answer
record_says_lem held = by (eqb (length held) 0) (ltb (length held) head_bytes)
  where
    at_end : (b : Bool) → record_says (cond b (Ok (Some (from_to head_bytes (record_length held)))) (Err cut)) ≡ cond b (said.done (pos head_bytes) (record_length held) (two_bytes held)) (said.refused reason.Short 0)
    at_end true = let e : head_bytes + two_bytes held - head_bytes ≡ two_bytes held = omega arith in ap (said.done (pos head_bytes) (record_length held)) e
    at_end false = refl

    by : (a b : Bool) → record_says (record_by (cond a (Ok None) (cond b (Err cut) (Ok (Some (two_bytes held))))) (length held))
        ≡ cond a (said.done (pos 0) 0 0) (cond b (said.refused reason.Short 0) (cond (leb (record_length held) (length held)) (said.done (pos head_bytes) (record_length held) (two_bytes held)) (said.refused reason.Short 0)))
    by true b = refl
    by false true = refl
    by false false = at_end (leb (record_length held) (length held))

pub first_says : {r : Result (Option Record) Cut} (held : List ℕ) → r ≡ first_record held → record_says r ≡ record_answer held
first_says held e = ap record_says e ∙ record_says_lem held

-- ---- whether the first record is whole

module _ (held : List ℕ) where
  pub no_length : length held < head_bytes → is_whole held ≡ false
  unfolding head_of record_by whole
  no_length h = rw (lt-ltb (length held) head_bytes h) (by (eqb (length held) 0))
    where
      by : (b : Bool) → whole (record_by (cond b (Ok None) (Err cut)) (length held)) ≡ false
      by true = refl
      by false = refl

  by_bytes : head_bytes ≤ length held → first_record held ≡ cond (leb (record_length held) (length held)) (Ok (Some (from_to head_bytes (record_length held)))) (Err cut)
  unfolding head_of record_by
  by_bytes h = let some : length held ≡ 0 → ⊥ = λ e. omega arith in rw (ne_eqb (length held) 0 some, le-ltb (length held) head_bytes h)

  pub no_bytes : head_bytes ≤ length held → length held < record_length held → is_whole held ≡ false
  unfolding whole
  no_bytes h l = ap whole (by_bytes h) ∙ rw (lt-leb (record_length held) (length held) l) refl

  -- then it starts behind its length and ends with its last byte
  pub its_ends : head_bytes ≤ length held → record_length held ≤ length held → first_record held ≡ Ok (Some (from_to head_bytes (record_length held)))
  its_ends h l = by_bytes h ∙ rw (le-leb (record_length held) (length held) l) refl

  pub all_bytes : head_bytes ≤ length held → record_length held ≤ length held → is_whole held ≡ true
  unfolding whole
  all_bytes h l = ap whole (its_ends h l)

  -- and back
  pub whole_bytes : is_whole held ≡ true → record_length held ≤ length held
  whole_bytes e = go (dec_lt (length held) head_bytes) (dec_lt (length held) (record_length held))
    where
      never : is_whole held ≡ false → ⊥
      never f = let both : true ≡ false = sym e ∙ f in let z : ◌≡◌ {A = ℕ} 0 1 = cc in omega arith

      go : Dec (length held < head_bytes) → Dec (length held < record_length held) → record_length held ≤ length held
      go (yes h) d = absurd (never (no_length h))
      go (no h) (yes l) = absurd (never (no_bytes (omega arith) l))
      go (no h) (no l) = omega arith

  -- what a caller learns that was answered a whole record
  module _ {r : Record} (e : first_record held ≡ Ok (Some r)) where
    pub is_whole_lem : is_whole held ≡ true
    unfolding whole
    is_whole_lem = ap whole e

    pub whole_ends : (r.start ≡ head_bytes) × (r.end ≡ record_length held) × (r.end ≤ length held)
    whole_ends =
        let l = whole_bytes is_whole_lem in
        let both : ◌≡◌ {A = Result (Option Record) Cut} (Ok (Some r)) (Ok (Some (from_to head_bytes (record_length held)))) = sym e ∙ its_ends (omega arith) l in
        let s : r ≡ from_to head_bytes (record_length held) = cc in
        let n : r.end ≡ record_length held = ap (λ (x : Record). x.end) s in
        (ap (λ (x : Record). x.start) s, n, omega arith)

    pub its_record : take (r.end - r.start) (drop r.start held) ≡ record_of held
    its_record =
        let w = whole_ends in
        let k : r.end - r.start ≡ two_bytes held = omega (arith, w.0, w.1) in
        ap₂ (λ (m s : ℕ). take m (drop s held)) k w.0

-- ---- bytes behind a whole record do not change it

module _ (held more : List ℕ) (w : is_whole held ≡ true) where
  same_number : two_bytes (held ++ more) ≡ two_bytes held
  same_number =
      let l = whole_bytes held w in
      ap₂ (λ (x y : ℕ). x * 256 + y) (get_or-append held more 0 0 (omega arith)) (get_or-append held more 0 1 (omega arith))

  pub still_whole : is_whole (held ++ more) ≡ true
  still_whole =
      let l = whole_bytes held w in
      let a = length-append held more in
      all_bytes (held ++ more) (omega arith) (omega (arith, same_number))

  pub same_record : record_of (held ++ more) ≡ record_of held
  same_record =
      let l = whole_bytes held w in
      ap₂ take same_number (drop-append-le head_bytes held more (omega arith))
      ∙ take-append-le (two_bytes held) (drop head_bytes held) more (omega (arith, length-drop head_bytes held))

  pub same_rest : drop (record_length (held ++ more)) (held ++ more) ≡ drop (record_length held) held ++ more
  same_rest = ap (λ (k : ℕ). drop (head_bytes + k) (held ++ more)) same_number ∙ drop-append-le (record_length held) held more (whole_bytes held w)
