-- No list has more entries than its type allows, whatever the sheet: a size is judged where it is taken.
-- Assumes nothing.
use Prim.Native.Nat.{ℕ, zero, suc, ◌+◌, ◌≤◌}
use native.Mathlib.Omega.{arith}
use mathlib.Core.Path.{◌≡◌, refl, ap, ◌∙◌}
use mathlib.Core.Bool.{Bool, true, false, cond}
use mathlib.Core.List.{List}
use borrow.Author.Tests.{ne_eqb}
use lib.Dec.{eqb, ltb}
use lib.IntN.{ℤ}
use lib.ListN.{length}
use Rattle.std.specs.Prelude.{Result, Ok, Err}
use Rattle.answers.specs.declared.Refusal.{Refusal}
use Rattle.basics.specs.Lists.{natural}
use Rattle.answers.specs.Refusals.{refusal}
use Rattle.types.specs.Shape.{Field}
use Rattle.types.specs.Row.{Row, span_of}
use Rattle.types.specs.Kinds as kinds
use Rattle.types.specs.Rows.{rows}
use Rattle.types.specs.Table.{numbers, row_at, the_rows}
use Rattle.meaning.specs.Steps.{Got}
use Rattle.meaning.specs.Steps.Got.{ok, refused}
use Rattle.meaning.specs.Writing.{write_whole}
use Rattle.meaning.proofs.Sides.{write_whole_lem}
use Rattle.walking.specs.Walked.{sized}
use Rattle.sheet.specs.Standing.{part_row}
use Rattle.sheet.specs.Moving.{is_sequence, here_at, front_at, part_by, component_at, size_at, listed_by, entries_at}
use Rattle.sheet.proofs.Components.{row_is}
use Rattle.messages.specs.Taking.{listing_by, listing_of, listing_at}
use Rattle.sheet.specs.declared.Listing.{Listing}
use Rattle.answers.specs.declared.reasons.Reason.TheVariants as reason

-- the largest size of a list
abbrev pub most : Row → ℕ
most r = natural r.lowest + span_of r

module _ (tb : List ℕ) (cells : List ℤ) where
  few_more : (f : Field) (span p : ℕ) {more : ℕ} {told : List ℕ} {start : ℕ} → f.span ≡ span → sized span (write_whole f cells) p ≡ ok more told start → more ≤ span
  unfolding sized
  few_more f zero p {more} es e = let z : 0 ≡ more = cc in omega arith
  few_more f (suc n) p es e = let W = write_whole_lem cells f p (rw (ne_eqb (suc n) 0 (λ z. omega arith)) at e) in omega (arith, W.within, es)

  few_listed : (row p : ℕ) → (listing_by (entries_at tb row cells p)).count ≤ most (row_at tb row)
  unfolding entries_at listed_by listing_by
  few_listed row p = go (eqb (row_at tb row).kind kinds.list) (ltb (length cells) p) (size_at tb row cells p) refl
    where
      go : (a b : Bool) (g : Got ℕ ℕ) → size_at tb row cells p ≡ g → (listing_by (cond a (cond b (Err (refusal reason.NoValue (length cells))) (listed_by (row_at tb row).first (natural (row_at tb row).lowest) g)) (Err (refusal reason.UnknownType 0)))).count ≤ most (row_at tb row)
      go false b g e = omega arith
      go true true g e = omega arith
      go true false (ok more told start) e = omega (arith, few_more _ (span_of (row_at tb row)) p refl e)
      go true false (refused why) e = omega arith

  abbrev type_row : ℕ → ℕ → ℕ
  type_row row k = (row_at tb ((row_at tb row).first + k)).first

  few_part : (t here : ℕ) (r : Result ℕ Refusal) → (listing_of tb cells (part_by t here r)).count ≤ most (row_at tb t)
  unfolding part_by listing_of
  few_part t zero (Ok q) = omega arith
  few_part t (suc n) (Ok q) = few_listed t q
  few_part t zero (Err why) = omega arith
  few_part t (suc n) (Err why) = omega arith

  -- of the entries of component k of a row
  pub few_entries : (row k p : ℕ) {l : Listing} → l ≡ listing_at tb row k cells p → l.count ≤ most (row_at tb (type_row row k))
  unfolding component_at listing_of
  few_entries row k p {l} e = rw e (go (is_sequence tb row k) (ltb (length cells) p))
    where
      go : (a b : Bool) → (listing_of tb cells (cond a (cond b (Err (refusal reason.NoValue (length cells))) (part_by (type_row row k) (here_at tb row k cells p) (front_at tb row k cells p))) (Err (refusal reason.UnknownType 0)))).count ≤ most (row_at tb (type_row row k))
      go false b = omega arith
      go true true = omega arith
      go true false = few_part (type_row row k) (here_at tb row k cells p) (front_at tb row k cells p)

-- of a row of the type table
pub few_known : {tb : List ℕ} → tb ≡ numbers rows → (cells : List ℤ) (row k place : ℕ) {own : ℕ} → row ≡ own → {l : Listing} → l ≡ listing_at tb row k cells place → l.count ≤ most (the_rows (part_row own k))
few_known {tb} table cells row k place {own} er {l} e =
    let same : row_at tb (row_at tb ((row_at tb row).first + k)).first ≡ the_rows (part_row own k) =
    ap (λ (r : ℕ). row_at tb (row_at tb ((row_at tb r).first + k)).first) er
    ∙ ap (λ (r : Row). row_at tb (row_at tb (r.first + k)).first) (row_is table own)
    ∙ ap (λ (r : Row). row_at tb r.first) (row_is table ((the_rows own).first + k))
    ∙ row_is table (part_row own k)
    in
    omega (arith, few_entries tb cells row k place e, ap most same)
