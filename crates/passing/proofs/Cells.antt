-- A whole number in a cell, as the code passes over it, and what the cell says to the steps behind it.
-- Assumes nothing.
use Prim.Native.Nat.{ℕ, ◌+◌, ◌<◌, ◌≤◌}
use mathlib.Core.Path.{◌≡◌, refl, sym, ap, ◌∙◌}
use mathlib.Core.Bool.{Bool, true, false}
use mathlib.Core.List.{List}
use native.Mathlib.Omega.{arith}
use borrow.Author.Tests.{lt-ltb, le-ltb}
use lib.IntN.{ℤ, pos, negsuc, ◌+ℤ◌, ◌-ℤ◌, -ℤ-+ℤ_cancel, +ℤ_comm, pos-+ℤ-pos}
use lib.ListN.{length, get_or}
use Rattle.std.specs.Prelude.{Result, Ok, Err}
use Rattle.answers.specs.declared.Refusal.{Refusal}
use Rattle.bits.specs.Numbers.{to_bits, width}
use Rattle.basics.specs.Lists.{natural, cell_at}
use Rattle.answers.specs.Refusals.{no_value}
use Rattle.types.specs.Shape.{Field, field}
use Rattle.meaning.specs.Steps.{Got, and_then}
use Rattle.meaning.specs.Steps.Got.{ok, refused}
use Rattle.meaning.specs.Writing.{write_whole, write_above}
use Rattle.meaning.proofs.Sides.{WriteWhole, write_whole_lem}
use Rattle.passing.specs.Ended.{Ended, EndedBy, in_range}
use Rattle.passing.proofs.Laws.{went, then}

-- ---- what `number` answers

above_in : (span : ℕ) (z : ℤ) (k : ℕ) → in_range span z ≡ true → (n : ℕ) × (bits : List ℕ) × (write_above span z k ≡ ok n bits (k + 1))
unfolding write_above
above_in span (pos n) k e = (n, to_bits (width span) n, rw e refl)
above_in span (negsuc n) k e = absurd (let z : ◌≡◌ {A = ℕ} 0 1 = cc in omega arith)

above_out : (span : ℕ) (z : ℤ) (k : ℕ) → in_range span z ≡ false → write_above span z k ≡ refused (no_value k)
unfolding write_above
above_out span (pos n) k e = rw e refl
above_out span (negsuc n) k e = refl

module _ (cells : List ℤ) (f : Field) (k : ℕ) where
  pub number_lacks : {r : Result ℕ Refusal} → length cells ≤ k → r ≡ Err (no_value (length cells)) → Ended (length cells) (write_whole f cells k) r
  unfolding EndedBy write_whole
  number_lacks h e = rw (le-ltb k (length cells) h) (record { told = e })

  module _ (h : k < length cells) {is : Bool} (e : is ≡ in_range f.span (get_or cells k (pos 0) -ℤ f.lowest)) where
    pub number_inside : is ≡ true → Ended (length cells) (write_whole f cells k) (Ok (k + 1))
    unfolding EndedBy write_whole
    number_inside t = rw (lt-ltb k (length cells) h, (above_in f.span (get_or cells k (pos 0) -ℤ f.lowest) k (sym e ∙ t)).2) (record { told = (refl, omega arith) })

    pub number_outside : {r : Result ℕ Refusal} → is ≡ false → r ≡ Err (no_value k) → Ended (length cells) (write_whole f cells k) r
    unfolding EndedBy write_whole
    number_outside t er = rw (lt-ltb k (length cells) h, above_out f.span (get_or cells k (pos 0) -ℤ f.lowest) k (sym e ∙ t)) (record { told = er })

-- ---- what the cell says

-- a number of a range that begins at `least`: the cell's value is that number, and is in the range
pub cell_seen : (cells : List ℤ) (least span i : ℕ) {n j : ℕ} {bits : List ℕ} → write_whole (field (pos least) span) cells i ≡ ok n bits j → (cell_at cells i ≡ least + n) × (n ≤ span) × (j ≡ i + 1)
cell_seen cells least span i {n} {j} {bits} e =
    let W : WriteWhole cells (field (pos least) span) i j n bits = write_whole_lem cells (field (pos least) span) i e in
    let z : get_or cells i (pos 0) ≡ pos (least + n) = sym (-ℤ-+ℤ_cancel (get_or cells i (pos 0)) (pos least)) ∙ ap (λ (v : ℤ). v +ℤ pos least) W.is ∙ +ℤ_comm (pos n) (pos least) ∙ pos-+ℤ-pos least n in
    (ap natural z, W.within, sym W.next)

-- a presence cell is the cell at its place
pub flag_seen : (cells : List ℤ) (i n j : ℕ) (bits : List ℕ) → write_whole (field (pos 0) 1) cells i ≡ ok n bits j → (n ≡ cell_at cells i) × (j ≡ i + 1)
flag_seen cells i n j bits e = let s = cell_seen cells 0 1 i e in (omega (arith, s.0), s.2)

-- what follows such a number, by the cell's value
module _ (cells : List ℤ) (least span i : ℕ) {v q : ℕ} {r₁ : Result ℕ Refusal} (ev : v ≡ cell_at cells i) (e : r₁ ≡ Ok q) (t : Ended (length cells) (write_whole (field (pos least) span) cells i) r₁) where
  pub cell_within : v ≤ least + span
  cell_within = let s = cell_seen cells least span i (went e t).is in omega (arith, s.0, s.1)

  pub after_cell : {Y : Type 0} {r : Result ℕ Refusal} (k : ℕ → ℕ → Got ℕ Y) → ((n : ℕ) → v ≡ least + n → n ≤ span → Ended (length cells) (k n q) r) → Ended (length cells) (and_then (write_whole (field (pos least) span) cells i) k) r
  after_cell k u = then k e t (λ W. let s = cell_seen cells least span i W.is in u W.x (ev ∙ s.0) s.1)
