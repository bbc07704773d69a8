-- What the loss count says of the messages missed (document 01, Positions and counts). Assumes nothing.
use Rattle.std.proofs.Common.{◌≡◌, ℕ, ◌+◌, ◌%◌, ◌≤◌, refl, ap, ◌∙◌, arith, le-leb, sym, Result, Ok, Err}
use Rattle.answers.specs.declared.reasons.Reason.{Reason}
use Rattle.loss.specs.Ring.{Loss, ring_formula, missed_between, counted, told}
use Rattle.loss.proofs.Ring.{as_a_sum}
use Rattle.answers.proofs.Numbered.{told_done, numbers_differ}

-- two counts in range are counted by the ring formula
pub counts_in_range : (old new : ℕ) → old ≤ 127 → new ≤ 127 → missed_between old new ≡ counted (ring_formula old new)
unfolding missed_between
counts_in_range old new h k = rw (le-leb old 127 h, le-leb new 127 k)

-- "equal counts give 127"
pub equal_counts : (n : ℕ) → n ≤ 127 → missed_between n n ≡ counted 127
equal_counts n h =
    let e : ring_formula n n ≡ 127 = as_a_sum n n h ∙ omega arith in
    counts_in_range n n h h ∙ ap counted e

-- "Old 127, new 0: missed 0" (document 01, Bench cases)
pub last_then_first : missed_between 127 0 ≡ counted 0
unfolding missed_between ring_formula
last_then_first = refl

-- the new count stands as many places behind the old one's next as messages were missed
pub new_count_after_the_missed :
    (old new : ℕ) → old ≤ 127 → new ≤ 127 → (old + 1 + ring_formula old new) % 128 ≡ new
new_count_after_the_missed old new h k = rw (as_a_sum old new h) (omega arith)

-- fewer than 128 messages are missed, and no other number below 128 leads from the old count to the new one
pub missed_below_128 : (old new : ℕ) → old ≤ 127 → ring_formula old new ≤ 127
missed_below_128 old new h = rw (as_a_sum old new h) (omega arith)

pub only_number_missed :
    (old new n : ℕ) → old ≤ 127 → n ≤ 127 → (old + 1 + n) % 128 ≡ new → n ≡ ring_formula old new
only_number_missed old new n h k e = rw (as_a_sum old new h) (omega arith)

-- one answer of the code only tells this: what it tells has all of it
pub told_apart : (r s : Result ℕ Reason) → told r ≡ told s → r ≡ s
told_apart (Ok m) (Ok n) e = ap Ok (ap (λ (l : Loss). l.missed) e)
told_apart (Ok m) (Err why) e = absurd (told_done why (sym (ap (λ (l : Loss). l.number) e)))
told_apart (Err why) (Ok n) e = absurd (told_done why (ap (λ (l : Loss). l.number) e))
told_apart (Err why) (Err other) e = ap Err (numbers_differ why other (ap (λ (l : Loss). l.number) e))
