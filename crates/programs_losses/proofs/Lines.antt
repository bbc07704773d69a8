-- Every line of the losses program fits into its buffer, and stands at the front of it.
-- Assumes nothing.
use Prim.Native.Nat.{ℕ, ◌<◌, ◌≤◌, ◌^◌}
use mathlib.Core.Bool.{Bool, true, false, cond}
use mathlib.Core.List.{List}
use mathlib.Core.Path.{◌≡◌, refl, ap}
use native.Mathlib.Omega.{arith}
use borrow.Author.Tests.{ne_eqb}
use lib.Dec.{eqb}
use lib.ListN.{length, take, length-append}
use lib.Seq.{take_all}
use Rattle.answers.specs.declared.Answer.{Answer}
use Rattle.printing.specs.Texts.{ascii, hexadecimal}
use Rattle.printing.specs.Buffers.{Appended}
use Rattle.printing.proofs.Appending.{same_text}
use Rattle.printing.proofs.Lengths.{decimal_length, decimal_short, hex_length}
use Rattle.programs.proofs.Inputs.{InFront, same_front, appended_front}
use Rattle.senders.specs.declared.Sender.{Sender}
use Rattle.answers.specs.GivenBack as number
use Rattle.answers.specs.Reasons.{reason_number}
use Rattle.answers.specs.declared.reasons.Reason.{Reason}
use Rattle.answers.proofs.Numbered.{never_done}
use Rattle.senders.specs.Table.{Shown, showing}
use Rattle.std.specs.Prelude.{Ok, Err}
use Rattle.programs_losses.specs.Lines.{longest_line, unread_line, uncounted_line, report_line, kind_word, sender_line, shown_line, totals_line}

-- ---- lengths: a number of 64 bits has at most 20 digits

unread_short : (at : ℕ) (a : Answer) → at < 2 ^ 64 → a.number < 2 ^ 64 → a.place < 2 ^ 64 → length (unread_line at a) ≤ longest_line
unfolding ascii
unread_short at a h n p = simp length-append (omega (arith, decimal_short at h, decimal_short a.number n, decimal_short a.place p))

uncounted_short : (at n : ℕ) → at < 2 ^ 64 → n < 2 ^ 64 → length (uncounted_line at n) ≤ longest_line
unfolding ascii
uncounted_short at n h hn = simp length-append (omega (arith, decimal_short at h, decimal_short n hn))

kind_short : (kind : ℕ) → length (kind_word kind) ≡ 5
unfolding kind_word ascii
kind_short kind = go (eqb kind 0) (eqb kind 2)
  where
    go : (a b : Bool) → length (cond a (ascii " BSM ") (cond b (ascii " RSM ") (ascii " RSI "))) ≡ 5
    go true b = refl
    go false true = refl
    go false false = refl

-- the numbers of a row, of at most 3, 3, 10 and 20 digits
pub record Counts (s : Sender) : Type 0 where
  pub first : s.first < 2 ^ 8
  pub last : s.last < 2 ^ 8
  pub received : s.received < 2 ^ 32
  pub missed : s.missed < 2 ^ 64
  pub id : length s.id ≡ 8

sender_short : (row : ℕ) (s : Sender) → row < 2 ^ 64 → Counts s → length (sender_line row s) ≤ longest_line
unfolding ascii
sender_short row s h c =
    simp length-append
    (omega (
      arith,
      decimal_short row h,
      kind_short s.kind,
      hex_length s.id,
      c.id,
      decimal_length 3 s.first (omega arith) (omega (arith, c.first)),
      decimal_length 3 s.last (omega arith) (omega (arith, c.last)),
      decimal_length 10 s.received (omega arith) (omega (arith, c.received)),
      decimal_short s.missed c.missed,
    ))

totals_short : (records counted : ℕ) → records < 2 ^ 64 → counted < 2 ^ 64 → length (totals_line records counted) ≤ longest_line
unfolding ascii
totals_short records counted h k = simp length-append (omega (arith, decimal_short records h, decimal_short counted k))

-- ---- at the front of a buffer with room

module _ {out : List ℕ} (room : longest_line ≤ length out) (few : length out < 2 ^ 64) {n : ℕ} {out' : List ℕ} where
  pub unread_front : (at : ℕ) (a : Answer) → at < 2 ^ 64 → a.number < 2 ^ 64 → a.place < 2 ^ 64 → Appended (unread_line at a) out 0 n out' → InFront (unread_line at a) out n out'
  unread_front at a h u p = appended_front (omega (arith, unread_short at a h u p, room)) few

  pub uncounted_front : (at number : ℕ) → at < 2 ^ 64 → number < 2 ^ 64 → Appended (uncounted_line at number) out 0 n out' → InFront (uncounted_line at number) out n out'
  uncounted_front at number h u = appended_front (omega (arith, uncounted_short at number h u, room)) few

  pub sender_front : (row : ℕ) (s : Sender) → row < 2 ^ 64 → Counts s → Appended (sender_line row s) out 0 n out' → InFront (sender_line row s) out n out'
  sender_front row s h c = appended_front (omega (arith, sender_short row s h c, room)) few

  pub totals_front : (records counted : ℕ) → records < 2 ^ 64 → counted < 2 ^ 64 → Appended (totals_line records counted) out 0 n out' → InFront (totals_line records counted) out n out'
  totals_front records counted h k = appended_front (omega (arith, totals_short records counted h k, room)) few

pub not_done : {n : ℕ} → ¬ (n ≡ 0) → eqb n 0 ≡ false
not_done isnt = ne_eqb _ 0 isnt

-- what the table counts has no line
pub counted_line : (at : ℕ) (out : List ℕ) → InFront (report_line at number.done) out 0 out
unfolding report_line
counted_line at out = (refl, refl)

-- and what it refuses has one
pub refused_line : (at : ℕ) (why : Reason) → uncounted_line at (reason_number why) ≡ report_line at (reason_number why)
unfolding report_line
refused_line at why = rw (never_done why) refl

-- ---- a row

module _ (row : ℕ) (out : List ℕ) {t : Shown} where
  pub row_free : (why : Reason) → showing (Err why) ≡ t → InFront (shown_line row t) out 0 out
  unfolding shown_line
  row_free why e = rw (← e, never_done why) (refl, refl)

  pub row_held : {s : Sender} → showing (Ok s) ≡ t → {n : ℕ} {out' : List ℕ} → InFront (sender_line row s) out n out' → InFront (shown_line row t) out n out'
  unfolding shown_line
  row_held {s} e = let same : sender_line row s ≡ shown_line row t = rw (← e) refl in same_front same out

-- an id is eight bytes
pub whole_id : (id : List ℕ) {out out' : List ℕ} {at next : ℕ} → length id ≡ 8 → Appended (hexadecimal (take 8 id)) out at next out' → Appended (hexadecimal id) out at next out'
whole_id id e = same_text (ap hexadecimal (take_all 8 id (omega arith)))
