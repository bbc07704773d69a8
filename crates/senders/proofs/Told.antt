-- One answer of the code only tells what it tells: of a call, with one table behind it, and of a row. Assumes nothing.
use Rattle.std.proofs.Common.{◌≡◌, ℕ, Result, Ok, Err, sym, ap}
use Rattle.answers.specs.declared.reasons.Reason.{Reason}
use Rattle.answers.proofs.Numbered.{told_done, numbers_differ}
use Rattle.senders.specs.declared.Sender.{Sender}
use Rattle.senders.specs.declared.Table.{Table}
use Rattle.senders.specs.Table.{Changed, Shown, changed, showing}

pub changed_apart : (t u : Table) (r s : Result ℕ Reason) → changed t r ≡ changed u s → (t ≡ u) × (r ≡ s)
changed_apart t u (Ok m) (Ok n) e = (ap (λ (c : Changed). c.table) e, ap Ok (ap (λ (c : Changed). c.row) e))
changed_apart t u (Ok m) (Err why) e = absurd (told_done why (sym (ap (λ (c : Changed). c.number) e)))
changed_apart t u (Err why) (Ok n) e = absurd (told_done why (ap (λ (c : Changed). c.number) e))
changed_apart t u (Err why) (Err other) e = (ap (λ (c : Changed). c.table) e, ap Err (numbers_differ why other (ap (λ (c : Changed). c.number) e)))

pub showing_apart : (r s : Result Sender Reason) → showing r ≡ showing s → r ≡ s
showing_apart (Ok m) (Ok n) e = ap Ok (ap (λ (c : Shown). c.sender) e)
showing_apart (Ok m) (Err why) e = absurd (told_done why (sym (ap (λ (c : Shown). c.number) e)))
showing_apart (Err why) (Ok n) e = absurd (told_done why (ap (λ (c : Shown). c.number) e))
showing_apart (Err why) (Err other) e = ap Err (numbers_differ why other (ap (λ (c : Shown). c.number) e))
